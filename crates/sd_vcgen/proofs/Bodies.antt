-- Statements that have been run on numbers.
use Rattle.std.proofs.Common.{◌≡◌, ℕ, ◌+◌, ◌<◌, List, [], ◌∷◌, ◌++◌, length, drop, get_or, sym, ap, subst, ◌∙◌, arith}
use Rattle.std.specs.Prelude.{All, map, true, false}
use Rattle.std.proofs.lemmas.List.{map-append, append_assoc}
use Rattle.std.proofs.lemmas.List.Elements.{All-push}
use Rattle.sd_base.specs.declared.Var.{Var}
use Rattle.sd_core.specs.declared.CoreExpr.{CoreExpr}
use Rattle.sd_core.specs.declared.CoreStmt.{CoreStmt, Assign, If}
use Rattle.sd_core.specs.declared.CoreProc.{CoreProc}
use Rattle.sd_core.specs.declared.Spot.{Spot}
use Rattle.sd_core.specs.Store.{Store, read}
use Rattle.sd_core.specs.Run.{out_spots}
use Rattle.sd_core.specs.declared.Function.{Function}
use Rattle.sd_term.specs.declared.node.Head.TheVariants as head
use Rattle.sd_term.specs.Tree.{Tree, leaf}
use Rattle.sd_term.specs.Bank.{tree_at}
use Rattle.sd_term.specs.Build.{Extends, not_of, and_of, or_of}
use Rattle.sd_vcgen.specs.Body.{State, Context, nothing, constant, term_in, guard_of, count, count_all, step, all_steps, begun}
use Rattle.sd_vcgen.specs.Body as spec
use Rattle.sd_vcgen.specs.Numbers.{Denotes, DenoteAll, DenoteSites, AreWithin, store_of, AreTermsOf, Stands, state_of, IsWithin}
use Rattle.sd_vcgen.specs.declared.body.BodyState.{BodyState}
use Rattle.sd_vcgen.specs.declared.call.Site.{Site}
use Rattle.sd_vcgen.specs.declared.spots.Spots.{Spots}
use Rattle.sd_vcgen.proofs.Numbers.{extends_then, denotes_later, all_later, trees_later, store_later, stands_later, stands_for, state_later, guarded}
use Rattle.sd_vcgen.proofs.Loops.{drop_split}
use Rattle.sd_vcgen.proofs.Rows.{if_count, if_step}

-- where both lists have been run, the choice has
pub if_is : (C : Context) (a b d : List Tree) (n after : BodyState) (t : CoreStmt) (e : CoreExpr) (x y xs ys : List CoreStmt) (path then_path else_path : ℕ) → t ≡ If e x y → xs ≡ x → ys ≡ y → IsWithin a n → Extends a b → Extends b d
    → Denotes b then_path (and_of (tree_at a path) (term_in C.program.functions (state_of a n).store e)) → Denotes b else_path (and_of (tree_at a path) (not_of (term_in C.program.functions (state_of a n).store e)))
    → Stands d after (all_steps C xs n.next (tree_at b then_path) (state_of b n)) → after.next ≡ n.next + count_all C xs
    → all_steps C ys after.next (tree_at d else_path) (state_of d after) ≡ step C t n.next (tree_at a path) (state_of a n)
if_is C a b d n after t e x y xs ys path then_path else_path is ex ey w ab bd taken other stands counted =
    let first : state_of d after ≡ all_steps C x n.next (and_of (tree_at a path) (term_in C.program.functions (state_of a n).store e)) (state_of a n) =
    stands_for d after _ stands ∙ (λ i. all_steps C (ex i) n.next (taken.tree i) (state_later a b n ab w i)) in
    let next : after.next ≡ n.next + count_all C x = counted ∙ ap (λ (l : List CoreStmt). n.next + count_all C l) ex in
    let else' : tree_at d else_path ≡ and_of (tree_at a path) (not_of (term_in C.program.functions (state_of a n).store e)) = bd.kept else_path other.within ∙ other.tree in
    (λ i. all_steps C (ey i) (next i) (else' i) (first i)) ∙ sym (if_step C e x y n.next (tree_at a path) (state_of a n)) ∙ ap (λ (j : CoreStmt). step C j n.next (tree_at a path) (state_of a n)) (sym is)

pub if_counts : (C : Context) (first second : ℕ) (t : CoreStmt) (e : CoreExpr) (x y xs ys : List CoreStmt) → t ≡ If e x y → xs ≡ x → ys ≡ y → second ≡ first + count_all C xs → second + count_all C ys ≡ first + count C t
if_counts C first second t e x y xs ys is ex ey p =
    let whole : count C t ≡ count_all C x + count_all C y = ap (count C) is ∙ if_count C e x y in
    let left = ap (count_all C) ex in
    let right = ap (count_all C) ey in
    omega (arith, whole, left, right, p)

-- one more statement has been run
pub steps_next : (C : Context) (a b d : List Tree) (n after : BodyState) (ss : List CoreStmt) (i : ℕ) (x : CoreStmt) (path : ℕ) (end : State) → path < length a → Extends a b → i < length ss → x ≡ get_or ss i x
    → Stands d after (step C x n.next (tree_at b path) (state_of b n)) → after.next ≡ n.next + count C x → all_steps C (drop i ss) n.next (tree_at a path) (state_of b n) ≡ end → all_steps C (drop (i + 1) ss) after.next (tree_at a path) (state_of d after) ≡ end
steps_next C a b d n after ss i x path end lt ab below at stands counted so =
    let here : state_of d after ≡ step C x n.next (tree_at a path) (state_of b n) = stands_for d after _ stands ∙ ap (λ (t : Tree). step C x n.next t (state_of b n)) (ab.kept path lt) in
    (λ j. all_steps C (drop (i + 1) ss) (counted j) (tree_at a path) (here j)) ∙ sym (ap (λ (l : List CoreStmt). all_steps C l n.next (tree_at a path) (state_of b n)) (drop_split ss i x x below at)) ∙ so

pub counts_next : (C : Context) (now after whole : ℕ) (ss : List CoreStmt) (i : ℕ) (x : CoreStmt) → i < length ss → x ≡ get_or ss i x → after ≡ now + count C x → now + count_all C (drop i ss) ≡ whole → after + count_all C (drop (i + 1) ss) ≡ whole
counts_next C now after whole ss i x below at counted so =
    let split : count_all C (drop i ss) ≡ count C x + count_all C (drop (i + 1) ss) = ap (count_all C) (drop_split ss i x x below at) in
    omega (arith, split, counted, so)

-- an assignment
pub assigned : (C : Context) (F : List Function) (a b d e : List Tree) (n : BodyState) (after : Spots) (path guard : ℕ) (targets : List Spot) (rights : List CoreExpr) (news passed : List ℕ) → F ≡ C.program.functions → IsWithin a n → path < length a
    → Extends a b → DenoteAll b news (map (term_in F (store_of a n.spots)) rights) → Extends b d → Denotes d guard (and_of (tree_at b path) (not_of (tree_at b n.gone))) → Extends d e → AreWithin e after → passed ≡ news
    → store_of e after ≡ spec.assign (tree_at d guard) (store_of d n.spots) targets (map (tree_at d) passed)
    → Stands e (record { spots = after; flag = n.flag; gone = n.gone; assumes = n.assumes; sites = n.sites; next = n.next }) (step C (Assign targets rights) n.next (tree_at a path) (state_of a n))
assigned C F a b d e n after path guard targets rights news passed ef w lt ab dn bd dg de wa same is =
    let ad = extends_then a b d ab bd in
    let k = stands_later a e n (state_of a n) (extends_then a d e ad de) w in
    let g = guarded a b d n path guard w lt ab dg in
    let ts = ap (map (tree_at d)) same ∙ trees_later b d news bd dn.within ∙ dn.trees ∙ ap (λ (G : List Function). map (term_in G (store_of a n.spots)) rights) ef in
    record {
      within = wa;
      store = is ∙ (λ i. spec.assign (g i) (store_later a d n.spots ad w.within i) targets (ts i));
      flag = k.flag;
      gone = k.gone;
      assumes = k.assumes;
      sites = k.sites;
    }

-- an assumption
pub assumed : (a b d e f : List Tree) (n : BodyState) (path holds guard elsewhere id : ℕ) (more : List ℕ) (c told : Tree) → IsWithin a n → path < length a → Extends a b → Denotes b holds told → told ≡ c
    → Extends b d → Denotes d guard (and_of (tree_at b path) (not_of (tree_at b n.gone))) → Extends d e → tree_at e elsewhere ≡ not_of (tree_at d guard) → Extends e f → id < length f → tree_at f id ≡ or_of (tree_at e elsewhere) (tree_at e holds) → more ≡ n.assumes ++ id ∷ []
    → Stands f (record { spots = n.spots; flag = n.flag; gone = n.gone; assumes = more; sites = n.sites; next = n.next }) (spec.assume (guard_of (tree_at a path) (state_of a n)) c (state_of a n))
assumed a b d e f n path holds guard elsewhere id more c told w lt ab dh same bd dg de u ef below t m =
    let be = extends_then b d e bd de in
    let k = stands_later a f n (state_of a n) (extends_then a e f (extends_then a b e ab be) ef) w in
    let g = guarded a b d n path guard w lt ab dg in
    let h : tree_at e holds ≡ c = be.kept holds dh.within ∙ dh.tree ∙ same in
    let is : tree_at f id ≡ or_of (not_of (guard_of (tree_at a path) (state_of a n))) c = t ∙ (λ i. or_of ((u ∙ ap not_of g) i) (h i)) in
    record {
      within = k.within;
      store = k.store;
      flag = k.flag;
      gone = k.gone;
      assumes = record {
        within = subst (All (λ i. i < length f)) (sym m) (All-push (λ i. i < length f) n.assumes id k.assumes.within below);
        trees = ap (map (tree_at f)) m ∙ map-append (tree_at f) n.assumes (id ∷ []) ∙ (λ i. k.assumes.trees i ++ is i ∷ []);
      };
      sites = k.sites;
    }

-- the beginning of a body
pub begins : (a b1 b2 b3 b4 : List Tree) (p : CoreProc) (ins globals slots more all others assumes : List ℕ) (sites : List Site) (outs locals : List Var) (flag gone first : ℕ) → All (λ i. i < length a) ins → All (λ i. i < length a) globals
    → Extends a b1 → Denotes b1 flag (constant false) → Extends b1 b2 → Denotes b2 gone (constant false)
    → slots ≡ ins → outs ≡ p.outs → Extends b2 b3 → DenoteAll b3 more (map (tree_at b2) slots ++ map (λ v. leaf (head.Start v.sort)) outs) → locals ≡ p.locals → Extends b3 b4 → DenoteAll b4 all (map (tree_at b3) more ++ map (λ v. leaf (head.Start v.sort)) locals)
    → others ≡ globals → assumes ≡ [] → sites ≡ []
    → Stands b4 (record { spots = record { slots = all; globals = others }; flag = flag; gone = gone; assumes = assumes; sites = sites; next = first }) (begun p (map (tree_at a) ins) (map (tree_at a) globals))
begins a b1 b2 b3 b4 p ins globals slots more all others assumes sites outs locals flag gone first wi wg a1 df b12 dg es eo b23 d3 el b34 d4 eg ea es' =
    let a2 = extends_then a b1 b2 a1 b12 in
    let a4 = extends_then a b2 b4 a2 (extends_then b2 b3 b4 b23 b34) in
    let begin = map (tree_at a) ins in
    let given : map (tree_at b2) slots ≡ begin = ap (map (tree_at b2)) es ∙ trees_later a b2 ins a2 wi in
    let started : map (tree_at b3) more ≡ begin ++ map (λ v. leaf (head.Start v.sort)) p.outs = d3.trees ∙ (λ i. given i ++ map (λ v. leaf (head.Start v.sort)) (eo i)) in
    let second : map (tree_at b4) all ≡ begin ++ (map (λ v. leaf (head.Start v.sort)) p.outs ++ map (λ v. leaf (head.Start v.sort)) p.locals) =
    d4.trees ∙ (λ i. started i ++ map (λ v. leaf (head.Start v.sort)) (el i)) ∙ append_assoc begin (map (λ v. leaf (head.Start v.sort)) p.outs) (map (λ v. leaf (head.Start v.sort)) p.locals) in
    let rest : map (tree_at b4) others ≡ map (tree_at a) globals = ap (map (tree_at b4)) eg ∙ trees_later a b4 globals a4 wg in
    record {
      within = record { slots = d4.within; globals = subst (All (λ i. i < length b4)) (sym eg) (all_later a b4 globals a4 wg) };
      store = λ i. record { slots = second i; globals = rest i };
      flag = denotes_later b1 b4 flag (constant false) (extends_then b1 b2 b4 b12 (extends_then b2 b3 b4 b23 b34)) df;
      gone = denotes_later b2 b4 gone (constant false) (extends_then b2 b3 b4 b23 b34) dg;
      assumes = record { within = subst (All (λ i. i < length b4)) (sym ea) (λ k d lt. absurd (omega (arith, lt))); trees = ap (map (tree_at b4)) ea };
      sites = subst (λ (l : List Site). DenoteSites b4 l []) (sym es') tt;
    }

-- the end of a body
pub ends : (a b d e : List Tree) (C : Context) (p : CoreProc) (k : ℕ) (ins globals : List Tree) (n after : BodyState) (path : ℕ) (body : List CoreStmt) (outs : List ℕ) → Stands a n (begun p ins globals) → n.next ≡ k → Extends a b → Denotes b path (constant true) → body ≡ p.body
    → Stands d after (all_steps C body n.next (tree_at b path) (state_of b n)) → Extends d e → DenoteAll e outs (map (read nothing (store_of d after.spots)) (out_spots p))
    → AreTermsOf e (record { outs = outs; globals = after.spots.globals; flag = after.flag; assumes = after.assumes; sites = after.sites; next = after.next }) p (spec.body_of C p k ins globals)
ends a b d e C p k ins globals n after path body outs s ek ab dp eb stands de douts =
    let here = stands_for b n (begun p ins globals) (stands_later a b n (begun p ins globals) ab s) in
    let end : all_steps C body n.next (tree_at b path) (state_of b n) ≡ spec.body_of C p k ins globals = λ i. all_steps C (eb i) (ek i) (dp.tree i) (here i) in
    let last = subst (Stands e after) end (stands_later d e after _ de stands) in
    let store = stands.store ∙ ap (λ (t : State). t.store) end in
    record {
      outs = record { within = douts.within; trees = douts.trees ∙ ap (λ (st : Store Tree). map (read nothing st) (out_spots p)) store };
      globals = record { within = last.within.globals; trees = ap (λ (st : Store Tree). st.globals) last.store };
      flag = last.flag;
      assumes = last.assumes;
      sites = last.sites;
    }

-- how many symbols it took
pub ends_next : (C : Context) (k first after : ℕ) (p : CoreProc) (body : List CoreStmt) → first ≡ k → body ≡ p.body → after ≡ first + count_all C body → after ≡ k + count_all C p.body
ends_next C k first after p body ek eb counted = counted ∙ (λ i. ek i + count_all C (eb i))
