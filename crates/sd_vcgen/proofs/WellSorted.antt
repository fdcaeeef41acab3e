-- The terms of a body are well sorted. Building over well sorted terms gives well sorted terms.
use Rattle.std.proofs.Common.{◌≡◌, ℕ, zero, suc, ◌+◌, List, [], ◌∷◌, ◌++◌, length, get_or, refl, sym, subst, ◌∙◌, append_assoc, append-nil}
use Rattle.std.specs.Prelude.{Bool, true, false, Option, Some, map, set, slice_get}
use Rattle.std.specs.List.{AllByRecursion, flat_map}
use Rattle.std.proofs.lemmas.List.Concat.{flat_map-cons}
use Rattle.sd_base.specs.declared.Sort.{Sort, Int, Bool as BoolSort, Named}
use Rattle.sd_base.specs.declared.Var.{Var}
use Rattle.sd_base.specs.Sorts.{MapOf}
use Rattle.sd_core.specs.declared.Spot.{Spot}
use Rattle.sd_core.specs.declared.Spot.TheVariants.{Slot, Global}
use Rattle.sd_core.specs.declared.CoreOp.{CoreOp}
use Rattle.sd_core.specs.declared.CoreOp.TheVariants as op
use Rattle.sd_core.specs.declared.CoreExpr.{CoreExpr, Num, At, Const, Apply', Op', Row_of-CoreExpr, end_of-CoreExpr, more_of-CoreExpr, Truth as Literal}
use Rattle.sd_core.specs.declared.CoreStmt.{CoreStmt, Assign, If', Call, Assume, Fail, Return, Row_of-CoreStmt, end_of-CoreStmt, more_of-CoreStmt}
use Rattle.sd_core.specs.declared.CoreProc.{CoreProc}
use Rattle.sd_core.specs.declared.CoreProgram.{CoreProgram}
use Rattle.sd_core.specs.declared.Function.{Function}
use Rattle.sd_core.specs.Store.{Store, read, write, map_store, set_all}
use Rattle.sd_core.specs.Run.{out_spots}
use Rattle.sd_core.specs.Formed as core
use Rattle.sd_core.specs.Formed.{WellFormed, sorts_of, state_sorts, HasType, HaveTypes, AllHaveTypes, AreSpotsOf, IsFormed, AreFormed, AllFormed}
use Rattle.sd_term.specs.declared.node.Head.{Head}
use Rattle.sd_term.specs.declared.node.Head.TheVariants as head
use Rattle.sd_term.specs.Heads.{Add, Sub, Mul, Neg, Read, Write}
use Rattle.sd_term.specs.Tree.{Tree, leaf, call, applied, tree}
use Rattle.sd_term.specs.Sorts as term
use Rattle.sd_term.specs.Sorts.{sort_of, Takes, PartsWellSorted, IsWellSorted, AllWellSorted}
use Rattle.sd_term.specs.Build.{not_of, and_of, or_of, ite_of}
use Rattle.sd_term.proofs.Trees.{head_of-applied}
use Rattle.sd_term.proofs.BuildSorts.{not-sort, and-sort, or-sort, ite-sort, not-well, and-well, or-well, ite-well, eq-well, le-well}
use Rattle.sd_vcgen.specs.Body.{Site, State, Context, nothing, constant, op_term, result_of, term_in, terms_in, guard_of, assign, symbols, site_flag, modified_sorts, changed, site_of, count, row_count, step, steps, all_steps, begun, body_of, outs_of, call as call_term}
use Rattle.sd_vcgen.specs.Laws.{site_terms, BodiesAreWellSorted}
use Rattle.sd_vcgen.proofs.Truths.{all_push}
use Rattle.sd_vcgen.proofs.Typed.{by_one, by_two, by_three, spot-sort, write-sorts, assign-sorts, term-sort, terms-sort, all-sorts}
use Rattle.sd_vcgen.proofs.Symbols.{symbols-sort, modified-spots}
use Rattle.sd_vcgen.proofs.Sorted.{changed-sorts, call-sorts, begun-sorts}

-- ---- terms

-- the sorts of the parts of a tree
pub sorts-applied : (t : Tree) (xs : List Tree) → term.sorts_of (applied t xs) ≡ term.sorts_of t ++ map sort_of xs
sorts-applied t [] = sym (append-nil (term.sorts_of t))
sorts-applied t (x ∷ xs) = sorts-applied (call t x) xs ∙ append_assoc (term.sorts_of t) (sort_of x ∷ []) (map sort_of xs)

parts-applied : (t : Tree) (xs : List Tree) → PartsWellSorted t → AllWellSorted xs → PartsWellSorted (applied t xs)
parts-applied t [] p w = p
parts-applied t (x ∷ xs) p w = parts-applied (call t x) xs (p, w.0) w.1

-- a head over well sorted parts of sorts that it takes
pub tree-well : (h : Head) (ts : List Tree) → AllWellSorted ts → Takes h (map sort_of ts) → IsWellSorted (tree h ts)
tree-well h ts w k =
    let over : Takes h (term.sorts_of (tree h ts)) = subst (λ ss. Takes h ss) (sym (sorts-applied (leaf h) ts)) k in
    (parts-applied (leaf h) ts tt w, subst (λ g. Takes g (term.sorts_of (tree h ts))) (sym (head_of-applied (leaf h) ts)) over)

pub constant-well : (b : Bool) → IsWellSorted (constant b)
constant-well true = (tt, refl)
constant-well false = (tt, refl)

pub symbols-well : (k : ℕ) (ss : List Sort) → AllWellSorted (symbols k ss)
symbols-well k [] = tt
symbols-well k (s ∷ ss) = ((tt, refl), symbols-well (suc k) ss)

-- ---- lists of terms

pub append-well : (ts us : List Tree) → AllWellSorted ts → AllWellSorted us → AllWellSorted (ts ++ us)
append-well [] us v w = w
append-well (t ∷ ts) us v w = (v.0, append-well ts us v.1 w)

pub front-well : (ts us : List Tree) → AllWellSorted (ts ++ us) → AllWellSorted ts
front-well [] us w = tt
front-well (t ∷ ts) us w = (w.0, front-well ts us w.1)

pub back-well : (ts us : List Tree) → AllWellSorted (ts ++ us) → AllWellSorted us
back-well [] us w = w
back-well (t ∷ ts) us w = back-well ts us w.1

-- what stands at a place, and where there is no such place
pub get-well : (ts : List Tree) (i : ℕ) → AllWellSorted ts → IsWellSorted (get_or ts i nothing)
get-well [] i w = constant-well false
get-well (t ∷ ts) zero w = w.0
get-well (t ∷ ts) (suc i) w = get-well ts i w.1

pub set-well : (ts : List Tree) (i : ℕ) (t : Tree) → AllWellSorted ts → IsWellSorted t → AllWellSorted (set ts i t)
set-well [] i t w v = tt
set-well (u ∷ ts) zero t w v = (v, w.1)
set-well (u ∷ ts) (suc i) t w v = (w.0, set-well ts i t w.1 v)

pub set_all-well : (ts : List Tree) (ms : List ℕ) (us : List Tree) → AllWellSorted ts → AllWellSorted us → AllWellSorted (set_all ts ms us)
set_all-well ts [] us w v = w
set_all-well ts (m ∷ ms) [] w v = w
set_all-well ts (m ∷ ms) (u ∷ us) w v = set_all-well (set ts m u) ms us (set-well ts m u w v.0) v.1

-- ---- conditions

-- a well sorted term of type bool
pub record IsCondition (t : Tree) : Type 0 where
  pub well : IsWellSorted t
  pub sort : sort_of t ≡ BoolSort

pub constant-condition : (b : Bool) → IsCondition (constant b)
constant-condition true = record { well = constant-well true; sort = refl }
constant-condition false = record { well = constant-well false; sort = refl }

pub not-condition : (t : Tree) → IsCondition t → IsCondition (not_of t)
not-condition t h = record { well = not-well t h.well h.sort; sort = not-sort t }

pub and-condition : (t u : Tree) → IsCondition t → IsCondition u → IsCondition (and_of t u)
and-condition t u h k = record { well = and-well t u h.well k.well h.sort k.sort; sort = and-sort t u }

pub or-condition : (t u : Tree) → IsCondition t → IsCondition u → IsCondition (or_of t u)
or-condition t u h k = record { well = or-well t u h.well k.well h.sort k.sort; sort = or-sort t u }

pub implies-condition : (t u : Tree) → IsCondition t → IsCondition u → IsCondition (or_of (not_of t) u)
implies-condition t u h k = or-condition (not_of t) u (not-condition t h) k

pub flag-condition : (infallible : Bool) (k : ℕ) → IsCondition (site_flag infallible k)
flag-condition true k = constant-condition false
flag-condition false k = record { well = (tt, refl); sort = refl }

-- ---- states

pub record WellStore (st : Store Tree) : Type 0 where
  pub slots : AllWellSorted st.slots
  pub globals : AllWellSorted st.globals

pub read-well : (st : Store Tree) (p : Spot) → WellStore st → IsWellSorted (read nothing st p)
read-well st (Slot i) w = get-well st.slots i w.slots
read-well st (Global i) w = get-well st.globals i w.globals

pub reads-well : (st : Store Tree) (ps : List Spot) → WellStore st → AllWellSorted (map (read nothing st) ps)
reads-well st [] w = tt
reads-well st (p ∷ ps) w = (read-well st p w, reads-well st ps w)

pub write-well : (st : Store Tree) (p : Spot) (t : Tree) → WellStore st → IsWellSorted t → WellStore (write st p t)
write-well st (Slot i) t w v = record { slots = set-well st.slots i t w.slots v; globals = w.globals }
write-well st (Global i) t w v = record { slots = w.slots; globals = set-well st.globals i t w.globals v }

pub assign-well : (S : Store Sort) (g : Tree) (ps : List Spot) (ts : List Tree) (ss : List Sort) (st : Store Tree) → AreSpotsOf S ps ss → map sort_of ts ≡ ss → map_store sort_of st ≡ S
    → IsCondition g → AllWellSorted ts → WellStore st → WellStore (assign g st ps ts)
assign-well S g [] ts ss st h f e c v w = w
assign-well S g (p ∷ ps) [] ss st h f e c v w = w
assign-well S g (p ∷ ps) (t ∷ ts) [] st h f e c v w = absurd h
assign-well S g (p ∷ ps) (t ∷ ts) (s ∷ ss) st h f e c v w =
    let here : sort_of t ≡ s = cc in
    let rest : map sort_of ts ≡ ss = cc in
    let old = read nothing st p in
    let new = ite_of g t old in
    let well : IsWellSorted new = ite-well g t old c.well v.0 (read-well st p w) c.sort (here ∙ sym (spot-sort S st p s e h.0)) in
    assign-well S g ps ts ss (write st p new) h.1 rest (write-sorts S st p new s e h.0 (ite-sort g t old ∙ here)) c v.1 (write-well st p new w well)

-- ---- expressions

pub operator-well : (o : CoreOp) (ts : List Tree) (ss : List Sort) (s : Sort) → map sort_of ts ≡ ss → core.Takes o ss s → AllWellSorted ts → IsWellSorted (op_term o ts)
operator-well op.Not ts ss s e t a = by_one ts BoolSort (λ l. AllWellSorted l → IsWellSorted (op_term op.Not l)) (e ∙ t.0) (λ x p w. not-well x w.0 p) a
operator-well op.And ts ss s e t a = by_two ts BoolSort BoolSort (λ l. AllWellSorted l → IsWellSorted (op_term op.And l)) (e ∙ t.0) (λ x y p q w. and-well x y w.0 w.1.0 p q) a
operator-well op.Or ts ss s e t a = by_two ts BoolSort BoolSort (λ l. AllWellSorted l → IsWellSorted (op_term op.Or l)) (e ∙ t.0) (λ x y p q w. or-well x y w.0 w.1.0 p q) a
operator-well op.Eq ts ss s e t a = by_two ts t.0.0 t.0.0 (λ l. AllWellSorted l → IsWellSorted (op_term op.Eq l)) (e ∙ t.0.1) (λ x y p q w. eq-well x y w.0 w.1.0 (p ∙ sym q)) a
operator-well op.Le ts ss s e t a = by_two ts Int Int (λ l. AllWellSorted l → IsWellSorted (op_term op.Le l)) (e ∙ t.0) (λ x y p q w. le-well x y w.0 w.1.0 p q) a
operator-well op.Add ts ss s e t a = by_two ts Int Int (λ l. AllWellSorted l → IsWellSorted (op_term op.Add l)) (e ∙ t.0) (λ x y p q w. tree-well Add (x ∷ y ∷ []) w (λ i. p i ∷ q i ∷ [])) a
operator-well op.Sub ts ss s e t a = by_two ts Int Int (λ l. AllWellSorted l → IsWellSorted (op_term op.Sub l)) (e ∙ t.0) (λ x y p q w. tree-well Sub (x ∷ y ∷ []) w (λ i. p i ∷ q i ∷ [])) a
operator-well op.Mul ts ss s e t a = by_two ts Int Int (λ l. AllWellSorted l → IsWellSorted (op_term op.Mul l)) (e ∙ t.0) (λ x y p q w. tree-well Mul (x ∷ y ∷ []) w (λ i. p i ∷ q i ∷ [])) a
operator-well op.Neg ts ss s e t a = by_one ts Int (λ l. AllWellSorted l → IsWellSorted (op_term op.Neg l)) (e ∙ t.0) (λ x p w. tree-well Neg (x ∷ []) w (λ i. p i ∷ [])) a
operator-well op.Read ts ss s e t a =
    by_two ts (MapOf t.0 s) t.0 (λ l. AllWellSorted l → IsWellSorted (op_term op.Read l)) (e ∙ t.1) (λ x y p q w. tree-well Read (x ∷ y ∷ []) w (t.0, s, λ i. p i ∷ q i ∷ [])) a
operator-well op.Write ts ss s e t a =
    by_three ts (MapOf t.0 t.1) t.0 t.1 (λ l. AllWellSorted l → IsWellSorted (op_term op.Write l)) (e ∙ t.3)
    (λ x y z p q r w. tree-well Write (x ∷ y ∷ z ∷ []) w (t.0, t.1, t.2, λ i. p i ∷ q i ∷ r i ∷ [])) a

mutual
  pub term-well : (F : List Function) (S : Store Sort) (st : Store Tree) (e : CoreExpr) (s : Sort) → map_store sort_of st ≡ S → HasType F S e s → WellStore st → IsWellSorted (term_in F st e)
  term-well F S st (Num n) s k h w = (tt, refl)
  term-well F S st (Literal b) s k h w = constant-well b
  term-well F S st (At p) s k h w = read-well st p w
  term-well F S st (Const c) s k h w = (tt, refl)
  term-well F S st (Apply' f n es) s k h w = tree-well (head.App f (result_of (core.declared_as false F f))) (terms_in F st es) (terms-well F S st es h.0.args k h.2 w) tt
  term-well F S st (Op' o n es) s k h w = operator-well o (terms_in F st es) h.0 s (terms-sort F S st es h.0 k h.1) h.2 (terms-well F S st es h.0 k h.1 w)

  pub terms-well : (F : List Function) (S : Store Sort) (st : Store Tree) {n : _} (es : Row_of-CoreExpr n) (ss : List Sort) → map_store sort_of st ≡ S → HaveTypes F S es ss → WellStore st → AllWellSorted (terms_in F st es)
  terms-well F S st end_of-CoreExpr ss k h w = tt
  terms-well F S st (more_of-CoreExpr e es) [] k h w = absurd h
  terms-well F S st (more_of-CoreExpr e es) (s ∷ ss) k h w = (term-well F S st e s k h.0 w, terms-well F S st es ss k h.1 w)

pub all-well : (F : List Function) (S : Store Sort) (st : Store Tree) (es : List CoreExpr) (ss : List Sort) → map_store sort_of st ≡ S → AllHaveTypes F S es ss → WellStore st → AllWellSorted (map (term_in F st) es)
all-well F S st [] ss k h w = tt
all-well F S st (e ∷ es) [] k h w = absurd h
all-well F S st (e ∷ es) (s ∷ ss) k h w = (term-well F S st e s k h.0 w, all-well F S st es ss k h.1 w)

pub term-condition : (F : List Function) (S : Store Sort) (st : Store Tree) (e : CoreExpr) → map_store sort_of st ≡ S → HasType F S e BoolSort → WellStore st → IsCondition (term_in F st e)
term-condition F S st e k h w = record { well = term-well F S st e BoolSort k h w; sort = term-sort F S st e BoolSort k h }

-- ---- statements

-- every term of a call is well sorted
abbrev pub WellSite : Site → Type 0
WellSite site = AllWellSorted (site_terms site)

pub sites-well : (sites : List Site) → AllByRecursion WellSite sites → AllWellSorted (flat_map site_terms sites)
sites-well [] h = tt
sites-well (site ∷ sites) h =
    subst AllWellSorted (sym (flat_map-cons site_terms site sites)) (append-well (site_terms site) (flat_map site_terms sites) h.0 (sites-well sites h.1))

pub each-site-well : (sites : List Site) → AllWellSorted (flat_map site_terms sites) → AllByRecursion WellSite sites
each-site-well [] w = tt
each-site-well (site ∷ sites) w =
    let both : AllWellSorted (site_terms site ++ flat_map site_terms sites) = subst AllWellSorted (flat_map-cons site_terms site sites) w in
    (front-well (site_terms site) (flat_map site_terms sites) both, each-site-well sites (back-well (site_terms site) (flat_map site_terms sites) both))

-- the types of the store, and that all is well sorted
record Well (P : CoreProgram) (p : CoreProc) (s : State) : Type 0 where
  sorts : map_store sort_of s.store ≡ state_sorts P p
  store : WellStore s.store
  flag : IsCondition s.flag
  gone : IsCondition s.gone
  assumes : AllWellSorted s.assumes
  sites : AllByRecursion WellSite s.sites

guard-condition : (P : CoreProgram) (p : CoreProc) (path : Tree) (s : State) → IsCondition path → Well P p s → IsCondition (guard_of path s)
guard-condition P p path s c h = and-condition path (not_of s.gone) c (not-condition s.gone h.gone)

module _ (C : Context) (formed : WellFormed C.program) (p : CoreProc) where
  abbrev P : CoreProgram
  P = C.program

  abbrev F : List Function
  F = P.functions

  abbrev S : Store Sort
  S = state_sorts P p

  call-store : (k : ℕ) (g : Tree) (q : ℕ) (callee : CoreProc) (ps : List Spot) (st : Store Tree) → slice_get P.procs q ≡ Some callee → AreSpotsOf S ps (sorts_of callee.outs) → map_store sort_of st ≡ S
      → IsCondition g → WellStore st → WellStore (assign g (assign g st (map Global callee.modifies) (changed P k callee)) ps (symbols k (sorts_of callee.outs)))
  call-store k g q callee ps st found spots e c w =
      let changes = modified_sorts P callee in
      let mid = assign g st (map Global callee.modifies) (changed P k callee) in
      let globals : WellStore mid =
      assign-well S g (map Global callee.modifies) (changed P k callee) changes st
      (modified-spots P p callee.modifies (formed.procs q callee found).modifies) (symbols-sort (k + length callee.outs) changes) e
      c (symbols-well (k + length callee.outs) changes) w in
      assign-well S g ps (symbols k (sorts_of callee.outs)) (sorts_of callee.outs) mid spots (symbols-sort k (sorts_of callee.outs))
      (changed-sorts C formed p k g q callee st found e) c (symbols-well k (sorts_of callee.outs)) globals

  site-well : (q : ℕ) (callee : CoreProc) (es : List CoreExpr) → AllHaveTypes F S es (sorts_of callee.ins) → (k : ℕ) (path : Tree) (s : State) → IsCondition path → Well P p s → WellSite (site_of C k path callee q es s)
  site-well q callee es ins k path s c h =
      let site = site_of C k path callee q es s in
      let args : AllWellSorted site.args = all-well F S s.store es (sorts_of callee.ins) h.sorts ins h.store in
      let outs : AllWellSorted site.outs = symbols-well k (sorts_of callee.outs) in
      let after : AllWellSorted site.after = set_all-well s.store.globals callee.modifies (changed P k callee) h.store.globals (symbols-well (k + length callee.outs) (modified_sorts P callee)) in
      let flag = flag-condition (C.infallible q) (k + (length callee.outs + length callee.modifies)) in (
        (guard-condition P p path s c h).well,
        (
          flag.well,
          append-well site.args (site.before ++ (site.outs ++ site.after)) args
              (append-well site.before (site.outs ++ site.after) h.store.globals (append-well site.outs site.after outs after)),
        ),
      )

  call-well : (q : ℕ) (callee : CoreProc) (ps : List Spot) (es : List CoreExpr) → slice_get P.procs q ≡ Some callee → AllHaveTypes F S es (sorts_of callee.ins) → AreSpotsOf S ps (sorts_of callee.outs)
      → (k : ℕ) (path : Tree) (s : State) → IsCondition path → Well P p s → Well P p (call_term C k path (Some callee) ps q es s)
  call-well q callee ps es found ins spots k path s c h =
      let site = site_of C k path callee q es s in
      let guard : IsCondition site.guard = guard-condition P p path s c h in
      let flag : IsCondition site.flag = flag-condition (C.infallible q) (k + (length callee.outs + length callee.modifies)) in
      let up : IsCondition (and_of site.guard site.flag) = and-condition site.guard site.flag guard flag in
      record {
        sorts = call-sorts C formed p k site.guard q callee ps s.store found spots h.sorts;
        store = call-store k site.guard q callee ps s.store found spots h.sorts guard h.store;
        flag = or-condition s.flag (and_of site.guard site.flag) h.flag up;
        gone = or-condition s.gone (and_of site.guard site.flag) h.gone up;
        assumes = h.assumes;
        sites = all_push WellSite s.sites site h.sites (site-well q callee es ins k path s c h);
      }

  mutual
    step-well : (t : CoreStmt) → IsFormed P p t → (k : ℕ) (path : Tree) (s : State) → IsCondition path → Well P p s → Well P p (step C t k path s)
    step-well (Assign ps es) is k path s c h =
        let new = map (term_in F s.store) es in
        let types : map sort_of new ≡ is.0 = all-sorts F S s.store es is.0 h.sorts is.1 in
        record {
          sorts = assign-sorts S (guard_of path s) ps new is.0 s.store is.2.sorts types h.sorts;
          store = assign-well S (guard_of path s) ps new is.0 s.store is.2.sorts types h.sorts (guard-condition P p path s c h) (all-well F S s.store es is.0 h.sorts is.1 h.store) h.store;
          flag = h.flag;
          gone = h.gone;
          assumes = h.assumes;
          sites = h.sites;
        }
    step-well (If' e n a m b) is k path s c h =
        let t = term_in F s.store e in
        let test : IsCondition t = term-condition F S s.store e h.sorts is.0 h.store in
        row-well b is.2 (k + row_count C a) (and_of path (not_of t)) (steps C a k (and_of path t) s) (and-condition path (not_of t) c (not-condition t test))
        (row-well a is.1 k (and_of path t) s (and-condition path t c test) h)
    step-well (Call ps q es) is k path s c h =
        subst (λ (o : Option CoreProc). Well P p (call_term C k path o ps q es s)) (sym is.found) (call-well q is.callee ps es is.found is.ins is.outs.sorts k path s c h)
    step-well (Assume e) is k path s c h =
        let t = term_in F s.store e in
        let test : IsCondition t = term-condition F S s.store e h.sorts is h.store in
        let new = implies-condition (guard_of path s) t (guard-condition P p path s c h) test in
        record {
          sorts = h.sorts;
          store = h.store;
          flag = h.flag;
          gone = h.gone;
          assumes = append-well s.assumes (or_of (not_of (guard_of path s)) t ∷ []) h.assumes (new.well, tt);
          sites = h.sites;
        }
    step-well Fail is k path s c h =
        let guard = guard-condition P p path s c h in
        record {
          sorts = h.sorts;
          store = h.store;
          flag = or-condition s.flag (guard_of path s) h.flag guard;
          gone = or-condition s.gone (guard_of path s) h.gone guard;
          assumes = h.assumes;
          sites = h.sites;
        }
    step-well Return is k path s c h = record {
      sorts = h.sorts;
      store = h.store;
      flag = h.flag;
      gone = or-condition s.gone (guard_of path s) h.gone (guard-condition P p path s c h);
      assumes = h.assumes;
      sites = h.sites;
    }

    row-well : {n : _} (ts : Row_of-CoreStmt n) → AreFormed P p ts → (k : ℕ) (path : Tree) (s : State) → IsCondition path → Well P p s → Well P p (steps C ts k path s)
    row-well end_of-CoreStmt is k path s c h = h
    row-well (more_of-CoreStmt t ts) is k path s c h = row-well ts is.1 (k + count C t) path (step C t k path s) c (step-well t is.0 k path s c h)

  steps-well : (ts : List CoreStmt) → AllFormed P p ts → (k : ℕ) (path : Tree) (s : State) → IsCondition path → Well P p s → Well P p (all_steps C ts k path s)
  steps-well [] is k path s c h = h
  steps-well (t ∷ ts) is k path s c h = steps-well ts is.1 (k + count C t) path (step C t k path s) c (step-well t is.0 k path s c h)

-- ---- bodies

starts-well : (vs : List Var) → AllWellSorted (map (λ v. leaf (head.Start v.sort)) vs)
starts-well [] = tt
starts-well (v ∷ vs) = ((tt, refl), starts-well vs)

begun-well : (p : CoreProc) (ins globals : List Tree) → AllWellSorted ins → AllWellSorted globals → WellStore (begun p ins globals).store
begun-well p ins globals wi wg =
    let outs = map (λ v. leaf (head.Start v.sort)) p.outs in
    let locals = map (λ v. leaf (head.Start v.sort)) p.locals in
    record { slots = append-well ins (outs ++ locals) wi (append-well outs locals (starts-well p.outs) (starts-well p.locals)); globals = wg }

pub bodies-are-well-sorted : BodiesAreWellSorted
bodies-are-well-sorted C q p formed found k ins globals fit wi wg =
    let start : Well C.program p (begun p ins globals) = record {
      sorts = begun-sorts C.program p ins globals fit.ins_sorted fit.globals_sorted;
      store = begun-well p ins globals wi wg;
      flag = constant-condition false;
      gone = constant-condition false;
      assumes = tt;
      sites = tt;
    } in
    let s = body_of C p k ins globals in
    let end : Well C.program p s = steps-well C formed p p.body (formed.procs q p found).body k (constant true) (begun p ins globals) (constant-condition true) start in
    let calls : AllWellSorted (flat_map site_terms s.sites) = sites-well s.sites end.sites in
    let rest : AllWellSorted (s.assumes ++ flat_map site_terms s.sites) = append-well s.assumes (flat_map site_terms s.sites) end.assumes calls in
    let outs : AllWellSorted (outs_of p s) = reads-well s.store (out_spots p) end.store in
    (end.flag.well, append-well (outs_of p s) (s.store.globals ++ (s.assumes ++ flat_map site_terms s.sites)) outs (append-well s.store.globals (s.assumes ++ flat_map site_terms s.sites) end.store.globals rest))
