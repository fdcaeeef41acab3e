-- The terms of a body have the types of what they stand for.
use Rattle.std.proofs.Common.{◌≡◌, ℕ, suc, ◌+◌, List, [], ◌∷◌, ◌++◌, length, get_or, refl, sym, ap, subst, ◌∙◌, arith}
use Rattle.std.specs.Prelude.{map, slice_get, Option, Some, true}
use Rattle.std.specs.List.{AllByRecursion}
use Rattle.std.proofs.lemmas.List.{map-append, append_assoc, length-append}
use Rattle.sd_base.specs.declared.Sort.{Sort, Bool as BoolSort}
use Rattle.sd_base.specs.declared.Var.{Var}
use Rattle.sd_core.specs.declared.Spot.{Spot}
use Rattle.sd_core.specs.declared.Spot.TheVariants.{Global}
use Rattle.sd_core.specs.declared.CoreExpr.{CoreExpr}
use Rattle.sd_core.specs.declared.CoreStmt.{CoreStmt, Assign, If', Call, Assume, Fail, Return, Row_of-CoreStmt, end_of-CoreStmt, more_of-CoreStmt}
use Rattle.sd_core.specs.declared.CoreProc.{CoreProc}
use Rattle.sd_core.specs.declared.CoreProgram.{CoreProgram}
use Rattle.sd_core.specs.declared.Function.{Function}
use Rattle.sd_core.specs.Store.{Store, read, map_store}
use Rattle.sd_core.specs.Run.{slots_from, out_spots}
use Rattle.sd_core.specs.Formed.{WellFormed, sorts_of, state_sorts, AllHaveTypes, AreSpotsOf, IsFormed, AreFormed, AllFormed}
use Rattle.sd_term.specs.declared.node.Head.TheVariants as head
use Rattle.sd_term.specs.Tree.{Tree, leaf}
use Rattle.sd_term.specs.Sorts.{sort_of}
use Rattle.sd_term.specs.Build.{and_of, not_of}
use Rattle.sd_term.proofs.BuildSorts.{and-sort, or-sort}
use Rattle.sd_vcgen.specs.Body.{State, Context, nothing, constant, term_in, guard_of, assign, symbols, modified_sorts, changed, site_of, call, count, row_count, step, steps, all_steps, begun, body_of, outs_of}
use Rattle.sd_vcgen.specs.Laws.{IsSortedSite, BodiesAreSorted}
use Rattle.sd_vcgen.proofs.Stores.{read_map}
use Rattle.sd_vcgen.proofs.Truths.{all_push}
use Rattle.sd_vcgen.proofs.Typed.{assign-sorts, all-sorts}
use Rattle.sd_vcgen.proofs.Symbols.{symbols-sort, flag-sort, modified-spots, after-sort}

record Fits (P : CoreProgram) (p : CoreProc) (s : State) : Type 0 where
  store : map_store sort_of s.store ≡ state_sorts P p
  flag : sort_of s.flag ≡ BoolSort
  assumes : AllByRecursion (λ t. sort_of t ≡ BoolSort) s.assumes
  sites : AllByRecursion (IsSortedSite P) s.sites

module _ (C : Context) (formed : WellFormed C.program) (p : CoreProc) where
  abbrev P : CoreProgram
  P = C.program

  abbrev F : List Function
  F = P.functions

  -- the store after a call, first with what the callee changed
  pub changed-sorts : (k : ℕ) (g : Tree) (q : ℕ) (callee : CoreProc) (st : Store Tree) → slice_get P.procs q ≡ Some callee → map_store sort_of st ≡ state_sorts P p
      → map_store sort_of (assign g st (map Global callee.modifies) (changed P k callee)) ≡ state_sorts P p
  changed-sorts k g q callee st found e =
      assign-sorts (state_sorts P p) g (map Global callee.modifies) (changed P k callee) (modified_sorts P callee) st
      (modified-spots P p callee.modifies (formed.procs q callee found).modifies) (symbols-sort (k + length callee.outs) (modified_sorts P callee)) e

  pub call-sorts : (k : ℕ) (g : Tree) (q : ℕ) (callee : CoreProc) (ps : List Spot) (st : Store Tree) → slice_get P.procs q ≡ Some callee → AreSpotsOf (state_sorts P p) ps (sorts_of callee.outs) → map_store sort_of st ≡ state_sorts P p
      → map_store sort_of (assign g (assign g st (map Global callee.modifies) (changed P k callee)) ps (symbols k (sorts_of callee.outs))) ≡ state_sorts P p
  call-sorts k g q callee ps st found spots e =
      assign-sorts (state_sorts P p) g ps (symbols k (sorts_of callee.outs)) (sorts_of callee.outs) (assign g st (map Global callee.modifies) (changed P k callee)) spots (symbols-sort k (sorts_of callee.outs))
      (changed-sorts k g q callee st found e)

  call-fits : (q : ℕ) (callee : CoreProc) (ps : List Spot) (es : List CoreExpr) → slice_get P.procs q ≡ Some callee → AllHaveTypes F (state_sorts P p) es (sorts_of callee.ins) → AreSpotsOf (state_sorts P p) ps (sorts_of callee.outs)
      → (k : ℕ) (path : Tree) (s : State) → Fits P p s → Fits P p (call C k path (Some callee) ps q es s)
  call-fits q callee ps es found ins spots k path s h =
      let site = site_of C k path callee q es s in
      let before : map sort_of s.store.globals ≡ sorts_of P.globals = ap (λ (S : Store Sort). S.globals) h.store in
      record {
        store = call-sorts k site.guard q callee ps s.store found spots h.store;
        flag = or-sort s.flag (and_of site.guard site.flag);
        assumes = h.assumes;
        sites = all_push (IsSortedSite P) s.sites site h.sites (record {
          callee = callee;
          found = found;
          guard = and-sort path (not_of s.gone);
          args = all-sorts F (state_sorts P p) s.store es (sorts_of callee.ins) h.store ins;
          before = before;
          outs = symbols-sort k (sorts_of callee.outs);
          after = after-sort P k callee s.store.globals before;
          flag = flag-sort (C.infallible q) (k + (length callee.outs + length callee.modifies));
        });
      }

  mutual
    step-fits : (t : CoreStmt) → IsFormed P p t → (k : ℕ) (path : Tree) (s : State) → Fits P p s → Fits P p (step C t k path s)
    step-fits (Assign ps es) is k path s h = record {
      store = assign-sorts (state_sorts P p) (guard_of path s) ps (map (term_in F s.store) es) is.0 s.store is.2.sorts (all-sorts F (state_sorts P p) s.store es is.0 h.store is.1) h.store;
      flag = h.flag;
      assumes = h.assumes;
      sites = h.sites;
    }
    step-fits (If' c n a m b) is k path s h =
        let t = term_in F s.store c in
        row-fits b is.2 (k + row_count C a) (and_of path (not_of t)) (steps C a k (and_of path t) s) (row-fits a is.1 k (and_of path t) s h)
    step-fits (Call ps q es) is k path s h =
        subst (λ (o : Option CoreProc). Fits P p (call C k path o ps q es s)) (sym is.found) (call-fits q is.callee ps es is.found is.ins is.outs.sorts k path s h)
    step-fits (Assume c) is k path s h = record {
      store = h.store;
      flag = h.flag;
      assumes = all_push (λ t. sort_of t ≡ BoolSort) s.assumes _ h.assumes (or-sort (not_of (guard_of path s)) (term_in F s.store c));
      sites = h.sites;
    }
    step-fits Fail is k path s h = record { store = h.store; flag = or-sort s.flag (guard_of path s); assumes = h.assumes; sites = h.sites }
    step-fits Return is k path s h = record { store = h.store; flag = h.flag; assumes = h.assumes; sites = h.sites }

    row-fits : {n : _} (ts : Row_of-CoreStmt n) → AreFormed P p ts → (k : ℕ) (path : Tree) (s : State) → Fits P p s → Fits P p (steps C ts k path s)
    row-fits end_of-CoreStmt is k path s h = h
    row-fits (more_of-CoreStmt t ts) is k path s h = row-fits ts is.1 (k + count C t) path (step C t k path s) (step-fits t is.0 k path s h)

  all-fits : (ts : List CoreStmt) → AllFormed P p ts → (k : ℕ) (path : Tree) (s : State) → Fits P p s → Fits P p (all_steps C ts k path s)
  all-fits [] is k path s h = h
  all-fits (t ∷ ts) is k path s h = all-fits ts is.1 (k + count C t) path (step C t k path s) (step-fits t is.0 k path s h)

-- ---- the beginning

starts-sort : (vs : List Var) → map sort_of (map (λ v. leaf (head.Start v.sort)) vs) ≡ sorts_of vs
starts-sort [] = refl
starts-sort (v ∷ vs) = ap (λ ss. v.sort ∷ ss) (starts-sort vs)

pub begun-sorts : (P : CoreProgram) (p : CoreProc) (ins globals : List Tree) → map sort_of ins ≡ sorts_of p.ins → map sort_of globals ≡ sorts_of P.globals → map_store sort_of (begun p ins globals).store ≡ state_sorts P p
begun-sorts P p ins globals hi hg =
    let outs = map (λ v. leaf (head.Start v.sort)) p.outs in
    let locals = map (λ v. leaf (head.Start v.sort)) p.locals in
    let all : map sort_of (ins ++ (outs ++ locals)) ≡ sorts_of p.ins ++ (sorts_of p.outs ++ sorts_of p.locals) =
    map-append sort_of ins (outs ++ locals) ∙ ap (λ l. map sort_of ins ++ l) (map-append sort_of outs locals) ∙ (λ i. hi i ++ (starts-sort p.outs i ++ starts-sort p.locals i)) in
    λ i. record { slots = all i; globals = hg i }

-- ---- the end

head-of : (front : List Sort) (s : Sort) (back : List Sort) → get_or (front ++ s ∷ back) (length front) BoolSort ≡ s
head-of [] s back = refl
head-of (f ∷ front) s back = head-of front s back

slots-sort : (vs : List Var) (front back globals : List Sort) (k : ℕ) → k ≡ length front → map (read BoolSort (record { slots = front ++ (sorts_of vs ++ back); globals = globals })) (slots_from k vs) ≡ sorts_of vs
slots-sort [] front back globals k e = refl
slots-sort (v ∷ vs) front back globals k e =
    let here : get_or (front ++ v.sort ∷ (sorts_of vs ++ back)) k BoolSort ≡ v.sort = ap (λ (j : ℕ). get_or (front ++ v.sort ∷ (sorts_of vs ++ back)) j BoolSort) e ∙ head-of front v.sort (sorts_of vs ++ back) in
    let long = length-append front (v.sort ∷ []) in
    let next : suc k ≡ length (front ++ v.sort ∷ []) = omega (arith, e, long) in
    let rest = slots-sort vs (front ++ v.sort ∷ []) back globals (suc k) next in
    let moved = append_assoc front (v.sort ∷ []) (sorts_of vs ++ back) in
    λ i. here i ∷ (sym (ap (λ (l : List Sort). map (read BoolSort (record { slots = l; globals = globals })) (slots_from (suc k) vs)) moved) ∙ rest) i

reads-sort : (st : Store Tree) (ps : List Spot) → map sort_of (map (read nothing st) ps) ≡ map (read BoolSort (map_store sort_of st)) ps
reads-sort st [] = refl
reads-sort st (q ∷ ps) = λ i. read_map sort_of nothing st q i ∷ reads-sort st ps i

pub outs-sort : (P : CoreProgram) (p : CoreProc) (s : State) → map_store sort_of s.store ≡ state_sorts P p → map sort_of (outs_of p s) ≡ sorts_of p.outs
outs-sort P p s h =
    let long : length p.ins ≡ length (sorts_of p.ins) = sorts-long p.ins in
    reads-sort s.store (out_spots p) ∙ ap (λ (S : Store Sort). map (read BoolSort S) (out_spots p)) h ∙ slots-sort p.outs (sorts_of p.ins) (sorts_of p.locals) (sorts_of P.globals) (length p.ins) long
  where
    sorts-long : (vs : List Var) → length vs ≡ length (sorts_of vs)
    sorts-long [] = refl
    sorts-long (v ∷ vs) = ap suc (sorts-long vs)

pub bodies-are-sorted : BodiesAreSorted
bodies-are-sorted C q p formed found k ins globals fit =
    let start : Fits C.program p (begun p ins globals) = record { store = begun-sorts C.program p ins globals fit.ins_sorted fit.globals_sorted; flag = refl; assumes = tt; sites = tt } in
    let end = all-fits C formed p p.body (formed.procs q p found).body k (constant true) (begun p ins globals) start in
    record {
      outs = outs-sort C.program p (body_of C p k ins globals) end.store;
      globals = ap (λ (S : Store Sort). S.globals) end.store;
      flag = end.flag;
      assumes = end.assumes;
      sites = end.sites;
    }
