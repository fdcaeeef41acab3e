-- The facts of a query are well sorted.
use Rattle.std.proofs.Common.{◌≡◌, ℕ, suc, ◌+◌, Bool, true, false, List, [], ◌∷◌, ◌++◌, length, refl, sym, ap, subst, ◌∙◌}
use Rattle.sd_base.proofs.SortLemmas.{same_sort-is}
use Rattle.std.specs.Prelude.{◌&&◌, ◌==◌, Option, Some, None, map, slice_get, if◌then◌else◌}
use Rattle.std.specs.List.{AllByRecursion, flat_map}
use Rattle.std.proofs.lemmas.List.{map-append}
use Rattle.std.proofs.lemmas.Bool.{eqb-true}
use Rattle.sd_base.specs.declared.Sort.{Sort, Bool as BoolSort}
use Rattle.sd_base.specs.declared.Var.{Var}
use Rattle.sd_core.specs.declared.Spot.{Spot}
use Rattle.sd_core.specs.declared.CoreExpr.{CoreExpr}
use Rattle.sd_core.specs.declared.CoreProc.{CoreProc}
use Rattle.sd_core.specs.declared.CoreProgram.{CoreProgram}
use Rattle.sd_core.specs.declared.Function.{Function}
use Rattle.sd_core.specs.Store.{Store, read, map_store}
use Rattle.sd_core.specs.Formed.{WellFormed, sorts_of, no_state, HasType, same_sort}
use Rattle.sd_match.specs.declared.pair.SpotPair.{SpotPair}
use Rattle.sd_term.specs.declared.build.Kind.{Kind}
use Rattle.sd_term.specs.declared.build.Kind.TheVariants as kind
use Rattle.sd_term.specs.Tree.{Tree, and-left, and-right}
use Rattle.sd_term.specs.Sorts.{sort_of, IsWellSorted, AllWellSorted}
use Rattle.sd_term.specs.Build.{not_of, or_of, eq_of, relation_of}
use Rattle.sd_term.proofs.BuildSorts.{or-sort, not-well, or-well, eq-well, le-well, implies-well, relation-sort}
use Rattle.sd_cand.specs.declared.candidate.Relation.{Relation}
use Rattle.sd_cand.specs.declared.candidate.Claim.{Claim}
use Rattle.sd_cand.specs.declared.candidate.Claim.TheVariants.{Flag, Output}
use Rattle.sd_vcgen.specs.Body.{Context, Site, nothing, symbols, term_in, count_all, body_of, outs_of}
use Rattle.sd_vcgen.specs.Laws.{IsSortedSite, site_terms}
use Rattle.sd_vcgen.proofs.Stores.{read_map}
use Rattle.sd_vcgen.proofs.Symbols.{symbols-sort}
use Rattle.sd_vcgen.proofs.Sorted.{bodies-are-sorted}
use Rattle.sd_vcgen.proofs.WellSorted.{append-well, front-well, back-well, symbols-well, WellStore, read-well, term-well, WellSite, each-site-well, bodies-are-well-sorted}
use Rattle.sd_product.specs.Relations.{entry, exit, term_at, term_of, claim_term}
use Rattle.sd_product.specs.Query.{Claimed, Work, Infallibles, Side, is_live, is_about, under, implication, calls_related, with_each, all_related, no_terms, axioms_of, occurs, constant_term, apart_from, apart, conditions_of, claim_of, premises_of, facts_of, side_from, old_side, new_side, first_call, input_count, old_context, new_context, query_by, query_of}
use Rattle.sd_product.specs.Fits.{FitsKind, FitsAt, Fits, FitsClaim, entry_sorts, exit_sorts, FitsBoth, FitsPair}

-- ---- relations

relation-well : (k : Kind) (a b : Tree) → IsWellSorted a → IsWellSorted b → FitsKind k (sort_of a) (sort_of b) → IsWellSorted (relation_of k a b)
relation-well kind.Eq a b wa wb f = eq-well a b wa wb f
relation-well kind.Le a b wa wb f = le-well a b wa wb f.0 f.1
relation-well kind.Ge a b wa wb f = le-well b a wb wa f.1 f.0
relation-well kind.Imp a b wa wb f = implies-well a b wa wb f.0 f.1
relation-well kind.Pmi a b wa wb f = implies-well b a wb wa f.1 f.0

read-sort : (S : Store Sort) (st : Store Tree) (p : Spot) → map_store sort_of st ≡ S → read BoolSort S p ≡ sort_of (read nothing st p)
read-sort S st p e = sym (read_map sort_of nothing st p ∙ ap (λ (R : Store Sort). read BoolSort R p) e)

fits-along : (k : Kind) (a b c d : Sort) → a ≡ c → b ≡ d → FitsKind k a b → FitsKind k c d
fits-along k a b c d e f h = subst (λ (s : Sort). FitsKind k c s) f (subst (λ (s : Sort). FitsKind k s b) e h)

-- two states of these types, of well sorted terms
pub record StatesWell (S T : Store Sort) (st ut : Store Tree) : Type 0 where
  pub old_sorts : map_store sort_of st ≡ S
  pub new_sorts : map_store sort_of ut ≡ T
  pub old : WellStore st
  pub new : WellStore ut

module _ (S T : Store Sort) (st ut : Store Tree) (w : StatesWell S T st ut) where
  at-well : (k : Kind) (o : Option SpotPair) → FitsAt k S T o → IsWellSorted (term_at k st ut o)
  at-well k None f = (tt, refl)
  at-well k (Some s) f =
      relation-well k (read nothing st s.old) (read nothing ut s.new) (read-well st s.old w.old) (read-well ut s.new w.new)
      (fits-along k (read BoolSort S s.old) (read BoolSort T s.new) (sort_of (read nothing st s.old)) (sort_of (read nothing ut s.new)) (read-sort S st s.old w.old_sorts) (read-sort T ut s.new w.new_sorts) f)

  at-sort : (k : Kind) (o : Option SpotPair) → sort_of (term_at k st ut o) ≡ BoolSort
  at-sort k None = refl
  at-sort k (Some s) = relation-sort k (read nothing st s.old) (read nothing ut s.new)

  pub relations-well : (places : List SpotPair) (rs : List Relation) → AllByRecursion (Fits places S T) rs → AllWellSorted (map (term_of places st ut) rs)
  relations-well places [] f = tt
  relations-well places (r ∷ rs) f = (at-well r.kind (slice_get places r.place) f.0, relations-well places rs f.1)

  pub under-sort : (places : List SpotPair) (rs : List Relation) (claim : Tree) → sort_of claim ≡ BoolSort → sort_of (under (map (term_of places st ut) rs) claim) ≡ BoolSort
  under-sort places [] claim e = e
  under-sort places (r ∷ rs) claim e = or-sort (not_of (term_of places st ut r)) (under (map (term_of places st ut) rs) claim)

  pub under-well : (places : List SpotPair) (rs : List Relation) (claim : Tree) → AllByRecursion (Fits places S T) rs → IsWellSorted claim → sort_of claim ≡ BoolSort → IsWellSorted (under (map (term_of places st ut) rs) claim)
  under-well places [] claim f v e = v
  under-well places (r ∷ rs) claim f v e =
      implies-well (term_of places st ut r) (under (map (term_of places st ut) rs) claim) (at-well r.kind (slice_get places r.place) f.0) (under-well places rs claim f.1 v e) (at-sort r.kind (slice_get places r.place)) (under-sort places rs claim e)

  pub claim-well : (places : List SpotPair) (c : Claim) (flag flag' : Tree) → FitsClaim places S T c → IsWellSorted flag → IsWellSorted flag' → sort_of flag ≡ BoolSort → sort_of flag' ≡ BoolSort → IsWellSorted (claim_term places c st flag ut flag')
  claim-well places Flag flag flag' f v v' e e' = implies-well flag' flag v' v e' e
  claim-well places (Output r) flag flag' f v v' e e' =
      or-well (or_of flag flag') (term_of places st ut r) (or-well flag flag' v v' e e') (at-well r.kind (slice_get places r.place) f) (or-sort flag flag') (at-sort r.kind (slice_get places r.place))

  pub claim-sort : (places : List SpotPair) (c : Claim) (flag flag' : Tree) → sort_of (claim_term places c st flag ut flag') ≡ BoolSort
  claim-sort places Flag flag flag' = or-sort (not_of flag') flag
  claim-sort places (Output r) flag flag' = or-sort (or_of flag flag') (term_of places st ut r)

-- ---- calls

-- the terms of a call, one by one
pub record SiteWell (site : Site) : Type 0 where
  pub guard : IsWellSorted site.guard
  pub flag : IsWellSorted site.flag
  pub args : AllWellSorted site.args
  pub before : AllWellSorted site.before
  pub outs : AllWellSorted site.outs
  pub after : AllWellSorted site.after

site_parts : (site : Site) → WellSite site → SiteWell site
site_parts site w =
    let all = w.1.1 in
    let rest = back-well site.args (site.before ++ (site.outs ++ site.after)) all in
    let ends = back-well site.before (site.outs ++ site.after) rest in
    record {
      guard = w.0;
      flag = w.1.0;
      args = front-well site.args (site.before ++ (site.outs ++ site.after)) all;
      before = front-well site.before (site.outs ++ site.after) rest;
      outs = front-well site.outs site.after ends;
      after = back-well site.outs site.after ends;
    }

-- a call with well sorted terms of the types of its callee
pub record CallWell (P : CoreProgram) (site : Site) : Type 0 where
  pub sorts : IsSortedSite P site
  pub terms : SiteWell site

module _ (w : Work) (table : List Bool) where
  same_proc : (procs : List CoreProc) (n m : ℕ) (p : CoreProc) → n ≡ m → slice_get procs m ≡ Some p → slice_get procs n ≡ Some p
  same_proc procs n m p e h = ap (slice_get procs) e ∙ h

  implication-well : (x : Claimed) (a b : Site) → FitsPair w x → CallWell w.old a → CallWell w.new b → is_about x a b ≡ true → IsWellSorted (implication x a b)
  implication-well x a b f ca cb about =
      let old : x.pair.old ≡ a.callee = eqb-true x.pair.old a.callee (and-left (x.pair.old == a.callee) (x.pair.new == b.callee) about) in
      let new : x.pair.new ≡ b.callee = eqb-true x.pair.new b.callee (and-right (x.pair.old == a.callee) (x.pair.new == b.callee) about) in
      let p = ca.sorts.callee in
      let q = cb.sorts.callee in
      let fits = f p q (same_proc w.old.procs x.pair.old a.callee p old ca.sorts.found) (same_proc w.new.procs x.pair.new b.callee q new cb.sorts.found) in
      let begins : StatesWell (entry_sorts w.old p) (entry_sorts w.new q) (entry a.args a.before) (entry b.args b.before) = record {
        old_sorts = λ i. record { slots = ca.sorts.args i; globals = ca.sorts.before i };
        new_sorts = λ i. record { slots = cb.sorts.args i; globals = cb.sorts.before i };
        old = record { slots = ca.terms.args; globals = ca.terms.before };
        new = record { slots = cb.terms.args; globals = cb.terms.before };
      } in
      let ends : StatesWell (exit_sorts w.old p) (exit_sorts w.new q) (exit a.args a.outs a.after) (exit b.args b.outs b.after) = record {
        old_sorts = λ i. record { slots = (map-append sort_of a.args a.outs ∙ (λ j. ca.sorts.args j ++ ca.sorts.outs j)) i; globals = ca.sorts.after i };
        new_sorts = λ i. record { slots = (map-append sort_of b.args b.outs ∙ (λ j. cb.sorts.args j ++ cb.sorts.outs j)) i; globals = cb.sorts.after i };
        old = record { slots = append-well a.args a.outs ca.terms.args ca.terms.outs; globals = ca.terms.after };
        new = record { slots = append-well b.args b.outs cb.terms.args cb.terms.outs; globals = cb.terms.after };
      } in
      let claim = claim_term x.pair.outputs x.candidate.claim (exit a.args a.outs a.after) a.flag (exit b.args b.outs b.after) b.flag in
      let well = claim-well _ _ _ _ ends x.pair.outputs x.candidate.claim a.flag b.flag fits.claim ca.terms.flag cb.terms.flag ca.sorts.flag cb.sorts.flag in
      let sort = claim-sort _ _ _ _ ends x.pair.outputs x.candidate.claim a.flag b.flag in
      let t = under (map (term_of x.pair.inputs (entry a.args a.before) (entry b.args b.before)) x.candidate.when) claim in
      let inner = under-well _ _ _ _ begins x.pair.inputs x.candidate.when claim fits.when well sort in
      let truth = under-sort _ _ _ _ begins x.pair.inputs x.candidate.when claim sort in
      implies-well a.guard (or_of (not_of b.guard) t) ca.terms.guard (implies-well b.guard t cb.terms.guard inner cb.sorts.guard truth) ca.sorts.guard (or-sort (not_of b.guard) t)

  if-well : (r : Bool) (t : Tree) → (r ≡ true → IsWellSorted t) → AllWellSorted (if r then t ∷ [] else [])
  if-well true t h = (h refl, tt)
  if-well false t h = tt

  related-well : (n : ℕ) (xs : List Claimed) (a b : Site) → AllByRecursion (FitsPair w) xs → CallWell w.old a → CallWell w.new b → AllWellSorted (calls_related table n xs a b)
  related-well n [] a b f ca cb = tt
  related-well n (x ∷ xs) a b f ca cb =
      append-well (if is_live table n && is_about x a b then implication x a b ∷ [] else []) (calls_related table (suc n) xs a b)
      (if-well (is_live table n && is_about x a b) (implication x a b) (λ e. implication-well x a b f.0 ca cb (and-right (is_live table n) (is_about x a b) e)))
      (related-well (suc n) xs a b f.1 ca cb)

  each-well : (xs : List Claimed) (a : Site) (bs : List Site) → AllByRecursion (FitsPair w) xs → CallWell w.old a → AllByRecursion (CallWell w.new) bs → AllWellSorted (with_each table xs a bs)
  each-well xs a [] f ca cbs = tt
  each-well xs a (b ∷ bs) f ca cbs = append-well (calls_related table 0 xs a b) (with_each table xs a bs) (related-well 0 xs a b f ca cbs.0) (each-well xs a bs f ca cbs.1)

  all-related-well : (xs : List Claimed) (as' bs : List Site) → AllByRecursion (FitsPair w) xs → AllByRecursion (CallWell w.old) as' → AllByRecursion (CallWell w.new) bs → AllWellSorted (all_related table xs as' bs)
  all-related-well xs [] bs f cas cbs = tt
  all-related-well xs (a ∷ as') bs f cas cbs = append-well (with_each table xs a bs) (all_related table xs as' bs) (each-well xs a bs f cas.0 cbs) (all-related-well xs as' bs f cas.1 cbs)

  -- ---- axioms and unique constants

  axioms-well : (F : List Function) (es : List CoreExpr) → AllByRecursion (λ e. HasType F no_state e BoolSort) es → AllWellSorted (map (term_in F no_terms) es)
  axioms-well F [] h = tt
  axioms-well F (e ∷ es) h = (term-well F no_state no_terms e BoolSort refl h.0 (record { slots = tt; globals = tt }), axioms-well F es h.1)

  from-well : (facts : List Tree) (c : Var) (ds : List Var) → AllWellSorted (apart_from facts c ds)
  from-well facts c [] = tt
  from-well facts c (d ∷ ds) =
      let test = same_sort c.sort d.sort && (occurs facts c && occurs facts d) in
      let t = not_of (eq_of (constant_term c) (constant_term d)) in
      append-well (if test then t ∷ [] else []) (apart_from facts c ds)
      (if-well test t (λ e. not-well (eq_of (constant_term c) (constant_term d)) (eq-well (constant_term c) (constant_term d) (tt, refl) (tt, refl) (same_sort-is c.sort d.sort (and-left (same_sort c.sort d.sort) (occurs facts c && occurs facts d) e))) refl))
      (from-well facts c ds)

  apart-well : (facts : List Tree) (cs : List Var) → AllWellSorted (apart facts cs)
  apart-well facts [] = tt
  apart-well facts (c ∷ cs) = append-well (apart_from facts c cs) (apart facts cs) (from-well facts c cs) (apart-well facts cs)

  -- ---- sides

  -- a side of the types of a procedure, of well sorted terms
  pub record SideWell (P : CoreProgram) (p : CoreProc) (s : Side) : Type 0 where
    pub begins : map_store sort_of s.inputs ≡ entry_sorts P p
    pub ends : map_store sort_of s.ends ≡ exit_sorts P p
    pub inputs_well : WellStore s.inputs
    pub ends_well : WellStore s.ends
    pub flag : IsWellSorted s.body.flag
    pub flag_sort : sort_of s.body.flag ≡ BoolSort
    pub assumes : AllWellSorted s.body.assumes
    pub sites : AllByRecursion (CallWell P) s.body.sites

  both : (P : CoreProgram) (sites : List Site) → AllByRecursion (IsSortedSite P) sites → AllByRecursion WellSite sites → AllByRecursion (CallWell P) sites
  both P [] h k = tt
  both P (s ∷ ss) h k = (record { sorts = h.0; terms = site_parts s k.0 }, both P ss h.1 k.1)

  side-well : (C : Context) → WellFormed C.program → (q : ℕ) (p : CoreProc) → slice_get C.program.procs q ≡ Some p → (i k : ℕ) → SideWell C.program p (side_from C p i k)
  side-well C formed q p found i k =
      let P = C.program in
      let ins = symbols i (sorts_of p.ins) in
      let globals = symbols (i + length p.ins) (sorts_of P.globals) in
      let ins_sort = symbols-sort i (sorts_of p.ins) in
      let globals_sort = symbols-sort (i + length p.ins) (sorts_of P.globals) in
      let ins_well = symbols-well i (sorts_of p.ins) in
      let globals_well = symbols-well (i + length p.ins) (sorts_of P.globals) in
      let s = body_of C p k ins globals in
      let sorted = bodies-are-sorted C q p formed found k ins globals (record { ins_sorted = ins_sort; globals_sorted = globals_sort }) in
      let outs = outs_of p s in
      let after = s.store.globals in
      let calls = flat_map site_terms s.sites in
      let well = bodies-are-well-sorted C q p formed found k ins globals (record { ins_sorted = ins_sort; globals_sorted = globals_sort }) ins_well globals_well in
      let rest = back-well outs (after ++ (s.assumes ++ calls)) well.1 in
      let last = back-well after (s.assumes ++ calls) rest in
      record {
        begins = λ j. record { slots = ins_sort j; globals = globals_sort j };
        ends = λ j. record { slots = (map-append sort_of ins (outs_of p s) ∙ (λ l. ins_sort l ++ sorted.outs l)) j; globals = sorted.globals j };
        inputs_well = record { slots = ins_well; globals = globals_well };
        ends_well = record { slots = append-well ins outs ins_well (front-well outs (after ++ (s.assumes ++ calls)) well.1); globals = front-well after (s.assumes ++ calls) rest };
        flag = well.0;
        flag_sort = sorted.flag;
        assumes = front-well s.assumes calls last;
        sites = both P s.sites sorted.sites (each-site-well s.sites (back-well s.assumes calls last));
      }

  -- ---- the facts

  facts-well : (x : Claimed) (p q : CoreProc) (a b : Side) → WellFormed w.old → WellFormed w.new → AllByRecursion (FitsPair w) w.claims → FitsBoth w x p q → SideWell w.old p a → SideWell w.new q b → AllWellSorted (facts_of w table x a b)
  facts-well x p q a b formed formed' fs f wa wb =
      let begins : StatesWell (entry_sorts w.old p) (entry_sorts w.new q) a.inputs b.inputs = record { old_sorts = wa.begins; new_sorts = wb.begins; old = wa.inputs_well; new = wb.inputs_well } in
      let ends : StatesWell (exit_sorts w.old p) (exit_sorts w.new q) a.ends b.ends = record { old_sorts = wa.ends; new_sorts = wb.ends; old = wa.ends_well; new = wb.ends_well } in
      let claim = claim_of x a b in
      let claimed = claim-well _ _ _ _ ends x.pair.outputs x.candidate.claim a.body.flag b.body.flag f.claim wa.flag wb.flag wa.flag_sort wb.flag_sort in
      let sort = claim-sort _ _ _ _ ends x.pair.outputs x.candidate.claim a.body.flag b.body.flag in
      let calls = all-related-well w.claims a.body.sites b.body.sites fs wa.sites wb.sites in
      let premises = premises_of w table x a b in
      let premises_well = append-well (axioms_of w.old) _ (axioms-well w.old.functions w.old.axioms formed.axioms) (append-well (axioms_of w.new) _ (axioms-well w.new.functions w.new.axioms formed'.axioms) (append-well (conditions_of x a b) _ (relations-well _ _ _ _ begins x.pair.inputs x.candidate.when f.when) (append-well a.body.assumes _ wa.assumes (append-well b.body.assumes _ wb.assumes calls)))) in
      append-well premises _ premises_well (append-well (apart (premises ++ claim ∷ []) w.old.uniques) _ (apart-well (premises ++ claim ∷ []) w.old.uniques) (append-well (apart (premises ++ claim ∷ []) w.new.uniques) (not_of claim ∷ []) (apart-well (premises ++ claim ∷ []) w.new.uniques) (not-well claim claimed sort, tt)))

  by-well : (z : Infallibles) (x : Claimed) → WellFormed w.old → WellFormed w.new → AllByRecursion (FitsPair w) w.claims → FitsPair w x → (o r : Option CoreProc) → slice_get w.old.procs x.pair.old ≡ o → slice_get w.new.procs x.pair.new ≡ r → AllWellSorted (query_by w z table x o r)
  by-well z x formed formed' fs f None r e e' = tt
  by-well z x formed formed' fs f (Some p) None e e' = tt
  by-well z x formed formed' fs f (Some p) (Some q) e e' =
      let C = old_context w z in
      let D = new_context w z in
      facts-well x p q (old_side C D p q) (new_side C D p q) formed formed' fs (f p q e e') (side-well C formed x.pair.old p e 0 (first_call C D p q)) (side-well D formed' x.pair.new q e' (input_count C.program p) (first_call C D p q + count_all C p.body))

  -- the query of a candidate that fits its pair, where all candidates do
  pub query-well : (z : Infallibles) (x : Claimed) → WellFormed w.old → WellFormed w.new → AllByRecursion (FitsPair w) w.claims → FitsPair w x → AllWellSorted (query_of w z table x)
  unfolding query_of
  query-well z x formed formed' fs f = by-well z x formed formed' fs f (slice_get w.old.procs x.pair.old) (slice_get w.new.procs x.pair.new) refl refl
