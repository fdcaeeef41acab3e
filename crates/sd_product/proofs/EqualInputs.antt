-- Equal inputs are equal at each place that the pair of two procedures of the texts compares.
use Rattle.std.proofs.Common.{◌≡◌, ℕ, zero, suc, List, [], ◌∷◌, ◌++◌, length, get_or, Option, Some, None, refl, sym, ap, ◌∙◌, subst}
use Rattle.std.specs.Prelude.{true, false, ◌&&◌, take, drop, slice_get}
use Rattle.std.specs.List.{AllByRecursion}
use Rattle.sd_base.specs.declared.Var.{Var}
use Rattle.sd_base.specs.Value.{Value, same_value}
use Rattle.sd_base.proofs.ValueLemmas.{value_same}
use Rattle.sd_core.specs.declared.CoreProc.{CoreProc}
use Rattle.sd_core.specs.declared.CoreProgram.{CoreProgram}
use Rattle.sd_core.specs.declared.Shared.{Shared}
use Rattle.sd_core.specs.Store.{Store, read}
use Rattle.sd_core.specs.Run.{nothing}
use Rattle.sd_core.specs.Failure.{shared_of}
use Rattle.sd_core.specs.Formed.{sorts_of}
use Rattle.sd_core.specs.Meanings.{HaveSorts}
use Rattle.sd_term.specs.declared.build.Kind.{Kind}
use Rattle.sd_term.specs.declared.build.Kind.TheVariants as kind
use Rattle.sd_match.specs.declared.pair.SpotPair.{SpotPair}
use Rattle.sd_match.specs.Pairs.{by_position, by_name, in_pairs, fixed_ins, root_by, root_of, shared_pair, shared_pairs, inputs_of}
use Rattle.sd_cand.specs.declared.candidate.Relation.{Relation}
use Rattle.sd_cand.specs.declared.candidate.Claim.{Claim}
use Rattle.sd_cand.specs.declared.candidate.Claim.TheVariants.{Flag}
use Rattle.sd_vcgen.specs.Laws.{InputsFit}
use Rattle.sd_product.specs.Relations.{entry, exit, related_at, all_hold, claim_holds}
use Rattle.sd_product.specs.Summaries.{MutualSummaries, NoNewFailure}

-- the two states have one value at each of some places
abbrev pub AreEqual : Store Value → Store Value → List SpotPair → Type 0
AreEqual old new = AllByRecursion (λ (s : SpotPair). read nothing old s.old ≡ read nothing new s.new)

equal-append : (old new : Store Value) (xs ys : List SpotPair) → AreEqual old new xs → AreEqual old new ys → AreEqual old new (xs ++ ys)
equal-append old new [] ys h k = k
equal-append old new (x ∷ xs) ys h k = (h.0, equal-append old new xs ys h.1 k)

module _ (ins globals ins' globals' : List Value) (same : ins ≡ ins') where
  abbrev old-entry : Store Value
  old-entry = entry ins globals

  abbrev new-entry : Store Value
  new-entry = entry ins' globals'

  position-equal : (i : ℕ) (xs ys : List Var) → AreEqual old-entry new-entry (by_position i i xs ys)
  position-equal i [] ys = tt
  position-equal i (x ∷ xs) [] = tt
  position-equal i (x ∷ xs) (y ∷ ys) = (ap (λ (l : List Value). get_or l i nothing) same, position-equal (suc i) xs ys)

  -- without further variables there is no place by name
  name-equal : (i j : ℕ) (olds news : List Var) → olds ≡ [] → AreEqual old-entry new-entry (by_name i j olds news)
  name-equal i j [] news e = tt
  name-equal i j (x ∷ olds) news e = absurd (cc)

  shared-equal : (vars : List Var) (shared : List Shared) → AllByRecursion (λ s. get_or globals s.old nothing ≡ get_or globals' s.new nothing) shared → AreEqual old-entry new-entry (shared_pairs vars shared)
  shared-equal vars [] h = tt
  shared-equal vars (s ∷ ss) h = equal-append old-entry new-entry (shared_pair s (slice_get vars s.old)) (shared_pairs vars ss) (go (slice_get vars s.old)) (shared-equal vars ss h.1)
    where
      go : (o : Option Var) → AreEqual old-entry new-entry (shared_pair s o)
      go None = tt
      go (Some x) = (h.0, tt)

  ins-equal : (p q : CoreProc) → AreEqual old-entry new-entry (in_pairs (length p.ins) (length q.ins) p.ins q.ins)
  ins-equal p q =
      equal-append old-entry new-entry (by_position 0 0 (take (length p.ins) p.ins) (take (length q.ins) q.ins)) (by_name (length p.ins) (length q.ins) (drop (length p.ins) p.ins) (drop (length q.ins) q.ins))
      (position-equal 0 (take (length p.ins) p.ins) (take (length q.ins) q.ins))
      (name-equal (length p.ins) (length q.ins) (drop (length p.ins) p.ins) (drop (length q.ins) q.ins) (drop-length p.ins))
    where
      drop-length : (xs : List Var) → drop (length xs) xs ≡ []
      drop-length [] = refl
      drop-length (x ∷ xs) = drop-length xs

-- a root has all its in-parameters paired by position
pub fixed-root : (P : CoreProgram) (p : CoreProc) → p.parent ≡ None → fixed_ins p (root_of P p) ≡ length p.ins
fixed-root P p e = ap (λ (o : Option (ℕ × ℕ)). fixed_ins p (root_by P o)) e

inputs-equal : (P Q : CoreProgram) (p q : CoreProc) (ins globals ins' globals' : List Value) → p.parent ≡ None → q.parent ≡ None → ins ≡ ins' → AllByRecursion (λ s. get_or globals s.old nothing ≡ get_or globals' s.new nothing) (shared_of P.globals Q.globals) → AreEqual (entry ins globals) (entry ins' globals') (inputs_of P Q p q)
inputs-equal P Q p q ins globals ins' globals' ep eq same shared =
    let old = entry ins globals in
    let new = entry ins' globals' in
    let pairs = shared_pairs P.globals (shared_of P.globals Q.globals) in
    subst (λ (x : List SpotPair). AreEqual old new (x ++ pairs)) (λ i. in_pairs (sym (fixed-root P p ep) i) (sym (fixed-root Q q eq) i) p.ins q.ins)
    (equal-append old new (in_pairs (length p.ins) (length q.ins) p.ins q.ins) pairs (ins-equal ins globals ins' globals' same p q) (shared-equal ins globals ins' globals' same P.globals (shared_of P.globals Q.globals) shared))

-- ---- conditions

equal-at : (old new : Store Value) (places : List SpotPair) (n : ℕ) → AreEqual old new places → related_at kind.Eq old new (slice_get places n) ≡ true
equal-at old new [] n h = refl
equal-at old new (s ∷ ss) zero h = ap (λ (x : Value). same_value x (read nothing new s.new)) h.0 ∙ value_same (read nothing new s.new)
equal-at old new (s ∷ ss) (suc n) h = equal-at old new ss n h.1

equal-hold : (old new : Store Value) (places : List SpotPair) (rs : List Relation) → AreEqual old new places → AllByRecursion (λ r. r.kind ≡ kind.Eq) rs → all_hold places old new rs ≡ true
equal-hold old new places [] h e = refl
equal-hold old new places (r ∷ rs) h e =
    let here : related_at r.kind old new (slice_get places r.place) ≡ true =
    ap (λ (k : Kind). related_at k old new (slice_get places r.place)) e.0 ∙ equal-at old new places r.place h in
    λ i. here i && equal-hold old new places rs h e.1 i

-- ---- the law

some-is : (p q : CoreProc) (o : Option CoreProc) → o ≡ Some p → o ≡ Some q → p ≡ q
some-is p q o e f = cc

pub no_new_failure_lem : MutualSummaries → NoNewFailure
no_new_failure_lem law w z table is supported n x e on flag root new =
    let live = law w z table new.M is (record { old = new.old_meaning; new = new.new_meaning }) supported new.old_calls new.new_calls n x e on in
    let old_fit : InputsFit w.old x.pair.old new.ins new.globals = record {
      ins_fit = λ p f. subst (λ (r : CoreProc). HaveSorts (sorts_of r.ins) new.ins) (some-is new.old p (slice_get w.old.procs x.pair.old) new.old_found f) new.old_input.ins_typed;
      globals_fit = new.old_input.globals_typed;
    } in
    let new_fit : InputsFit w.new x.pair.new new.ins' new.globals' = record {
      ins_fit = λ p f. subst (λ (r : CoreProc). HaveSorts (sorts_of r.ins) new.ins') (some-is new.new p (slice_get w.new.procs x.pair.new) new.new_found f) new.new_input.ins_typed;
      globals_fit = new.new_input.globals_typed;
    } in
    let old = entry new.ins new.globals in
    let new' = entry new.ins' new.globals' in
    let equal = subst (AreEqual old new') (sym root.inputs) (inputs-equal w.old w.new root.old root.new new.ins new.globals new.ins' new.globals' root.old_root root.new_root new.equal.same_ins new.equal.same_globals) in
    let claimed = live new.ins new.globals new.ins' new.globals' new.outs new.after new.outs' new.after' false true old_fit new_fit new.old_ends new.new_fails
    (equal-hold old new' x.pair.inputs x.candidate.when equal flag.only_equal) in
    let bad : claim_holds x.pair.outputs Flag (exit new.ins new.outs new.after) false (exit new.ins' new.outs' new.after') true ≡ true =
    subst (λ (c : Claim). claim_holds x.pair.outputs c (exit new.ins new.outs new.after) false (exit new.ins' new.outs' new.after') true ≡ true) flag.claim claimed in
    let no : false ≡ true = bad in
    cc
