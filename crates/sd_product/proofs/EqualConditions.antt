-- Where the conditions of equal inputs are true, the inputs are equal.
use Rattle.std.proofs.Common.{◌≡◌, ℕ, zero, suc, ◌+◌, ◌<◌, List, [], ◌∷◌, ◌++◌, length, get_or, Option, Some, None, refl, sym, ap, ◌∙◌, subst, arith}
use Rattle.std.proofs.Math.Seq.{take-length}
use Rattle.std.proofs.lemmas.List.{ext_get_or}
use Rattle.std.specs.Prelude.{true, map, take, drop, slice_get}
use Rattle.std.specs.List.{AllByRecursion}
use Rattle.sd_base.specs.declared.Var.{Var}
use Rattle.sd_base.specs.Value.{Value}
use Rattle.sd_base.specs.Meaning.{truth_of}
use Rattle.sd_base.proofs.ValueLemmas.{value_is}
use Rattle.sd_core.specs.declared.CoreProc.{CoreProc}
use Rattle.sd_core.specs.declared.CoreProgram.{CoreProgram}
use Rattle.sd_core.specs.declared.Shared.{Shared}
use Rattle.sd_core.specs.Store.{Store, read, map_store}
use Rattle.sd_core.specs.Run.{nothing}
use Rattle.sd_core.specs.Failure.{place_from, shared_at, shared_from, shared_of, AreEqualInputs}
use Rattle.sd_core.specs.Formed.{same_sort}
use Rattle.sd_term.specs.declared.build.Kind.TheVariants as kind
use Rattle.sd_term.specs.Tree.{Tree}
use Rattle.sd_term.specs.Truth.{Valuation, value, MakesTrue}
use Rattle.sd_match.specs.declared.pair.SpotPair.{SpotPair}
use Rattle.sd_match.specs.Pairs.{same_sorts, same_types, by_position, by_name, in_pairs, shared_pair, shared_pairs, inputs_of}
use Rattle.sd_cand.specs.declared.candidate.Relation.{Relation}
use Rattle.sd_cand.specs.Candidates.{equal_from}
use Rattle.sd_vcgen.proofs.Truths.{first_on, second_on}
use Rattle.sd_product.specs.Relations.{entry, related_at, holds_of, term_of}
use Rattle.sd_product.proofs.EqualInputs.{AreEqual, fixed-root}
use Rattle.sd_product.proofs.Truths.{term_of-truth}

-- ---- stretches of a list

-- the list goes on so from n on
abbrev GoesOn : {A : Type 0} → List A → ℕ → List A → Type 0
GoesOn all n xs = (i : ℕ) → slice_get all (n + i) ≡ slice_get xs i

first-of : {A : Type 0} (all : List A) (n : ℕ) (x : A) (xs : List A) → GoesOn all n (x ∷ xs) → slice_get all n ≡ Some x
first-of all n x xs h = let e : n ≡ n + 0 = omega arith in ap (slice_get all) e ∙ h 0

rest-of : {A : Type 0} (all : List A) (n : ℕ) (x : A) (xs : List A) → GoesOn all n (x ∷ xs) → GoesOn all (suc n) xs
rest-of all n x xs h i = let e : suc n + i ≡ n + suc i = omega arith in ap (slice_get all) e ∙ h (suc i)

whole : {A : Type 0} (all : List A) → GoesOn all 0 all
whole all i = let e : 0 + i ≡ i = omega arith in ap (slice_get all) e

-- ---- conditions

conditions-equal : (v : Valuation) (old new : Store Tree) (places : List SpotPair) (n : ℕ) (ss : List SpotPair) → GoesOn places n ss → MakesTrue v (map (term_of places old new) (equal_from n ss)) → AreEqual (map_store (value v) old) (map_store (value v) new) ss
conditions-equal v old new places n [] h m = tt
conditions-equal v old new places n (s ∷ ss) h m =
    let olds = map_store (value v) old in
    let news = map_store (value v) new in
    let r : Relation = record { place = n; kind = kind.Eq } in
    let holds : holds_of places olds news r ≡ true = sym (term_of-truth v places old new r) ∙ ap truth_of m.0 in
    let same : related_at kind.Eq olds news (Some s) ≡ true =
    subst (λ (o : Option SpotPair). related_at kind.Eq olds news o ≡ true) (first-of places n s ss h) holds in
    (value_is (read nothing olds s.old) (read nothing news s.new) same, conditions-equal v old new places (suc n) ss (rest-of places n s ss h) m.1)

pub inputs-equal : (v : Valuation) (old new : Store Tree) (places : List SpotPair) → MakesTrue v (map (term_of places old new) (equal_from 0 places)) → AreEqual (map_store (value v) old) (map_store (value v) new) places
inputs-equal v old new places m = conditions-equal v old new places 0 places (whole places) m

-- ---- places

equal-front : (old new : Store Value) (xs ys : List SpotPair) → AreEqual old new (xs ++ ys) → AreEqual old new xs
equal-front old new [] ys h = tt
equal-front old new (x ∷ xs) ys h = (h.0, equal-front old new xs ys h.1)

equal-back : (old new : Store Value) (xs ys : List SpotPair) → AreEqual old new (xs ++ ys) → AreEqual old new ys
equal-back old new [] ys h = h
equal-back old new (x ∷ xs) ys h = equal-back old new xs ys h.1

lengths-same : (xs ys : List Var) → same_sorts xs ys ≡ true → length xs ≡ length ys
lengths-same [] [] h = refl
lengths-same [] (y ∷ ys) h = absurd (cc)
lengths-same (x ∷ xs) [] h = absurd (cc)
lengths-same (x ∷ xs) (y ∷ ys) h = ap suc (lengths-same xs ys (second_on (same_sort x.sort y.sort) (same_sorts xs ys) h))

module _ (ins globals ins' globals' : List Value) where
  abbrev old-entry : Store Value
  old-entry = entry ins globals

  abbrev new-entry : Store Value
  new-entry = entry ins' globals'

  at-position : (i k : ℕ) (xs ys : List Var) → k < length xs → length xs ≡ length ys → AreEqual old-entry new-entry (by_position i i xs ys) → get_or ins (i + k) nothing ≡ get_or ins' (i + k) nothing
  at-position i k [] ys lt e h = absurd (omega (arith, lt))
  at-position i k (x ∷ xs) [] lt e h = absurd (omega (arith, e))
  at-position i zero (x ∷ xs) (y ∷ ys) lt e h =
      let here : i ≡ i + 0 = omega arith in
      subst (λ (n : ℕ). get_or ins n nothing ≡ get_or ins' n nothing) here h.0
  at-position i (suc k) (x ∷ xs) (y ∷ ys) lt e h =
      let there : suc i + k ≡ i + suc k = omega arith in
      subst (λ (n : ℕ). get_or ins n nothing ≡ get_or ins' n nothing) there (at-position (suc i) k xs ys (omega (arith, lt)) (omega (arith, e)) h.1)

  ins-same : (xs ys : List Var) → length ins ≡ length xs → length ins' ≡ length ys → length xs ≡ length ys → AreEqual old-entry new-entry (by_position 0 0 xs ys) → ins ≡ ins'
  ins-same xs ys a b e h =
      ext_get_or nothing ins ins' (a ∙ e ∙ sym b) (λ k lt.
      let here : 0 + k ≡ k = omega arith in
      subst (λ (n : ℕ). get_or ins n nothing ≡ get_or ins' n nothing) here (at-position 0 k xs ys (omega (arith, lt, a)) e h))

  -- the shared globals have one value
  abbrev AreShared : List Shared → Type 0
  AreShared = AllByRecursion (λ s. get_or globals s.old nothing ≡ get_or globals' s.new nothing)

  shared-first : (vars : List Var) (n : ℕ) (x : Var) (ss : List Shared) → slice_get vars n ≡ Some x → (AreEqual old-entry new-entry (shared_pairs vars ss) → AreShared ss) → (o : Option ℕ) → AreEqual old-entry new-entry (shared_pairs vars (shared_at n o ++ ss)) → AreShared (shared_at n o ++ ss)
  shared-first vars n x ss at rest None h = rest h
  shared-first vars n x ss at rest (Some m) h =
      let s : Shared = record { old = n; new = m } in
      let both : AreEqual old-entry new-entry (shared_pair s (Some x) ++ shared_pairs vars ss) =
      subst (λ (o : Option Var). AreEqual old-entry new-entry (shared_pair s o ++ shared_pairs vars ss)) at h in
      (both.0, rest both.1)

  shared-same : (vars : List Var) (n : ℕ) (olds news : List Var) → GoesOn vars n olds → AreEqual old-entry new-entry (shared_pairs vars (shared_from n olds news)) → AreShared (shared_from n olds news)
  shared-same vars n [] news h e = tt
  shared-same vars n (x ∷ olds) news h e =
      shared-first vars n x (shared_from (suc n) olds news) (first-of vars n x olds h) (shared-same vars (suc n) olds news (rest-of vars n x olds h)) (place_from 0 news x) e

  -- Inputs that are equal at the places of two procedures of the texts are equal.
  pub places-equal : (P Q : CoreProgram) (p q : CoreProc) → p.parent ≡ None → q.parent ≡ None → same_types p q ≡ true → length ins ≡ length p.ins → length ins' ≡ length q.ins → AreEqual old-entry new-entry (inputs_of P Q p q) → AreEqualInputs P Q ins globals ins' globals'
  places-equal P Q p q ep eq types a b h =
      let m = length p.ins in
      let n = length q.ins in
      let pairs = shared_pairs P.globals (shared_of P.globals Q.globals) in
      let fixed : AreEqual old-entry new-entry (in_pairs m n p.ins q.ins ++ pairs) =
      subst (λ (x : List SpotPair). AreEqual old-entry new-entry (x ++ pairs)) (λ i. in_pairs (fixed-root P p ep i) (fixed-root Q q eq i) p.ins q.ins) h in
      let named = by_name m n (drop m p.ins) (drop n q.ins) in
      let first = equal-front old-entry new-entry (by_position 0 0 (take m p.ins) (take n q.ins)) named (equal-front old-entry new-entry (in_pairs m n p.ins q.ins) pairs fixed) in
      let position : AreEqual old-entry new-entry (by_position 0 0 p.ins q.ins) =
      subst (AreEqual old-entry new-entry) (λ i. by_position 0 0 (take-length p.ins i) (take-length q.ins i)) first in
      record {
        same_ins = ins-same p.ins q.ins a b (lengths-same p.ins q.ins (first_on (same_sorts p.ins q.ins) (same_sorts p.outs q.outs) types)) position;
        same_globals = shared-same P.globals 0 P.globals Q.globals (whole P.globals) (equal-back old-entry new-entry (in_pairs m n p.ins q.ins) pairs fixed);
      }
