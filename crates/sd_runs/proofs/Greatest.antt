-- The infallible procedures of a program are the greatest set, and there is one such set.
use Rattle.std.proofs.Common.{◌≡◌, ℕ, zero, suc, ◌+◌, ◌<◌, ◌≤◌, ◌⊎◌, inl, inr, List, length, Option, refl, sym, ap, ◌∙◌, subst, ⊎_elim, arith}
use Rattle.std.specs.Prelude.{Bool, true, false, not, Some, None, slice_get, if◌then◌else◌}
use Rattle.std.specs.List.{list_all}
use Rattle.std.proofs.lemmas.Option.{slice_get_within}
use Rattle.std.proofs.lemmas.Bool.{cases_eq, ltb-true, lt-ltb, and_from, not-true, and_parts}
use Rattle.sd_core.specs.declared.CoreProc.{CoreProc}
use Rattle.sd_runs.specs.Calls.{callees_of, any_fail}
use Rattle.sd_runs.specs.Infallible.{IsInfallibleBody, IsInfallibleSet, AreIn, is_infallible_body, infallible_within, infallible_of}
use Rattle.sd_runs.specs.Laws.{InfallibleAreGreatest, InfallibleAreOne}
use Rattle.sd_runs.proofs.Contained.{all_in, all_of}
use Rattle.sd_runs.proofs.Spread.{found_at}

-- ---- sets

-- each member of a set is in another
abbrev IsWithin : (ℕ → Bool) → (ℕ → Bool) → Type 0
IsWithin f g = (q : ℕ) → f q ≡ true → g q ≡ true

-- how many places below n are in a set
abbrev count_below : (ℕ → Bool) → ℕ → ℕ
count_below f zero = 0
count_below f (suc n) = (if f n then 1 else 0) + count_below f n

few_below : (f : ℕ → Bool) (n : ℕ) → count_below f n ≤ n
few_below f zero = omega arith
few_below f (suc n) = go (f n) (few_below f n)
  where
    go : (b : Bool) → count_below f n ≤ n → (if b then 1 else 0) + count_below f n ≤ suc n
    go true h = omega arith
    go false h = omega arith

-- a set within another has fewer members, or is the same
module _ (f g : ℕ → Bool) (h : IsWithin f g) where
  abbrev IsFewer : (n a b : ℕ) → Type 0
  IsFewer n a b = (a < b) ⊎ ((a ≡ b) × ((q : ℕ) → q < n → g q ≡ true → f q ≡ true))

  fewer : (n : ℕ) → IsFewer n (count_below f n) (count_below g n)
  fewer zero = inr (refl, λ q l e. absurd (omega arith))
  fewer (suc n) = go (f n) refl (g n) refl (fewer n)
    where
      more : (g n ≡ true → f n ≡ true) → ((q : ℕ) → q < n → g q ≡ true → f q ≡ true) → (q : ℕ) → q < suc n → g q ≡ true → f q ≡ true
      more last s q l e = ⊎_elim (λ (k : q ≡ n). ap f k ∙ last (sym (ap g k) ∙ e)) (λ (k : q ≡ n → ⊥). s q (omega arith) e) (cases_eq q n)

      go : (a : Bool) → f n ≡ a → (b : Bool) → g n ≡ b → IsFewer n (count_below f n) (count_below g n) → IsFewer (suc n) ((if a then 1 else 0) + count_below f n) ((if b then 1 else 0) + count_below g n)
      go true ea false eb r = absurd (let e : true ≡ false = sym (h n ea) ∙ eb in cc)
      go true ea true eb (inl l) = inl (omega arith)
      go true ea true eb (inr s) = inr ((omega (arith, s.0)), more (λ e. ea) s.1)
      go false ea true eb (inl l) = inl (omega arith)
      go false ea true eb (inr s) = inl (omega (arith, s.0))
      go false ea false eb (inl l) = inl (omega arith)
      go false ea false eb (inr s) = inr ((omega (arith, s.0)), more (λ e. absurd (let bad : true ≡ false = sym e ∙ eb in cc)) s.1)

-- ---- rounds

body-is : (f : ℕ → Bool) (p : CoreProc) → is_infallible_body f (Some p) ≡ true → IsInfallibleBody f p
body-is f p e =
    let es = and_parts (not (any_fail p.body)) (list_all f (callees_of p.body)) e in
    record { no_fail = not-true (any_fail p.body) es.0; callees = all_of f (callees_of p.body) es.1 }

is-body : (f g : ℕ → Bool) → IsWithin f g → (p : CoreProc) → IsInfallibleBody f p → is_infallible_body g (Some p) ≡ true
is-body f g h p b = and_from (not (any_fail p.body)) (list_all g (callees_of p.body)) (ap not b.no_fail) (all_in f g h (callees_of p.body) b.callees)

body-more : (f g : ℕ → Bool) → IsWithin f g → (o : Option CoreProc) → is_infallible_body f o ≡ true → is_infallible_body g o ≡ true
body-more f g h None e = cc
body-more f g h (Some p) e = is-body f g h p (body-is f p e)

module _ (procs : List CoreProc) where
  -- the set after n rounds, and how many it has
  abbrev left : ℕ → ℕ → Bool
  left = infallible_within procs

  abbrev number : ℕ → ℕ
  number n = count_below (left n) (length procs)

  abbrev IsStable : ℕ → Type 0
  IsStable n = IsWithin (left n) (left (suc n))

  shrinks : (n : ℕ) → IsWithin (left (suc n)) (left n)
  shrinks zero q e = lt-ltb q (length procs) (go (slice_get procs q) refl e)
    where
      go : (o : Option CoreProc) → slice_get procs q ≡ o → is_infallible_body (left zero) o ≡ true → q < length procs
      go None s e = absurd (cc)
      go (Some p) s e = slice_get_within procs q p s
  shrinks (suc n) q e = body-more (left (suc n)) (left n) (shrinks n) (slice_get procs q) e

  are_places : (n : ℕ) → AreIn procs (left n)
  are_places zero q e = ltb-true q (length procs) e
  are_places (suc n) q e = are_places n q (shrinks n q e)

  -- a round that takes none away is the last one
  fewer_left : (n : ℕ) → (number (suc n) < number n) ⊎ IsStable n
  fewer_left n = ⊎_elim (λ (l : number (suc n) < number n). inl l) (λ s. inr (λ q e. s.1 q (are_places n q e) e)) (fewer (left (suc n)) (left n) (shrinks n) (length procs))

  stable_or_few : (n : ℕ) → IsStable n ⊎ (number n + n ≤ length procs)
  stable_or_few zero = inr (let few = few_below (left zero) (length procs) in omega (arith, few))
  stable_or_few (suc n) = ⊎_elim (λ (s : IsStable n). inl (next s)) (λ (c : number n + n ≤ length procs). ⊎_elim (λ (l : number (suc n) < number n). inr (omega arith)) (λ (s : IsStable n). inl (next s)) (fewer_left n)) (stable_or_few n)
    where
      next : IsStable n → IsStable (suc n)
      next s q e = body-more (left n) (left (suc n)) s (slice_get procs q) e

  stable : IsStable (length procs)
  stable = ⊎_elim
      (λ (s : IsStable (length procs)). s)
      (λ (c : number (length procs) + length procs ≤ length procs). ⊎_elim (λ (l : number (suc (length procs)) < number (length procs)). absurd (omega arith)) (λ (s : IsStable (length procs)). s) (fewer_left (length procs)))
      (stable_or_few (length procs))

  above : (other : ℕ → Bool) → IsInfallibleSet procs other → AreIn procs other → (n : ℕ) → IsWithin other (left n)
  above other set inside zero q o = lt-ltb q (length procs) (inside q o)
  above other set inside (suc n) q o =
      let p = found_at procs q (inside q o) in
      subst (λ (x : Option CoreProc). is_infallible_body (left n) x ≡ true) (sym p.1) (is-body other (left n) (above other set inside n) p.0 (set q p.0 o p.1))

pub are_greatest : InfallibleAreGreatest
unfolding infallible_of
are_greatest procs = record {
  is_set = λ q p t f. body-is (left procs (length procs)) p (subst (λ (x : Option CoreProc). is_infallible_body (left procs (length procs)) x ≡ true) f (stable procs q t));
  are_in = are_places procs (length procs);
  greatest = λ other set inside. above procs other set inside (length procs);
}

-- ---- one set

same_truth : (a b : Bool) → (a ≡ true → b ≡ true) → (b ≡ true → a ≡ true) → a ≡ b
same_truth true b f g = sym (f refl)
same_truth false true f g = g refl
same_truth false false f g = refl

pub are_one : InfallibleAreOne
are_one procs infallible other a b = λ i q. same_truth (infallible q) (other q) (b.greatest infallible a.is_set a.are_in q) (a.greatest other b.is_set b.are_in q) i
