-- the marks of the steps that the last one needs, while they are put from the last step back
use Rattle.std.proofs.Common.{◌≡◌, ℕ, zero, suc, ◌+◌, ◌<◌, ◌≤◌, List, [], ◌∷◌, length, refl, Bool, true, false, arith, ◌||◌, ◌⊎◌, inl, inr}
use Rattle.sd_linear.specs.declared.step.RowStep.{RowStep}
use Rattle.sd_linear.specs.RowSteps.{names}
use Rattle.sd_linear.specs.Pruning.{step_at, is_marked}

-- the steps from i on are done
pub record MarksFrom (steps : List RowStep) (i : ℕ) (marks : List Bool) : Type 0 where
  pub count : length marks ≡ length steps
  pub last : (k : ℕ) → k + 1 ≡ length steps → is_marked marks k ≡ true
  pub closed : (k j : ℕ) → i ≤ k → is_marked marks k ≡ true → names (step_at steps k) j ≡ true → is_marked marks j ≡ true
  pub used : (k : ℕ) → k + 1 < length steps → is_marked marks k ≡ true → (j : ℕ) × (is_marked marks j ≡ true) × (names (step_at steps j) k ≡ true)

beyond : (l : List Bool) (i : ℕ) → length l ≤ i → is_marked l i ≡ false
beyond [] i h = refl
beyond (b ∷ bs) zero h = absurd (omega arith)
beyond (b ∷ bs) (suc i) h = beyond bs i (omega arith)

pub marked-within : (l : List Bool) (i : ℕ) → is_marked l i ≡ true → i < length l
marked-within [] i h = absurd (cc)
marked-within (b ∷ bs) zero h = omega arith
marked-within (b ∷ bs) (suc i) h = omega (arith, marked-within bs i h)

or-cases : (a b : Bool) → (a || b) ≡ true → (a ≡ true) ⊎ (b ≡ true)
or-cases true b e = inl refl
or-cases false b e = inr e
