-- which steps a refutation needs, and how those that it keeps are numbered
use Rattle.std.specs.Prelude.{◌≡◌, ℕ, ◌+◌, ◌<◌, Bool, true, false, List, length, slice_index_or}
use Rattle.sd_linear.specs.declared.step.RowStep.{RowStep}
use Rattle.sd_linear.specs.declared.step.RowStep.TheVariants.{Input, Add, Cut}
use Rattle.sd_linear.specs.RowSteps.{names}

abbrev pub step_at : List RowStep → ℕ → RowStep
step_at steps i = slice_index_or steps i (Input 0)

abbrev pub is_marked : List Bool → ℕ → Bool
is_marked marks i = slice_index_or marks i false

abbrev pub number_of : List ℕ → ℕ → ℕ
number_of numbers i = slice_index_or numbers i 0

-- each step is made from earlier ones
abbrev pub AllEarlier : List RowStep → Type 0
AllEarlier steps = (i j : ℕ) → i < length steps → names (step_at steps i) j ≡ true → j < i

-- the last step is marked, and the steps from which a marked one is made, and no others
pub record AreNeeded (steps : List RowStep) (marks : List Bool) : Type 0 where
  pub count : length marks ≡ length steps
  pub last : (k : ℕ) → k + 1 ≡ length steps → is_marked marks k ≡ true
  pub closed : (k j : ℕ) → is_marked marks k ≡ true → names (step_at steps k) j ≡ true → is_marked marks j ≡ true
  pub used : (k : ℕ) → k + 1 < length steps → is_marked marks k ≡ true
      → (j : ℕ) × (is_marked marks j ≡ true) × (names (step_at steps j) k ≡ true)

-- the step by the new numbers
abbrev pub renumbered : List ℕ → RowStep → RowStep
renumbered numbers (Input i) = Input i
renumbered numbers (Add a m b n) = Add (number_of numbers a) m (number_of numbers b) n
renumbered numbers (Cut a) = Cut (number_of numbers a)
