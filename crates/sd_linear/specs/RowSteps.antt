-- steps that derive rows from given rows
use Rattle.std.specs.Prelude.{◌≡◌, ℕ, ◌+◌, ◌<◌, ◌≤◌, ◌^◌, ◌==◌, ◌||◌, Bool, true, false, List, [], ◌∷◌, ◌++◌, length, slice_index_or}
use Rattle.sd_rows.specs.declared.row.Row.{Row}
use Rattle.std.specs.List.{list_any}
use Rattle.sd_linear.specs.declared.step.RowStep.{RowStep}
use Rattle.sd_linear.specs.declared.step.RowStep.TheVariants.{Input, Add, Cut}
use Rattle.sd_rows.specs.Rows.{nothing, IsAbsurd}
use Rattle.sd_rows.specs.Divisors.{greatest_divisor}
use Rattle.sd_rows.specs.RowOps.{added, reduced, sizes}

-- the row that a step makes from the inputs and the rows of the steps before it
abbrev pub row_made : List Row → List Row → RowStep → Row
row_made inputs before (Input i) = slice_index_or inputs i nothing
row_made inputs before (Add a m b n) = added m (slice_index_or before a nothing) n (slice_index_or before b nothing)
row_made inputs before (Cut a) = reduced (slice_index_or before a nothing)

-- the rows of the steps, after those of earlier steps
abbrev pub made_from : List Row → List Row → List RowStep → List Row
made_from inputs before [] = before
made_from inputs before (s ∷ ss) = made_from inputs (before ++ row_made inputs before s ∷ []) ss

abbrev pub rows_made : List Row → List RowStep → List Row
rows_made inputs steps = made_from inputs [] steps

-- it names rows that are there, with multipliers from 1 to 2^58
abbrev pub IsStep : List Row → List Row → RowStep → Type 0
IsStep inputs before (Input i) = i < length inputs
IsStep inputs before (Add a m b n) = (a < length before) × (b < length before) × (1 ≤ m) × (m ≤ 2 ^ 58) × (1 ≤ n)
    × (n ≤ 2 ^ 58)
IsStep inputs before (Cut a) = a < length before

abbrev pub AreSteps : List Row → List Row → List RowStep → Type 0
AreSteps inputs before [] = Unit {0}
AreSteps inputs before (s ∷ ss) = IsStep inputs before s × AreSteps inputs (before ++ row_made inputs before s ∷ []) ss

-- the last row that the steps derive from the inputs is absurd
pub record Refutes (inputs : List Row) (steps : List RowStep) : Type 0 where
  pub are_steps : AreSteps inputs [] steps
  pub ends : (k : ℕ) × (k + 1 ≡ length (rows_made inputs steps))
      × IsAbsurd (slice_index_or (rows_made inputs steps) k nothing)

-- the step is made from the row of step i
abbrev pub names : RowStep → ℕ → Bool
names (Input k) i = false
names (Add a m b n) i = a == i || b == i
names (Cut a) i = a == i

-- each step but the last is one from which another is made
abbrev pub AllUsed : List RowStep → Type 0
AllUsed steps = (i : ℕ) → i + 1 < length steps → list_any (λ s. names s i) steps ≡ true

-- a cut divides by more than 1, and so makes another row
abbrev pub IsUseful : List Row → RowStep → Type 0
IsUseful before (Input i) = Unit {0}
IsUseful before (Add a m b n) = Unit {0}
IsUseful before (Cut a) = 1 < greatest_divisor (sizes (slice_index_or before a nothing).parts)

abbrev pub AreUseful : List Row → List Row → List RowStep → Type 0
AreUseful inputs before [] = Unit {0}
AreUseful inputs before (s ∷ ss) = IsUseful before s × AreUseful inputs (before ++ row_made inputs before s ∷ []) ss
