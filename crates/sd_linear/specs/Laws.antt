-- what a refutation is good for
use Rattle.std.specs.Prelude.{ℕ, ℤ, List}
use Rattle.sd_rows.specs.declared.row.Row.{Row}
use Rattle.sd_rows.specs.Rows.{AllHold}
use Rattle.sd_linear.specs.declared.step.RowStep.{RowStep}
use Rattle.sd_linear.specs.RowSteps.{Refutes}

-- no integers meet rows that are refuted
abbrev pub RefutedRowsAreUnmet : Type 0
RefutedRowsAreUnmet =
    (x : ℕ → ℤ) (inputs : List Row) (steps : List RowStep) → Refutes inputs steps → AllHold x inputs → ⊥
