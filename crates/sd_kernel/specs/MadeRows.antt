-- rows that are made, and why they are bad
use Rattle.std.specs.Prelude.{ℕ, List, [], Bool, not, ◌&&◌, if◌then◌else◌, Option, Some, None}
use Rattle.sd_rows.specs.declared.row.Row.{Row}
use Rattle.sd_rows.specs.Rows.{IsProper, is_within, is_absurd}
use Rattle.sd_kernel.specs.declared.rows.LineRow.{LineRow}
use Rattle.sd_kernel.specs.declared.rows.LineRow.TheVariants.{Row as RowMade, Bad}
use Rattle.sd_kernel.specs.declared.step.StepCause.{StepCause}
use Rattle.sd_kernel.specs.declared.step.StepCause.TheVariants.{Row as RowCause, Wide}
use Rattle.sd_kernel.specs.Steps.{Made, made, wrong, row_of_line}
use Rattle.sd_kernel.specs.declared.step.RowLine.TheVariants.{Add, Cut}

abbrev pub made_of : LineRow → Made
made_of (RowMade r) = made r
made_of (Bad c) = wrong c

abbrev pub IsProperRow : LineRow → Type 0
IsProperRow (RowMade r) = IsProper r.parts
IsProperRow (Bad c) = Unit {0}

-- the last row is to be absurd, and each one within the bounds
abbrev pub row_fault : Row → Bool → Option StepCause
row_fault r last = if last && not (is_absurd r) then Some RowCause else (if is_within r then None else Some Wide)

-- the rows of the lines over rows before them
abbrev pub row_of_sum : List Row → ℕ → ℕ → ℕ → ℕ → Made
row_of_sum rows a m b n = row_of_line [] [] rows (Add a m b n)

abbrev pub row_of_cut : List Row → ℕ → Made
row_of_cut rows a = row_of_line [] [] rows (Cut a)
