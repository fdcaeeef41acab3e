-- rows with the lines that give them, and the steps of a refutation as lines
use Rattle.std.specs.Prelude.{◌≡◌, ℕ, ◌<◌, List, [], ◌∷◌, slice_index_or}
use Rattle.sd_term.specs.Tree.{Tree}
use Rattle.sd_rows.specs.declared.row.Row.{Row}
use Rattle.sd_linear.specs.declared.step.RowStep.{RowStep}
use Rattle.sd_linear.specs.declared.step.RowStep.TheVariants.{Input, Add as AddStep, Cut as CutStep}
use Rattle.sd_kernel.specs.declared.step.RowLine.{RowLine}
use Rattle.sd_kernel.specs.declared.step.RowLine.TheVariants.{Fact as FactLine, Add, Cut}
use Rattle.sd_kernel.specs.Known.{Trail}
use Rattle.sd_kernel.specs.Steps.{made, row_of_line}

-- the line gives the row, whatever rows stand before it
abbrev pub Gives : List Tree → Trail → RowLine → Row → Type 0
Gives terms trail l r = (before : List Row) → row_of_line terms trail before l ≡ made r

-- each line gives its row
abbrev pub AllGive : List Tree → Trail → List RowLine → List Row → Type 0
AllGive terms trail [] [] = Unit {0}
AllGive terms trail [] (r ∷ rs) = ⊥
AllGive terms trail (l ∷ ls) [] = ⊥
AllGive terms trail (l ∷ ls) (r ∷ rs) = Gives terms trail l r × AllGive terms trail ls rs

-- the line of a step, where the inputs have these lines
abbrev pub line_of : List RowLine → RowStep → RowLine
line_of inputs (Input i) = slice_index_or inputs i (FactLine 0)
line_of inputs (AddStep a m b n) = Add a m b n
line_of inputs (CutStep a) = Cut a

-- an input that the step takes is one of so many
abbrev pub HasInput : ℕ → RowStep → Type 0
HasInput count (Input i) = i < count
HasInput count (AddStep a m b n) = Unit {0}
HasInput count (CutStep a) = Unit {0}
