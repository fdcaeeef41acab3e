-- A text that grows by lines.
use Rattle.std.specs.Prelude.{◌≡◌, ℕ, List, ◌++◌}
use Rattle.std.specs.List.{AllByRecursion}
use Rattle.sd_kernel.specs.declared.Step.{Step}
use Rattle.sd_kernel.specs.declared.Step.TheVariants.{Rows as RowsStep}
use Rattle.sd_cert.specs.declared.line.Line.{Line}
use Rattle.sd_cert.specs.declared.line.Line.TheVariants.{Step as StepLine}
use Rattle.sd_cert.specs.Lines.{IsLine}
use Rattle.sd_cert.specs.Text.{lines_text}

-- the step has one line
abbrev pub IsOneLine : Step → Type 0
IsOneLine (RowsStep rows) = ⊥
IsOneLine _ = Unit {0}

-- the line is no step
abbrev pub IsNoStep : Line → Type 0
IsNoStep (StepLine step) = ⊥
IsNoStep _ = Unit {0}

-- these lines, whose fields are within their types, were added
pub record IsAdded (lines : List Line) (old new : List ℕ) : Type 0 where
  pub fit : AllByRecursion IsLine lines
  pub text : new ≡ old ++ lines_text lines
