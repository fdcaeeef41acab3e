-- rows of a branch that are within the bounds, with their lines
use Rattle.std.specs.Prelude.{◌≡◌, Bool, List, [], ◌∷◌, ◌++◌, filter}
use Rattle.std.specs.List.{flat_map}
use Rattle.sd_term.specs.Tree.{Tree}
use Rattle.sd_rows.specs.declared.row.Row.{Row}
use Rattle.sd_rows.specs.Rows.{is_within, IsProper, AllComputable}
use Rattle.sd_forms.specs.FactRows.{rows_of}
use Rattle.sd_kernel.specs.declared.step.RowLine.{RowLine}
use Rattle.sd_kernel.specs.Known.{Trail, known}
use Rattle.sd_cube.specs.CubeRows.{rows_if}
use Rattle.sd_arith.specs.declared.gather.Gathered.{Gathered}
use Rattle.sd_arith.specs.Lines.{Gives, AllGive}

-- those of the rows that are within the bounds have been gathered, each with a line that gives it
pub record IsGathered (terms : List Tree) (trail : Trail) (rows : List Row) (g : Gathered) : Type 0 where
  pub kept : g.rows ≡ filter is_within rows
  pub given : AllGive terms trail g.lines g.rows
  pub computable : AllComputable g.rows

-- the rows of some of the terms, by their truth values
abbrev pub rows_of_terms : List Tree → Trail → List Tree → List Row
rows_of_terms terms trail ts = flat_map (λ t. rows_if terms t (known trail t)) ts

-- one row more, which the line gives
abbrev pub Adds : RowLine → Row → Gathered → Gathered → Type 0
Adds line row old new =
    (terms : List Tree) (trail : Trail) (rows : List Row) → Gives terms trail line row → IsProper row.parts
    → IsGathered terms trail rows old → IsGathered terms trail (rows ++ row ∷ []) new

-- the rows of one term more
abbrev pub AddsRows : List Tree → Trail → Tree → Bool → Gathered → Gathered → Type 0
AddsRows terms trail t value old new =
    (rows : List Row) → IsGathered terms trail rows old → IsGathered terms trail (rows ++ rows_of terms t value) new
