-- rows of a list with the steps that derive them
use Rattle.std.specs.Prelude.{◌≡◌, ℕ, ◌+◌, ◌<◌, Bool, true, false, List, [], ◌∷◌, ◌++◌, length, filter, not, slice_index_or}
use Rattle.sd_rows.specs.declared.row.Row.{Row}
use Rattle.sd_rows.specs.Rows.{nothing, IsProper, is_within, AllComputable}
use Rattle.sd_linear.specs.declared.step.RowStep.{RowStep}
use Rattle.sd_linear.specs.declared.step.RowStep.TheVariants.{Cut}
use Rattle.sd_linear.specs.declared.list.DerivedRow.{DerivedRow}
use Rattle.sd_linear.specs.RowSteps.{rows_made, AreSteps, AreUseful}
use Rattle.sd_linear.specs.Values.{AllWithin}
use Rattle.sd_linear.specs.Elimination.{continues, is_free, eliminated}

abbrev pub default_row : DerivedRow
default_row = record { row = nothing; step = 0 }

abbrev pub rows_of : List DerivedRow → List Row
rows_of [] = []
rows_of (h ∷ hs) = h.row ∷ rows_of hs

-- the row is derived, and can be computed with
pub record IsDerivedRow (made : List Row) (h : DerivedRow) : Type 0 where
  pub there : h.step < length made
  pub row : slice_index_or made h.step nothing ≡ h.row
  pub proper : IsProper h.row.parts
  pub within : is_within h.row ≡ true

abbrev pub AreDerivedRows : List Row → List DerivedRow → Type 0
AreDerivedRows made [] = Unit {0}
AreDerivedRows made (h ∷ hs) = IsDerivedRow made h × AreDerivedRows made hs

-- the steps are steps, all their rows are within the bounds, each cut divides, and they derive the rows of the list
pub record IsDerivation (inputs : List Row) (steps : List RowStep) (list : List DerivedRow) : Type 0 where
  pub are_steps : AreSteps inputs [] steps
  pub within : AllWithin (rows_made inputs steps)
  pub useful : AreUseful inputs [] steps
  pub rows : AreDerivedRows (rows_made inputs steps) list

-- a step, and then the cut of its row, if there is to be one; n is the number of the step
abbrev pub with_cut : RowStep → ℕ → Bool → List RowStep
with_cut how n true = how ∷ Cut n ∷ []
with_cut how n false = how ∷ []

abbrev pub Extends : List RowStep → List RowStep → Type 0
Extends old new = (more : List RowStep) × (new ≡ old ++ more)

abbrev pub list_at : List (List DerivedRow) → ℕ → List DerivedRow
list_at lists i = slice_index_or lists i []

abbrev pub rows_at : List (List Row) → ℕ → List Row
rows_at all i = slice_index_or all i []

abbrev pub has_column : ℕ → Row → Bool
has_column k r = not (is_free k r)

-- all the rows, first with all columns and then without one more each time, until n are gone; the lists hold those with
-- the next column
pub record Descends (columns : List ℕ) (n : ℕ) (all : List (List Row)) (lists : List (List DerivedRow)) : Type 0 where
  pub count : length all ≡ n + 1
  pub later : (i : ℕ) → i < n
      → eliminated (slice_index_or columns i 0) (rows_at all i) ≡ continues (rows_at all (i + 1))
  pub listed : length lists ≡ n
  pub with_column : (i : ℕ) → i < n
      → rows_of (list_at lists i) ≡ filter (has_column (slice_index_or columns i 0)) (rows_at all i)
  pub computable : (i : ℕ) → i < n → AllComputable (rows_of (list_at lists i))

pub record DescendsFrom (columns : List ℕ) (first : List Row) (lists : List (List DerivedRow)) : Type 0 where
  pub all : List (List Row)
  pub starts : rows_at all 0 ≡ first
  pub descends : Descends columns (length columns) all lists
