-- the rows that a term with a truth value gives
use Rattle.std.specs.Prelude.{ℕ, Bool, true, false, ◌&&◌, ◌||◌, pos, negsuc, List, [], ◌∷◌, if◌then◌else◌, slice_index_or}
use Rattle.sd_base.specs.declared.sort.Sort.{Sort, Int}
use Rattle.sd_term.specs.declared.node.Head.{Head}
use Rattle.sd_term.specs.Heads.{True, Eq, Le}
use Rattle.sd_term.specs.Tree.{Tree, leaf, head_of, parts_of}
use Rattle.sd_term.specs.Sorts.{sort_of}
use Rattle.sd_rows.specs.declared.row.Row.{Row}
use Rattle.sd_rows.specs.Rows.{IsProper}
use Rattle.sd_rows.specs.Forms.{less, at_most}
use Rattle.sd_forms.specs.LinearForms.{form_of}

-- the part at a place
abbrev pub part_at : Tree → ℕ → Tree
part_at t k = slice_index_or (parts_of t) k (leaf True)

abbrev pub is_int_sort : Sort → Bool
is_int_sort Int = true
is_int_sort _ = false

abbrev pub is_le_head : Head → Bool
is_le_head Le = true
is_le_head _ = false

abbrev pub is_eq_head : Head → Bool
is_eq_head Eq = true
is_eq_head _ = false

-- an order of integers
abbrev pub is_le : Tree → Bool
is_le t = is_le_head (head_of t)

-- an equality of integers
abbrev pub is_int_eq : Tree → Bool
is_int_eq t = is_eq_head (head_of t) && is_int_sort (sort_of (part_at t 0))

-- an order or an equality of integers
abbrev pub is_comparison : Tree → Bool
is_comparison t = is_le t || is_int_eq t

-- the first part is at most the second
abbrev pub below_row : List Tree → Tree → Row
below_row terms t = at_most (pos 0) (less (form_of terms (part_at t 0)) (form_of terms (part_at t 1)))

-- the second part is at most the first
abbrev pub back_row : List Tree → Tree → Row
back_row terms t = at_most (pos 0) (less (form_of terms (part_at t 1)) (form_of terms (part_at t 0)))

-- the second part is less than the first
abbrev pub above_row : List Tree → Tree → Row
above_row terms t = at_most (negsuc 0) (less (form_of terms (part_at t 1)) (form_of terms (part_at t 0)))

-- the rows of a term with this truth value: one of an order, two of a true equality of integers, and else none
abbrev pub rows_of : List Tree → Tree → Bool → List Row
rows_of terms t true =
    if is_le t then below_row terms t ∷ []
    else (if is_int_eq t then below_row terms t ∷ back_row terms t ∷ [] else [])
rows_of terms t false = if is_le t then above_row terms t ∷ [] else []

-- the columns of each row ascend, each once, and none has the factor 0
abbrev pub AllProper : List Row → Type 0
AllProper [] = Unit {0}
AllProper (r ∷ rs) = IsProper r.parts × AllProper rs
