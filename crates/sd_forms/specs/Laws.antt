-- what linear forms and rows are good for
use Rattle.std.specs.Prelude.{◌≡◌, Bool, true, List}
use Rattle.sd_base.specs.declared.sort.Sort.{Int}
use Rattle.sd_base.specs.Value.{Number, Truth}
use Rattle.sd_term.specs.Tree.{Tree}
use Rattle.sd_term.specs.Sorts.{sort_of, IsWellSorted}
use Rattle.sd_term.specs.Numbering.{has}
use Rattle.sd_term.specs.Truth.{Valuation, value}
use Rattle.sd_rows.specs.declared.form.Form.{Form}
use Rattle.sd_rows.specs.Rows.{AllHold}
use Rattle.sd_rows.specs.Forms.{value_at}
use Rattle.sd_forms.specs.LinearForms.{form_of, columns_under}
use Rattle.sd_forms.specs.FactRows.{rows_of}
use Rattle.sd_term.specs.Closed.{IsClosed}

-- where it is an integer, the term has the value of the form, under every valuation
abbrev pub KeepsValue : List Tree → Tree → Form → Type 0
KeepsValue terms t f = (v : Valuation) → sort_of t ≡ Int → value v t ≡ Number (value_at (columns_under v terms) f)

-- an integer term of closed terms has the value of its linear form
abbrev pub FormsKeepValues : Type 0
FormsKeepValues = (terms : List Tree) (t : Tree) → IsClosed terms → has terms t ≡ true
    → KeepsValue terms t (form_of terms t)

-- the rows of a well-sorted term of closed terms hold where it has the truth value
abbrev pub RowsHold : Type 0
RowsHold =
    (v : Valuation) (terms : List Tree) (t : Tree) (b : Bool) → IsClosed terms → has terms t ≡ true → IsWellSorted t
    → value v t ≡ Truth b → AllHold (columns_under v terms) (rows_of terms t b)
