-- the linear form of an integer term
use Rattle.std.specs.Prelude.{ℕ, suc, cond, pos, negsuc, List, [], ◌∷◌, slice_index_or, ℤ}
use Rattle.sd_base.specs.Meaning.{number_of}
use Rattle.sd_term.specs.declared.node.Head.{Head}
use Rattle.sd_term.specs.declared.node.Head.TheVariants.{Num}
use Rattle.sd_term.specs.Heads.{Add, Sub, Mul, Neg}
use Rattle.sd_term.specs.Tree.{Tree, head_of, folded, same_tree}
use Rattle.sd_term.specs.Bank.{tree_at}
use Rattle.sd_term.specs.Truth.{Valuation, value}
use Rattle.sd_rows.specs.declared.form.Form.{Form}
use Rattle.sd_rows.specs.Forms.{constant, column, plus, less, scaled, bounded, product}

-- the least number of a tree
abbrev pub place_of : List Tree → Tree → ℕ
place_of [] t = 0
place_of (u ∷ us) t = cond (same_tree u t) 0 (suc (place_of us t))

abbrev pub form_at : List Form → ℕ → Form
form_at fs k = slice_index_or fs k (constant (pos 0))

-- the form of a head over parts with these forms, where k is the column of the term itself
abbrev pub form_by : Head → ℕ → List Form → Form
form_by (Num n) k fs = bounded k (constant (pos n))
form_by Add k fs = bounded k (plus (form_at fs 0) (form_at fs 1))
form_by Sub k fs = bounded k (less (form_at fs 0) (form_at fs 1))
form_by Neg k fs = bounded k (scaled (negsuc 0) (form_at fs 0))
form_by Mul k fs = product k (form_at fs 0) (form_at fs 1)
form_by _ k fs = column k

-- the form of a tree, where a column is the least number of its tree
abbrev pub form_of : List Tree → Tree → Form
form_of terms t = folded (λ u fs. form_by (head_of u) (place_of terms u) fs) t

-- the value of each column
abbrev pub columns_under : Valuation → List Tree → ℕ → ℤ
columns_under v terms k = number_of (value v (tree_at terms k))
