-- the places of the first facts on terms
use Rattle.std.specs.Prelude.{◌≡◌, ℕ, suc, ◌<◌, Bool, true, cond, List, [], ◌∷◌, length, Option, Some, None, slice_index_or, slice_get}
use Rattle.sd_term.specs.Tree.{Tree, same_tree}
use Rattle.sd_term.specs.Bank.{tree_at}
use Rattle.sd_forms.specs.FactRows.{is_comparison}
use Rattle.sd_kernel.specs.Known.{Trail}

-- the place of the first of these facts on the tree, where they are counted from k
abbrev pub place_from : ℕ → Trail → Tree → Option ℕ
place_from k [] t = None
place_from k (f ∷ fs) t = cond (same_tree f.0 t) (Some k) (place_from (suc k) fs t)

abbrev pub place_in : List (Option ℕ) → ℕ → Option ℕ
place_in places n = slice_index_or places n None

-- the table has that place for each tree
pub record HasPlaces (terms : List Tree) (k : ℕ) (facts : Trail) (places : List (Option ℕ)) : Type 0 where
  pub long : length places ≡ length terms
  pub exact : (n : ℕ) → n < length terms → place_in places n ≡ place_from k facts (tree_at terms n)

-- an order or an equality of integers has its truth value by the fact at this place
abbrev pub IsPlace : Trail → Tree → Bool → ℕ → Type 0
IsPlace trail t value place = is_comparison t ≡ true → slice_get trail place ≡ Some (t, value)
