-- terms over two parts, by their left part
use Rattle.std.specs.Prelude.{◌≡◌, ℕ, ◌<◌, List, [], ◌∷◌, Option, Some, None, length, slice_index_or}
use Rattle.sd_term.specs.Tree.{Tree, parts_of}
use Rattle.sd_term.specs.Bank.{tree_at}
use Rattle.sd_euf.specs.declared.table.LeftTable.{LeftTable}

-- a tree over two parts, of which this is the first
abbrev pub HasLeft : Tree → Tree → Type 0
HasLeft t x = (y : Tree) × (parts_of t ≡ x ∷ y ∷ [])

-- the last of the first n trees that has the left part
abbrev pub IsLastLeft : List Tree → Tree → ℕ → Option ℕ → Type 0
IsLastLeft terms x n None = (j : ℕ) → j < n → HasLeft (tree_at terms j) x → ⊥
IsLastLeft terms x n (Some p) =
    (p < n) × HasLeft (tree_at terms p) x × ((j : ℕ) → p < j → j < n → HasLeft (tree_at terms j) x → ⊥)

-- for each tree the last term with this left part, and for each term the last one before it with the
-- same left part, among the first n
pub record IsLeftTable (terms : List Tree) (table : LeftTable) (n : ℕ) : Type 0 where
  pub as_long : length table.last ≡ length terms
  pub passed : length table.earlier ≡ n
  pub last_is : (k : ℕ) → k < length terms
      → IsLastLeft terms (tree_at terms k) n (slice_index_or table.last k None)
  pub earlier_is : (j : ℕ) → j < n → (x : Tree) → HasLeft (tree_at terms j) x
      → IsLastLeft terms x j (slice_index_or table.earlier j None)
