-- the least number of a tree
use Rattle.std.proofs.Common.{◌≡◌, ℕ, ◌<◌, List, [], ◌∷◌, ◌++◌, refl, true, false, length, arith}
use Rattle.sd_term.specs.Tree.{Tree, same_tree-true}
use Rattle.sd_term.specs.Bank.{tree_at}
use Rattle.sd_term.specs.Numbering.{has}
use Rattle.sd_term.specs.Distinct.{AreDistinct}
use Rattle.sd_term.proofs.Shared.{same-number}
use Rattle.sd_term.proofs.Numbers.{has-at}
use Rattle.sd_forms.specs.LinearForms.{place_of}

-- it is a number of the list
pub place_of-below : (terms : List Tree) (t : Tree) → has terms t ≡ true → place_of terms t < length terms
place_of-below [] t e = let f : false ≡ true = e in absurd (cc)
place_of-below (u ∷ us) t e = grind (arith, place_of-below us t)

-- the tree there is the tree itself
pub place_of-tree : (terms : List Tree) (t : Tree) → has terms t ≡ true → tree_at terms (place_of terms t) ≡ t
place_of-tree [] t e = let f : false ≡ true = e in absurd (cc)
place_of-tree (u ∷ us) t e = grind (arith, place_of-tree us t, same_tree-true u t)

-- a term's place is its number
pub place_of-at : (terms : List Tree) (i : ℕ) → AreDistinct terms → i < length terms → place_of terms (tree_at terms i) ≡ i
place_of-at terms i d h =
    let here : has terms (tree_at terms i) ≡ true = has-at terms (tree_at terms i) i h refl in
    same-number terms (place_of terms (tree_at terms i)) i d (place_of-below terms (tree_at terms i) here) h (place_of-tree terms (tree_at terms i) here)

-- it stays where the list grows
pub place_of-append : (terms more : List Tree) (t : Tree) → has terms t ≡ true → place_of (terms ++ more) t ≡ place_of terms t
place_of-append [] more t e = let f : false ≡ true = e in absurd (cc)
place_of-append (u ∷ us) more t e = grind (arith, place_of-append us more t)
