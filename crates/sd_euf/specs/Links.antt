-- terms that true equalities join, by number
use Rattle.std.specs.Prelude.{◌≡◌, ℕ, ◌<◌, Bool, true, false, List, Option, Some, None, length, map, slice_index_or, ◌==◌, if◌then◌else◌}
use Rattle.std.specs.List.{AllByRecursion}
use Rattle.sd_term.specs.Tree.{Tree}
use Rattle.sd_term.specs.Bank.{tree_at}
use Rattle.sd_forms.specs.FactRows.{part_at}
use Rattle.sd_kernel.specs.Known.{Trail, known}
use Rattle.sd_kernel.specs.Steps.{is_eq, other_side, leads}
use Rattle.sd_cube.specs.Required.{AreJoined}
use Rattle.sd_euf.specs.declared.links.Link.{Link}
use Rattle.sd_euf.specs.Judged.{HasValues}

-- the number of an equality with this value
pub record IsEqAt (terms : List Tree) (values : List (Option Bool)) (n : ℕ) (b : Bool) : Type 0 where
  pub below : n < length terms
  pub equality : is_eq (tree_at terms n) ≡ true
  pub value : slice_index_or values n None ≡ Some b

-- the numbers of true equalities that lead from a to c
pub record IsChain (terms : List Tree) (values : List (Option Bool)) (a : Tree) (ns : List ℕ) (c : Tree) : Type 0 where
  pub each : AllByRecursion (λ n. IsEqAt terms values n true) ns
  pub leading : leads a (map (λ n. tree_at terms n) ns) c ≡ true

-- ---- terms that are reached from a root, each by an equality from an earlier one

abbrev pub link_at : List Link → ℕ → Link
link_at links k = slice_index_or links k (record { term = 0; by = 0; from = 0 })

abbrev pub reached_at : List Tree → List Link → ℕ → Tree
reached_at terms links k = tree_at terms (link_at links k).term

-- each link but the first leads to an earlier one
abbrev pub GoDown : List Link → Type 0
GoDown links = (k : ℕ) → 0 < k → k < length links → (link_at links k).from < k

-- by a true equality
pub record IsLink (terms : List Tree) (values : List (Option Bool)) (links : List Link) (k : ℕ) : Type 0 where
  pub by : IsEqAt terms values (link_at links k).by true
  pub other : other_side (tree_at terms (link_at links k).by) (reached_at terms links k)
      ≡ Some (reached_at terms links (link_at links k).from)

pub record AreLinks (terms : List Tree) (values : List (Option Bool)) (links : List Link) : Type 0 where
  pub some : 0 < length links
  pub below : (k : ℕ) → k < length links → (link_at links k).term < length terms
  pub down : GoDown links
  pub linked : (k : ℕ) → 0 < k → k < length links → IsLink terms values links k

-- the term is reached
pub record IsReached (terms : List Tree) (links : List Link) (t : Tree) : Type 0 where
  pub at : ℕ
  pub within : at < length links
  pub is : reached_at terms links at ≡ t

-- so are the other sides of the first equalities that have the term with this place as a side
abbrev pub AreReached : List Tree → List (Option Bool) → List Link → ℕ → ℕ → Type 0
AreReached terms values links k n =
    (m : ℕ) → m < n → IsEqAt terms values m true
    → (t : Tree) → other_side (tree_at terms m) (reached_at terms links k) ≡ Some t → IsReached terms links t

-- the earlier links stay
pub record AreMore (old new : List Link) : Type 0 where
  pub longer : (k : ℕ) → k < length old → k < length new
  pub kept : (k : ℕ) → k < length old → link_at new k ≡ link_at old k

-- ---- classes

abbrev pub class_at : List ℕ → ℕ → ℕ
class_at classes n = slice_index_or classes n 0

-- the class that a class is moved to
abbrev pub moved : ℕ → ℕ → ℕ → ℕ
moved from to class = if class == from then to else class

-- the sides of the equality are in one class
pub record SidesMeet (terms : List Tree) (classes : List ℕ) (t : Tree) : Type 0 where
  pub left : ℕ
  pub right : ℕ
  pub left_below : left < length terms
  pub right_below : right < length terms
  pub left_is : tree_at terms left ≡ part_at t 0
  pub right_is : tree_at terms right ≡ part_at t 1
  pub one : class_at classes left ≡ class_at classes right

-- classes by the first equalities
pub record AreMerged (terms : List Tree) (values : List (Option Bool)) (classes : List ℕ) (n : ℕ) : Type 0 where
  pub long : length classes ≡ length terms
  pub equal : (i j : ℕ) → i < length terms → j < length terms → tree_at terms i ≡ tree_at terms j
      → class_at classes i ≡ class_at classes j
  pub sides : (k : ℕ) → k < n → IsEqAt terms values k true → SidesMeet terms classes (tree_at terms k)
  pub joined : (i j : ℕ) → i < length terms → j < length terms → class_at classes i ≡ class_at classes j
      → (trail : Trail) → HasValues terms trail values → AreJoined terms trail (tree_at terms i) (tree_at terms j)

-- ---- the rule of chains

-- a false equality doesn't have its sides joined
abbrev pub NotJoined : List Tree → Tree → Trail → Type 0
NotJoined terms e trail =
    is_eq e ≡ true → known trail e ≡ Some false → AreJoined terms trail (part_at e 0) (part_at e 1) → ⊥
