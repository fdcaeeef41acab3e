-- the terms of a search, and their truth values
use Rattle.std.specs.Prelude.{◌≡◌, ℕ, ◌<◌, true, Bool, List, Option, None, map, length, Contains}
use Rattle.std.specs.List.{AllByRecursion}
use Rattle.sd_term.specs.Tree.{Tree, parts_of}
use Rattle.sd_term.specs.Bank.{tree_at}
use Rattle.sd_term.specs.Sorts.{AllWellSorted, is_truth_valued}
use Rattle.sd_term.specs.Numbering.{has, AllIn}
use Rattle.sd_term.specs.Closed.{IsClosed}
use Rattle.sd_kernel.specs.Known.{Trail, known, known_at}
use Rattle.sd_cube.specs.Atoms.{is_atom}
use Rattle.sd_cube.specs.Needed.{IsNeeded}
use Rattle.sd_cube.specs.Spent.{IsReached}

-- well-sorted, needed terms with their parts, and the facts among them
pub record AreTerms (facts terms : List Tree) : Type 0 where
  pub sorted : AllWellSorted terms
  pub closed : IsClosed terms
  pub needed : (t : Tree) → has terms t ≡ true → IsNeeded facts t
  pub there : AllIn terms facts

abbrev pub AllTruthValued : List Tree → Type 0
AllTruthValued facts = AllByRecursion (λ t. is_truth_valued t ≡ true) facts

-- the values by number are what is known where these facts hold
abbrev pub AreValuesUnder : Trail → List Tree → List (Option Bool) → Type 0
AreValuesUnder trail terms values = values ≡ map (λ t. known trail t) terms

-- they are what is known where some facts hold
abbrev pub AreValues : List Tree → List (Option Bool) → Type 0
AreValues terms values = (trail : Trail) × AreValuesUnder trail terms values

-- an atom without a value
pub record IsOpenAtom (terms : List Tree) (values : List (Option Bool)) (n : ℕ) : Type 0 where
  pub below : n < length terms
  pub atom : is_atom (tree_at terms n) ≡ true
  pub unknown : known_at values n ≡ None

-- a truth-valued part without a value
pub record IsOpenPart (terms : List Tree) (values : List (Option Bool)) (whole part : ℕ) : Type 0 where
  pub below : part < whole
  pub is_part : Contains (parts_of (tree_at terms whole)) (tree_at terms part)
  pub truth : is_truth_valued (tree_at terms part) ≡ true
  pub unknown : known_at values part ≡ None

-- an atom without a value that is reached from one of the facts, where these are the values
pub record IsReachedAtom (facts terms : List Tree) (values : List (Option Bool)) (n : ℕ) : Type 0 where
  pub open_atom : IsOpenAtom terms values n
  pub reached : (trail : Trail) → AreValuesUnder trail terms values → IsReached facts trail (tree_at terms n)
