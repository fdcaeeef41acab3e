-- searches: what has been done, and what is open
use Rattle.std.specs.Prelude.{◌≡◌, ℕ, ◌<◌, List, [], ◌∷◌, ◌++◌, All, AllPairs, map, length}
use Rattle.std.specs.List.{AllByRecursion}
use Rattle.sd_term.specs.declared.node.TermNode.{TermNode}
use Rattle.sd_term.specs.declared.cube.Cube.{Cube}
use Rattle.sd_term.specs.declared.cube.Literal.{Literal}
use Rattle.sd_term.specs.Tree.{Tree}
use Rattle.sd_term.specs.Bank.{tree_at, grown}
use Rattle.sd_term.specs.Numbering.{numbered}
use Rattle.sd_kernel.specs.Proof.{State, IsOpen, start}
use Rattle.sd_cube.specs.CubeTerms.{literals_of}
use Rattle.sd_cube.specs.OpenCube.{AreExtra}
use Rattle.sd_cube.specs.Spent.{AreDue, IsClosedCube, AreApart, cube_literals}
use Rattle.sd_search.specs.declared.progress.Search.{Search}
use Rattle.sd_search.specs.Outcome.{closings}
use Rattle.sd_search.specs.Path.{waiting, IsBehind}
use Rattle.sd_search.specs.Reading.{Reads}
use Rattle.sd_search.specs.Terms.{AreTerms, AllTruthValued}

-- The first open branch has the facts and then the literals of the path, and the others wait for its splits. The cubes
-- that were closed lie behind the path.
pub record IsRunning (facts : List Tree) (walk : State) (ids : List ℕ) (path : List Literal) (extra : List TermNode)
    (cubes : List Cube) : Type 0 where
  pub branches : walk.1 ≡ (start facts ++ literals_of walk.0 path) ∷ waiting (start facts) (literals_of walk.0 path)
  pub grown_by : walk.0 ≡ grown (numbered facts) extra
  pub are_extra : AreExtra facts (numbered facts) extra
  pub terms : AreTerms facts walk.0
  pub truths : AllTruthValued facts
  pub facts_are : map (λ f. tree_at walk.0 f) ids ≡ facts
  pub below : All (λ f. f < length walk.0) ids
  pub path_below : All (λ (l : Literal). l.term < length walk.0) path
  pub due : AreDue facts walk.0 [] (literals_of walk.0 path)
  pub closed : AllByRecursion (IsClosedCube facts) cubes
  pub apart : AllPairs (AreApart facts) cubes
  pub behind : AllByRecursion (λ c. IsBehind (literals_of walk.0 path) (cube_literals facts c)) cubes

-- the steps so far lead to the walk, with one closing step for each closed cube
pub record IsSearch (facts : List Tree) (s : Search) : Type 0 where
  pub reads : Reads (numbered facts, start facts ∷ []) s.steps s.walk
  pub count : closings s.steps ≡ length s.cubes
  pub running : IsOpen s.walk → IsRunning facts s.walk s.facts s.path s.extra s.cubes
