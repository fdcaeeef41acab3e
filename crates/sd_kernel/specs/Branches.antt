-- the open branches of a walk, as trails
use Rattle.std.specs.Prelude.{ℕ, ◌<◌, ◌≤◌, Bool, true, false, List, [], ◌∷◌, ◌++◌, length, take, reverse, All}
use Rattle.std.specs.Coded.{Coded, coded×, coded_list, coded_bool}
use Rattle.sd_term.specs.Tree.{Tree, tree_code, trees_code}
use Rattle.sd_term.specs.Bank.{tree_at}
use Rattle.sd_term.specs.Sorts.{AllWellSorted}
use Rattle.sd_kernel.specs.declared.known.Fact.{Fact as NumberedFact}
use Rattle.sd_kernel.specs.declared.walk.Waiting.{Waiting}
use Rattle.sd_kernel.specs.Known.{Trail}
use Rattle.sd_kernel.specs.Facts.{trail_of}
use Rattle.sd_kernel.specs.Proof.{State}

-- the second branches that wait, the latest first
abbrev pub waiting_branches : List Tree → List NumberedFact → List Waiting → List Trail
waiting_branches terms trail [] = []
waiting_branches terms trail (w ∷ ws) =
    (trail_of terms (take w.length trail) ++ (tree_at terms w.term, false) ∷ []) ∷ waiting_branches terms trail ws

abbrev pub open_branches : List Tree → List NumberedFact → List Waiting → Bool → List Trail
open_branches terms trail ws true = trail_of terms trail ∷ waiting_branches terms trail (reverse ws)
open_branches terms trail ws false = []

-- each of the waiting branches leaves a trail that is no shorter than its own front
abbrev pub AreFronts : ℕ → ℕ → List Waiting → Type 0
AreFronts terms n [] = Unit {0}
AreFronts terms n (w ∷ ws) = (w.length ≤ n) × (w.term < terms) × AreFronts terms w.length ws

pub record IsWalk (terms : List Tree) (trail : List NumberedFact) (ws : List Waiting) : Type 0 where
  pub facts : All (λ (f : NumberedFact). f.term < length terms) trail
  pub sorted : AllWellSorted terms
  pub fronts : AreFronts (length terms) (length trail) (reverse ws)

abbrev pub state_code : Coded State
state_code = coded× trees_code (coded_list (coded_list (coded× tree_code coded_bool)))
