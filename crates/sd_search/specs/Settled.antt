-- branches in which nothing is left to do
use Rattle.std.specs.Prelude.{◌≡◌, ◌≢◌, ℕ, ◌<◌, true, None, List, length}
use Rattle.sd_term.specs.Tree.{Tree}
use Rattle.sd_term.specs.Bank.{tree_at}
use Rattle.sd_linear.specs.Elimination.{refuted}
use Rattle.sd_kernel.specs.Known.{Trail, known}
use Rattle.sd_cube.specs.Atoms.{is_atom}
use Rattle.sd_cube.specs.Required.{ChoicesHold, OrdersHold, NoneJoined}
use Rattle.sd_cube.specs.CubeRows.{eliminated_branch}
use Rattle.sd_cube.specs.OpenCube.{AllKnown}

-- every fact is true, each atom has a value, and no rule of choice, of order, of equality or of linear arithmetic is
-- broken
pub record IsSettled (facts terms : List Tree) (trail : Trail) : Type 0 where
  pub facts_true : AllKnown trail facts
  pub valued : (n : ℕ) → n < length terms → is_atom (tree_at terms n) ≡ true → known trail (tree_at terms n) ≢ None
  pub choices : ChoicesHold terms trail
  pub orders : OrdersHold terms trail
  pub none_joined : NoneJoined terms trail
  pub not_refuted : eliminated_branch terms trail ≢ refuted
