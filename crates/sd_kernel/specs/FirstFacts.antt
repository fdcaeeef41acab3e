-- the table of the values in first facts
use Rattle.std.specs.Prelude.{◌≡◌, ℕ, ◌<◌, Bool, List, length, Option}
use Rattle.sd_term.specs.Tree.{Tree}
use Rattle.sd_term.specs.Bank.{tree_at}
use Rattle.sd_kernel.specs.Known.{Trail, first_fact, known_at}

-- the table has the value in the first of these facts on each tree
pub record HasFirstFacts (terms : List Tree) (facts : Trail) (table : List (Option Bool)) : Type 0 where
  pub long : length table ≡ length terms
  pub exact : (n : ℕ) → n < length terms → known_at table n ≡ first_fact facts (tree_at terms n)
