use Rattle.std.proofs.Common.{◌-◌, ◌^◌, ◌≤◌, length}
use Rattle.sd_search.specs.Running.{IsSearch}
use Rattle.sd_search.proofs.search.refute.Given as goal

abbrev pub invariant-branches : goal.invariant-branches
invariant-branches l = IsSearch l.query l.search × (length l.search.cubes ≤ l.leaves)

abbrev pub decreases-branches : goal.decreases-branches
decreases-branches l = 2 ^ 32 - length l.search.steps
