use Rattle.std.proofs.Common.{◌≡◌, drop, []}
use Rattle.sd_linear.specs.Elimination.{columns_and}
use Rattle.sd_linear.proofs.columns.columns_of.Given as goal

abbrev pub invariant-loop-r : goal.invariant-loop-r
invariant-loop-r l = columns_and [] l.rows ≡ columns_and l.columns.items (drop l.r-index l.rows)
