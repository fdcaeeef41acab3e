use Rattle.std.proofs.Common.{◌≡◌, ◌≤◌, ◌-◌, ◌++◌, take, drop, length}
use Rattle.sd_linear.specs.Elimination.{with_column}
use Rattle.sd_linear.proofs.columns.add_column.Given as goal

abbrev pub invariant-loop-place : goal.invariant-loop-place
invariant-loop-place l = record {
  split : with_column l.column l.columns.items ≡ take l.place l.columns.items ++ with_column l.column (drop l.place l.columns.items);
  within : l.place ≤ length l.columns.items;
}

abbrev pub decreases-loop-place : goal.decreases-loop-place
decreases-loop-place l = length l.columns.items - l.place
