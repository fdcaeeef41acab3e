use Rattle.std.proofs.Common.{◌≡◌, None}
use Rattle.sd_linear.specs.Elimination.{value_of, range_in}
use Rattle.sd_linear.specs.DerivedRows.{rows_of}
use Rattle.sd_linear.proofs.Combining.{from_place}
use Rattle.sd_linear.proofs.value.range_in.Given as goal

abbrev pub invariant-loop-r : goal.invariant-loop-r
invariant-loop-r l =
    range_in l.column (value_of l.columns l.values) (rows_of l.rows) (None, None) ≡ range_in l.column (value_of l.columns l.values) (from_place l.r-index l.rows) l.range
