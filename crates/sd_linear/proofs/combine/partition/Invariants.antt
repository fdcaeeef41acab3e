use Rattle.std.proofs.Common.{◌≡◌, ◌++◌, filter, List}
use Rattle.sd_rows.specs.declared.row.Row.{Row}
use Rattle.sd_linear.specs.Elimination.{is_free}
use Rattle.sd_linear.specs.DerivedRows.{rows_of, AreDerivedRows, has_column}
use Rattle.sd_linear.proofs.Combining.{from_place}
use Rattle.sd_linear.proofs.combine.partition.Given as goal

abbrev pub invariant-loop-r : goal.invariant-loop-r
invariant-loop-r l = record {
  with : rows_of l.with ++ filter (has_column l.column) (from_place l.r-index l.rows) ≡ filter (has_column l.column) (rows_of l.rows);
  free : rows_of l.free ++ filter (is_free l.column) (from_place l.r-index l.rows) ≡ filter (is_free l.column) (rows_of l.rows);
  derived : (made : List Row) → AreDerivedRows made l.rows → AreDerivedRows made l.with × AreDerivedRows made l.free;
}
