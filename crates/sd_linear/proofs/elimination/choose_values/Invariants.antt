use Rattle.std.proofs.Common.{◌≡◌, drop, length, List}
use Rattle.sd_rows.specs.declared.row.Row.{Row}
use Rattle.sd_linear.specs.Elimination.{solved, point}
use Rattle.sd_linear.specs.Values.{AllNear}
use Rattle.sd_linear.specs.DerivedRows.{Descends, rows_at}
use Rattle.sd_linear.proofs.elimination.choose_values.Given as goal

abbrev pub invariant-loop-i : goal.invariant-loop-i
invariant-loop-i l = record {
  count : length l.values ≡ length l.columns;
  point : (all : List (List Row)) → Descends l.columns (length l.columns) all l.lists → solved (drop l.i l.columns) (rows_at all l.i) ≡ point (drop l.i l.values);
  near : AllNear (drop l.i l.values);
}
