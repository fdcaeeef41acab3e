use Rattle.std.proofs.Common.{◌≡◌, ◌++◌, drop}
use Rattle.sd_rows.specs.RowOps.{over}
use Rattle.sd_rows.proofs.row.Row.reduced.Given as goal

abbrev pub invariant-loop-p : goal.invariant-loop-p
invariant-loop-p l = l.parts ++ over (drop l.p-index l.p-items) l.divisor ≡ over l.p-items l.divisor
