use Rattle.std.proofs.Common.{◌+◌, length}
use Rattle.sd_rows.specs.RowOps.{sum_of, times}
use Rattle.sd_rows.proofs.Merging.{Merges}
use Rattle.sd_rows.proofs.row.added_parts.Given as goal

-- the parts so far, and then the sum of what is left
abbrev pub invariant-loop-p : goal.invariant-loop-p
invariant-loop-p l = Merges l.m l.n l.parts l.left l.right (sum_of (times l.m l.a) (times l.n l.b))

abbrev pub decreases-loop-p : goal.decreases-loop-p
decreases-loop-p l = length l.left + length l.right
