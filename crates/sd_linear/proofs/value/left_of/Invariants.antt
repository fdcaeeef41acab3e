use Rattle.std.proofs.Common.{◌≡◌, drop}
use Rattle.sd_linear.specs.Elimination.{value_of, left_of}
use Rattle.sd_linear.proofs.value.left_of.Given as goal

abbrev pub invariant-loop-p : goal.invariant-loop-p
invariant-loop-p l =
    left_of l.column (value_of l.columns l.values) l.row.bound l.row.parts ≡ left_of l.column (value_of l.columns l.values) l.left (drop l.p-index l.p-items)
