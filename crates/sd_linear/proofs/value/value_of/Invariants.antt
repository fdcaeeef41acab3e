use Rattle.std.proofs.Common.{◌≡◌, drop}
use Rattle.sd_linear.specs.Elimination.{value_of}
use Rattle.sd_linear.proofs.value.value_of.Given as goal

abbrev pub invariant-loop-i : goal.invariant-loop-i
invariant-loop-i l = value_of l.columns l.values l.column ≡ value_of (drop l.i l.columns) (drop l.i l.values) l.column
