use Rattle.std.proofs.Common.{◌≡◌, drop}
use Rattle.sd_linear.specs.Elimination.{factor_of}
use Rattle.sd_linear.proofs.combine.factor_of.Given as goal

abbrev pub invariant-loop-p : goal.invariant-loop-p
invariant-loop-p l = factor_of l.column l.row.parts ≡ factor_of l.column (drop l.p-index l.p-items)
