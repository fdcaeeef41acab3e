use Rattle.std.proofs.Common.{drop}
use Rattle.sd_rows.proofs.Greatest.{Gathers}
use Rattle.sd_rows.proofs.divisor.divisor_of.Given as goal

abbrev pub invariant-loop-p : goal.invariant-loop-p
invariant-loop-p l = Gathers l.divisor (drop l.p-index l.parts) l.parts
