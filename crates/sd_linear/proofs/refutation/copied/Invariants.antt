use Rattle.sd_linear.proofs.Copying.{Copies}
use Rattle.sd_linear.proofs.refutation.copied.Given as goal

abbrev pub invariant-loop-i : goal.invariant-loop-i
invariant-loop-i l = Copies l.steps l.marks l.i l.numbers.items l.kept
