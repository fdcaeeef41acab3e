use Rattle.sd_linear.proofs.Marking.{MarksFrom}
use Rattle.sd_linear.proofs.refutation.marked.Given as goal

abbrev pub invariant-loop-i : goal.invariant-loop-i
invariant-loop-i l = MarksFrom l.steps l.i l.marks
