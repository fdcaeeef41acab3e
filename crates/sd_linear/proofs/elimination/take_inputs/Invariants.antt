use Rattle.std.proofs.Common.{drop, []}
use Rattle.sd_linear.specs.Elimination.{all_come_in}
use Rattle.sd_linear.proofs.Combining.{Continues}
use Rattle.sd_linear.proofs.elimination.take_inputs.Given as goal

abbrev pub invariant-loop-i : goal.invariant-loop-i
invariant-loop-i l = Continues l.inputs (all_come_in 0 l.inputs []) 0 (drop l.i l.inputs) l.list [] l.steps
