use Rattle.std.proofs.Common.{arith, []}
use Rattle.sd_linear.proofs.Deriving.{length-made_from}
use Rattle.sd_linear.proofs.Copying.{AllEarlier-steps}
use Rattle.sd_linear.proofs.refutation.needed.Goals as goal

pub marked-requires : goal.marked-requires
marked-requires c = record {
  some = omega (arith, c.requires.refutes.ends.1, length-made_from c.args.inputs.now [] c.args.steps.now);
  earlier = AllEarlier-steps c.args.inputs.now c.args.steps.now c.requires.refutes.are_steps;
}

pub copied-requires-clause-earlier : goal.copied-requires-clause-earlier
copied-requires-clause-earlier c = AllEarlier-steps c.args.inputs.now c.args.steps.now c.requires.refutes.are_steps
