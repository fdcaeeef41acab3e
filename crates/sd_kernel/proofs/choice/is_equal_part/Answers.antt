use Rattle.std.proofs.Common.{arith}
use Rattle.sd_kernel.proofs.Lookups.{ite-long}
use Rattle.sd_kernel.proofs.choice.is_equal_part.Goals as goal

pub part-chosen-requires-clause-place : goal.part-chosen-requires-clause-place
part-chosen-requires-clause-place c = omega (arith, ite-long c.args.terms.now c.args.choice c.requires.sorted c.requires.choice c.requires.is_ite, c.requires.place)
