use Rattle.sd_vcgen.proofs.Sorted as sorted
use Rattle.sd_vcgen.proofs.laws.bodies_are_sorted.Goals as goal

pub returns : goal.returns
returns c = sorted.bodies-are-sorted
