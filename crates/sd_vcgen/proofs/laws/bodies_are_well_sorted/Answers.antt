use Rattle.sd_vcgen.proofs.WellSorted as well
use Rattle.sd_vcgen.proofs.laws.bodies_are_well_sorted.Goals as goal

pub returns : goal.returns
returns c = well.bodies-are-well-sorted
