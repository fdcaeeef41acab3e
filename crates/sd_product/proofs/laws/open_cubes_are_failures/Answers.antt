use Rattle.sd_product.proofs.FailureLemmas.{open-cubes-fail}
use Rattle.sd_product.proofs.laws.open_cubes_are_failures.Goals as goal

pub returns : goal.returns
returns c = open-cubes-fail c.valuations_are_failures.ensures
