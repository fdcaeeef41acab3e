use Rattle.sd_product.proofs.JudgedLemmas.{open-flags-fail}
use Rattle.sd_product.proofs.laws.open_flags_are_failures.Goals as goal

pub returns : goal.returns
returns c = open-flags-fail c.open_cubes_are_failures.ensures
