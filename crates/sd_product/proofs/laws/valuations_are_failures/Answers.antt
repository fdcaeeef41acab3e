use Rattle.sd_product.proofs.FailureLemmas.{valuations-fail}
use Rattle.sd_product.proofs.laws.valuations_are_failures.Goals as goal

pub returns : goal.returns
returns c = valuations-fail c.valuations_are_runs.ensures
