use Rattle.sd_product.proofs.EqualInputs.{no_new_failure_lem}
use Rattle.sd_product.proofs.laws.no_new_failure.Goals as goal

pub returns : goal.returns
returns c = no_new_failure_lem c.mutual_summaries.ensures
