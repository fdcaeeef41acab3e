use Rattle.sd_product.proofs.Mutual.{mutual_summaries_lem}
use Rattle.sd_product.proofs.laws.mutual_summaries.Goals as goal

pub returns : goal.returns
returns c = mutual_summaries_lem c.runs_are_valuations.ensures
