use Rattle.sd_product.proofs.TruthFacts.{queries-are-truths}
use Rattle.sd_product.proofs.laws.queries_are_truths.Goals as goal

pub returns : goal.returns
returns c = queries-are-truths
