use Rattle.sd_run.proofs.ComparedLemmas.{compared_is_exact}
use Rattle.sd_run.proofs.laws.compared_is_exact.Goals as goal

pub returns : goal.returns
returns c = compared_is_exact
