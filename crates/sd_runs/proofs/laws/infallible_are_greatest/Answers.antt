use Rattle.sd_runs.proofs.Greatest.{are_greatest}
use Rattle.sd_runs.proofs.laws.infallible_are_greatest.Goals as goal

pub returns : goal.returns
returns c = are_greatest
