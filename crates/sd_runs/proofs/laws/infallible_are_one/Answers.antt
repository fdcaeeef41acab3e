use Rattle.sd_runs.proofs.Greatest.{are_one}
use Rattle.sd_runs.proofs.laws.infallible_are_one.Goals as goal

pub returns : goal.returns
returns c = are_one
