use Rattle.sd_runs.proofs.More.{more_calls_within}
use Rattle.sd_runs.proofs.laws.more_calls.Goals as goal

pub returns : goal.returns
returns c = more_calls_within
