use Rattle.sd_runs.proofs.Keeps.{runs_keep_within}
use Rattle.sd_runs.proofs.laws.runs_keep.Goals as goal

pub returns : goal.returns
returns c = runs_keep_within
