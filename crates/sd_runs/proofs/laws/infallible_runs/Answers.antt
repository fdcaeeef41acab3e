use Rattle.sd_runs.proofs.InfallibleRuns.{infallible_runs_within}
use Rattle.sd_runs.proofs.laws.infallible_runs.Goals as goal

pub returns : goal.returns
returns c = infallible_runs_within
