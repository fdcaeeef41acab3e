use Rattle.sd_vcgen.proofs.Runs as runs
use Rattle.sd_vcgen.proofs.laws.runs_are_valuations.Goals as goal

pub returns : goal.returns
returns c = runs.runs-are-valuations c.runs_keep.ensures c.infallible_runs.ensures
