use Rattle.sd_vcgen.proofs.Valuations as valuations
use Rattle.sd_vcgen.proofs.laws.valuations_are_runs.Goals as goal

pub returns : goal.returns
returns c = valuations.valuations-are-runs
