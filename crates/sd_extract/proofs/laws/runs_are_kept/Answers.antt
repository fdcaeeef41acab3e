use Rattle.sd_extract.proofs.LawLemmas.{runs_kept}
use Rattle.sd_extract.proofs.laws.runs_are_kept.Goals as goal

pub returns : goal.returns
returns c = runs_kept
