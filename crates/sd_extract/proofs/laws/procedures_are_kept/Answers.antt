use Rattle.sd_extract.proofs.LawLemmas.{procedures_kept}
use Rattle.sd_extract.proofs.laws.procedures_are_kept.Goals as goal

pub returns : goal.returns
returns c = procedures_kept
