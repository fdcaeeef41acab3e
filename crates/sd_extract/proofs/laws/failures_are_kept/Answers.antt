use Rattle.sd_extract.proofs.FormedPrograms.{extracted_formed}
use Rattle.sd_extract.proofs.LawLemmas.{runs_kept, procedures_kept, axioms_kept}
use Rattle.sd_extract.proofs.Failures.{failures_kept}
use Rattle.sd_extract.proofs.laws.failures_are_kept.Goals as goal

pub returns : goal.returns
returns c = failures_kept runs_kept procedures_kept axioms_kept extracted_formed
