use Rattle.sd_extract.proofs.LawLemmas.{axioms_kept}
use Rattle.sd_extract.proofs.laws.axioms_are_kept.Goals as goal

pub returns : goal.returns
returns c = axioms_kept
