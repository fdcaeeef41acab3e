use Rattle.sd_extract.proofs.Propositional.{propositional_kept}
use Rattle.sd_extract.proofs.laws.propositional_is_kept.Goals as goal

pub returns : goal.returns
returns c = propositional_kept
