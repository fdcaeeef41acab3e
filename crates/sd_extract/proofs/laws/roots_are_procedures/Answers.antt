use Rattle.sd_extract.proofs.Roots.{roots_are_procedures}
use Rattle.sd_extract.proofs.laws.roots_are_procedures.Goals as goal

pub returns : goal.returns
returns c = roots_are_procedures
