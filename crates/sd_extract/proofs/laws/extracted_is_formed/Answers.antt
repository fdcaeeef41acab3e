use Rattle.sd_extract.proofs.FormedPrograms.{extracted_formed}
use Rattle.sd_extract.proofs.laws.extracted_is_formed.Goals as goal

pub returns : goal.returns
returns c = extracted_formed
