use Rattle.sd_words.proofs.PlainJobs.{any-names}
use Rattle.sd_words.proofs.laws.any_names.Goals as goal

pub returns : goal.returns
returns c = any-names
