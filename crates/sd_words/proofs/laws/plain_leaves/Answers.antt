use Rattle.sd_words.proofs.PlainJobs.{plain-leaves}
use Rattle.sd_words.proofs.laws.plain_leaves.Goals as goal

pub returns : goal.returns
returns c = plain-leaves
