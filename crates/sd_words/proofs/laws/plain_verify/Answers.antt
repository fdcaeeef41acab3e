use Rattle.sd_words.proofs.PlainJobs.{plain-verify}
use Rattle.sd_words.proofs.laws.plain_verify.Goals as goal

pub returns : goal.returns
returns c = plain-verify
