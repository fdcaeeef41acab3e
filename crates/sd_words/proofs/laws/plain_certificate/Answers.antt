use Rattle.sd_words.proofs.PlainJobs.{plain-certificate}
use Rattle.sd_words.proofs.laws.plain_certificate.Goals as goal

pub returns : goal.returns
returns c = plain-certificate
