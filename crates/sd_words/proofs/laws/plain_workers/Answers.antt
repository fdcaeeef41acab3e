use Rattle.sd_words.proofs.PlainJobs.{plain-workers}
use Rattle.sd_words.proofs.laws.plain_workers.Goals as goal

pub returns : goal.returns
returns c = plain-workers
