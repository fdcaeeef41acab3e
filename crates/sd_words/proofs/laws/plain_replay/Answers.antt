use Rattle.sd_words.proofs.PlainJobs.{plain-replay}
use Rattle.sd_words.proofs.laws.plain_replay.Goals as goal

pub returns : goal.returns
returns c = plain-replay
