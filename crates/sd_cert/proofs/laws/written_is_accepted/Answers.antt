use Rattle.sd_cert.proofs.WrittenLemmas.{written-accepted}
use Rattle.sd_cert.proofs.laws.written_is_accepted.Goals as goal

pub returns : goal.returns
returns c = written-accepted
