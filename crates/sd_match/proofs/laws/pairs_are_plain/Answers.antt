use Rattle.sd_match.proofs.PlainListLemmas.{pairs_plain}
use Rattle.sd_match.proofs.laws.pairs_are_plain.Goals as goal

pub returns : goal.returns
returns c = pairs_plain
