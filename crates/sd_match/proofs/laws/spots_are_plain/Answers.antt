use Rattle.sd_match.proofs.PlainSpotLemmas.{spots_plain}
use Rattle.sd_match.proofs.laws.spots_are_plain.Goals as goal

pub returns : goal.returns
returns c = spots_plain
