use Rattle.sd_words.proofs.OddLines.{odd_lines}
use Rattle.sd_words.proofs.laws.odd_words.Goals as goal

pub returns : goal.returns
returns c = odd_lines
