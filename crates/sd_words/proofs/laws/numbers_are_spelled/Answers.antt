use Rattle.sd_words.proofs.NumberLemmas.{number-decimal}
use Rattle.sd_words.proofs.laws.numbers_are_spelled.Goals as goal

pub returns : goal.returns
returns c = number-decimal
