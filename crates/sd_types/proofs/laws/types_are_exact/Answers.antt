use Rattle.sd_types.proofs.TypingLemmas.{types_exact}
use Rattle.sd_types.proofs.laws.types_are_exact.Goals as goal

pub returns : goal.returns
returns c = types_exact
