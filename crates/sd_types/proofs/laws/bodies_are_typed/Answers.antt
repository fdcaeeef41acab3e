use Rattle.sd_types.proofs.TypedBodyLemmas.{bodies_typed}
use Rattle.sd_types.proofs.laws.bodies_are_typed.Goals as goal

pub returns : goal.returns
returns c = bodies_typed
