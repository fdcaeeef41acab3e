use Rattle.sd_types.proofs.WellTypedLemmas.{well_typed_exact}
use Rattle.sd_types.proofs.laws.well_typed_is_exact.Goals as goal

pub returns : goal.returns
returns c = well_typed_exact
