use Rattle.sd_types.proofs.WellTypedStmtLemmas.{statements_exact}
use Rattle.sd_types.proofs.laws.statements_are_exact.Goals as goal

pub returns : goal.returns
returns c = statements_exact
