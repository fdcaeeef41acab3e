use Rattle.sd_linear.proofs.Refuting.{unmet}
use Rattle.sd_linear.proofs.laws.refuted_rows_are_unmet.Goals as goal

pub returns : goal.returns
returns c = unmet
