use Rattle.sd_forms.proofs.RowsHold.{rows_of-hold}
use Rattle.sd_forms.proofs.laws.rows_hold.Goals as goal

pub returns : goal.returns
returns c = rows_of-hold
