use Rattle.std.proofs.Common.{sym, subst}
use Rattle.sd_rows.specs.Forms.{IsFit}
use Rattle.sd_rows.proofs.FormLemmas.{IsFit-negative}
use Rattle.sd_rows.proofs.form.Form.less.Goals as goal

pub plus-requires-clause-second : goal.plus-requires-clause-second
plus-requires-clause-second c = subst IsFit (sym c.in_ok-negative.ensures) (IsFit-negative c.args.other.now c.requires.second)
