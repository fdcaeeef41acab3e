use Rattle.sd_run.proofs.PlainVerdictLemmas.{verdicts_are_plain}
use Rattle.sd_run.proofs.laws.verdicts_are_plain.Goals as goal

pub returns : goal.returns
returns c = verdicts_are_plain
