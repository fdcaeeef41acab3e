use Rattle.std.proofs.Common.{arith}
use Rattle.std.proofs.lemmas.Grind.{common_steps}
use Rattle.sd_forms.proofs.FormNodes.{forms-value}
use Rattle.sd_forms.proofs.forms.forms_of.Goals as goal

pub returns-clause-values : goal.returns-clause-values
returns-clause-values c = λ k h. forms-value c.args.terms.now c.loop-number.forms k c.len-number-end.ensures.closed (grind (arith, common_steps)) h
