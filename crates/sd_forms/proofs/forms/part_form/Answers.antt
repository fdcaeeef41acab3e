use Rattle.std.proofs.Common.{sym, ◌∙◌}
use Rattle.sd_forms.specs.LinearForms.{form_at}
use Rattle.sd_forms.proofs.FormNodes.{form_at-none}
use Rattle.sd_forms.proofs.forms.part_form.Goals as goal

pub returns-in-None : goal.returns-in-None
returns-in-None c = c.requires.zero ∙ sym (form_at-none (λ p. form_at c.args.forms.now p) c.args.node.now.parts c.args.place (sym c.in-None.ensures.value))
