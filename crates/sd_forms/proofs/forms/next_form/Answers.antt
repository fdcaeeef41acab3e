use Rattle.std.proofs.Common.{◌≡◌, sym, ◌∙◌, subst, [], ◌∷◌, IfOk}
use Rattle.sd_rows.specs.declared.form.Form.{Form}
use Rattle.sd_forms.specs.LinearForms.{form_by}
use Rattle.sd_forms.proofs.FormNodes.{form_of-next}
use Rattle.sd_forms.proofs.FitForms.{IsFit-part}
use Rattle.sd_forms.proofs.forms.next_form.Goals as goal

pub form_with-requires-clause-first : goal.form_with-requires-clause-first
form_with-requires-clause-first c = IsFit-part c.args.terms.now c.args.forms.now c.args.id c.node-node.result.now.parts 0 c.part_form-first.result.now c.requires.forms c.part_form-first.ensures

pub form_with-requires-clause-second : goal.form_with-requires-clause-second
form_with-requires-clause-second c = IsFit-part c.args.terms.now c.args.forms.now c.args.id c.node-node.result.now.parts 1 c.part_form-second.result.now c.requires.forms c.part_form-second.ensures

pub returns : goal.returns
returns c =
    subst (λ (g : Form). IfOk c.form_with.result (λ f. f ≡ g))
    ((λ i. form_by c.node-node.result.now.head (c.number.ensures i) (c.part_form-first.ensures i ∷ c.part_form-second.ensures i ∷ []))
    ∙ sym (form_of-next c.args.terms.now c.args.forms.now c.node-node.result.now c.args.id c.requires.id c.requires.distinct c.node-node.ensures.tree c.node-node.ensures.parts c.requires.forms))
    c.form_with.ensures
