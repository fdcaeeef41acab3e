use Rattle.std.proofs.Common.{◌≡◌, subst}
use Rattle.std.specs.Prelude.{IfOk}
use Rattle.sd_rows.specs.declared.form.Form.{Form}
use Rattle.sd_rows.specs.Forms.{less}
use Rattle.sd_forms.proofs.FitForms.{if-ok, difference-proper, difference-near}
use Rattle.sd_forms.proofs.rows.difference.Goals as goal

pub returns-clause-form : goal.returns-clause-form
returns-clause-form c =
    subst (λ (g : Form). IfOk c.less.result (λ f. f ≡ g)) (λ i. less (c.compared_form-first.ensures.form i) (c.compared_form-second.ensures.form i)) c.less.ensures

pub returns-clause-proper : goal.returns-clause-proper
returns-clause-proper c =
    if-ok c.less.result (λ f. difference-proper f c.compared_form-first.result.now c.compared_form-second.result.now c.compared_form-first.ensures.fit c.compared_form-second.ensures.fit) c.less.ensures

pub returns-clause-near : goal.returns-clause-near
returns-clause-near c =
    if-ok c.less.result (λ f. difference-near f c.compared_form-first.result.now c.compared_form-second.result.now c.compared_form-first.ensures.fit c.compared_form-second.ensures.fit) c.less.ensures
