use Rattle.std.proofs.Common.{rules, ◌∙◌, ap, sym, arith, subst, length, ◌<◌, ◌≡◌}
use Rattle.sd_term.specs.Bank.{tree_at}
use Rattle.sd_rows.specs.Forms.{IsFit}
use Rattle.sd_forms.specs.LinearForms.{form_of}
use Rattle.sd_forms.specs.FactRows.{part_at}
use Rattle.sd_forms.proofs.TwoParts.{part_at-node, two-numbers}
use Rattle.sd_forms.proofs.FormNodes.{form-read}
use Rattle.sd_forms.proofs.FitForms.{IsFit-form_of}
use Rattle.sd_forms.proofs.rows.compared_form.Goals as goal

pub bounds-parts-place : goal.bounds-parts-place
bounds-parts-place c =
    omega (
      arith,
      two-numbers c.args.terms.now c.node.result.now (tree_at c.args.terms.now c.args.id) c.node.ensures.tree c.requires.sorted c.requires.compares,
      ap length c.as_slice-parts.ensures,
    )

pub returns-clause-form : goal.returns-clause-form
returns-clause-form c =
    let t = tree_at c.args.terms.now c.args.id in
    let two : length c.node.result.now.parts ≡ 2 = two-numbers c.args.terms.now c.node.result.now t c.node.ensures.tree c.requires.sorted c.requires.compares in
    let inside : c.args.place < length c.as_slice-parts.result.now = omega (arith, ap length c.as_slice-parts.ensures) in
    let at : part_at t c.args.place ≡ tree_at c.args.terms.now c.number.result =
    part_at-node c.args.terms.now c.node.result.now t c.as_slice-parts.result.now c.args.place c.index-parts-place.result c.node.ensures.tree c.as_slice-parts.ensures inside c.index-parts-place.is
    ∙ ap (tree_at c.args.terms.now) (sym c.number.ensures) in
    form-read c.args.terms.now c.args.forms.now c.number.result c.index-forms-number.result c.requires.forms (search rules) c.index-forms-number.is ∙ ap (form_of c.args.terms.now) (sym at)

pub returns-clause-fit : goal.returns-clause-fit
returns-clause-fit c =
    let t = tree_at c.args.terms.now c.args.id in
    let two : length c.node.result.now.parts ≡ 2 = two-numbers c.args.terms.now c.node.result.now t c.node.ensures.tree c.requires.sorted c.requires.compares in
    let inside : c.args.place < length c.as_slice-parts.result.now = omega (arith, ap length c.as_slice-parts.ensures) in
    subst IsFit (sym (form-read c.args.terms.now c.args.forms.now c.number.result c.index-forms-number.result c.requires.forms (search rules) c.index-forms-number.is)) (IsFit-form_of c.args.terms.now (tree_at c.args.terms.now c.number.result))
