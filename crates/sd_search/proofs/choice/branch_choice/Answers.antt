use Rattle.std.proofs.Common.{◌≢◌, sym, ◌∙◌, subst, [], ◌∷◌}
use Rattle.sd_linear.specs.Elimination.{refuted}
use Rattle.sd_kernel.specs.Facts.{trail_of}
use Rattle.sd_cube.specs.CubeRows.{eliminated_branch}
use Rattle.sd_kernel.specs.declared.step.Step.TheVariants.{Close as CloseStep}
use Rattle.sd_euf.specs.Closed.{IfMissing, IfClasses, IsRequiredStep, AreSettled}
use Rattle.sd_search.specs.declared.choice.Choice.TheVariants.{Close}
use Rattle.sd_search.specs.Choice.{IsChoice}
use Rattle.sd_search.proofs.ChoiceLemmas.{closes-by, facts-truth, reached-choice, required-choice, left-choice, if-made}
use Rattle.sd_kernel.proofs.Lookups.{none-holds}
use Rattle.sd_search.proofs.choice.branch_choice.Goals as goal
use Rattle.sd_search.proofs.choice.branch_choice.Goals.{in-Missing, in-Classes}

pub returns-in-Some : goal.returns-in-Some
returns-in-Some c =
    let terms = c.args.terms.now in
    let b = trail_of terms c.args.trail.now in
    let closes_branch = closes-by c.args.query.now terms b c.args.facts.now c.args.values.now c.requires.facts c.requires.below c.requires.values c.in-Some.fact c.requires.begins c.in-Some.ensures.some.0 c.in-Some.ensures.some.1 in
    if-made c.closing_by.result (Close (CloseStep c.in-Some.fact ∷ [])) (IsChoice c.args.query.now terms b) c.closing_by.ensures closes_branch

pub reached_atom-requires-clause-facts : goal.reached_atom-requires-clause-facts
reached_atom-requires-clause-facts c = facts-truth c.args.terms.now c.args.query.now c.args.facts.now c.requires.facts c.requires.truths c.requires.below

pub returns-in-Some-reached_atom : goal.returns-in-Some-reached_atom
returns-in-Some-reached_atom c =
    reached-choice c.args.query.now c.args.terms.now (trail_of c.args.terms.now c.args.trail.now) c.args.facts.now c.args.values.now c.requires.facts c.requires.below c.requires.values
    c.in-Some-reached_atom.atom c.in_default.ensures.none c.in-Some-reached_atom.ensures.some

pub returns-in-None : goal.returns-in-None
returns-in-None c =
    let terms = c.args.terms.now in
    let b = trail_of terms c.args.trail.now in
    let not_refuted : eliminated_branch terms b ≢ refuted = none-holds c.in_ok-lines.field-0 (eliminated_branch terms b ≢ refuted) c.in_ok-lines.ensures.none c.in_default-2.is in
    let required = required-choice c.args.query.now terms b c.args.facts.now c.args.values.now c.requires.facts c.requires.below c.requires.values c.in_default.ensures.none c.in-None.ensures.none not_refuted c.requires.terms in
    let left = left-choice c.args.query.now terms b c.args.facts.now c.args.values.now c.requires.facts c.requires.below c.requires.values c.in_default.ensures.none c.in-None.ensures.none not_refuted c.requires.terms in
    elim c.match-branch-4.branch [
      | in-Missing w ↦ subst (IsChoice c.args.query.now terms b) (sym (w.left-is ∙ w.required-left.ensures)) (required w.in-Missing.step (subst (λ r. IfMissing r (IsRequiredStep terms b)) w.in-Missing.is c.in_ok-steps.ensures.missing))
      | in-Classes w ↦ subst (IsChoice c.args.query.now terms b) (sym w.left-is) (left w.in-Classes.field-0 w.left_atom-left.result (subst (λ r. IfClasses r (AreSettled terms b)) w.in-Classes.is c.in_ok-steps.ensures.classes) w.left_atom-left.ensures)
    ]
