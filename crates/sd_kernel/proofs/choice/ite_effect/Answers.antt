use Rattle.std.proofs.Common.{◌<◌, [], ◌∷◌, length, sym, ap, subst, ◌∙◌, arith, true}
use Rattle.sd_term.specs.Bank.{tree_at}
use Rattle.sd_kernel.specs.declared.step.StepCause.TheVariants.{Value}
use Rattle.sd_kernel.specs.Facts.{trail_of}
use Rattle.sd_kernel.specs.Steps.{needs, adds}
use Rattle.sd_kernel.specs.Effects.{outcome_of}
use Rattle.sd_kernel.proofs.Lookups.{in-first, ite-long}
use Rattle.sd_kernel.proofs.ChoiceSteps.{choice-ite, ite-made}
use Rattle.sd_kernel.proofs.choice.ite_effect.Goals as goal

pub part-requires-clause-place : goal.part-requires-clause-place
part-requires-clause-place c =
    let below : c.new-choice.result < length c.args.terms.now = subst (λ n. n < length c.args.terms.now) (sym c.new-choice.ensures) (in-first c.args.terms.now c.args.choice (c.args.equality ∷ []) (sym c.are_numbers.ensures ∙ c.if-not-are_numbers.false)) in
    omega (arith, ite-long c.args.terms.now c.new-choice.result c.requires.sorted below (choice-ite (tree_at c.args.terms.now c.new-choice.result) (tree_at c.args.terms.now c.new-equality.result) (sym c.if-not-is_choice_of.false ∙ c.is_choice_of.ensures)))

pub returns-then-not-is_chosen-clause-effect : goal.returns-then-not-is_chosen-clause-effect
returns-then-not-is_chosen-clause-effect c =
    let terms = c.args.terms.now in
    let trail = trail_of terms c.args.trail.now in
    ite-made terms trail c.args.choice c.args.equality c.new-choice.result c.new-equality.result (sym c.are_numbers.ensures ∙ c.if-not-are_numbers.false) c.new-choice.ensures c.new-equality.ensures
    (sym c.if-not-is_choice_of.false ∙ c.is_choice_of.ensures) c.as_slice.result.now (c.as_slice.ensures ∙ c.in_ok-values.ensures) c.part.result c.part.ensures.below c.part.ensures.tree
    c.value_of-condition.result c.value_of-condition.ensures c.is_chosen.result c.is_chosen.ensures
    ∙ ap (λ b. needs b Value (adds terms trail (tree_at terms c.new-equality.result) true)) c.if-not-is_chosen.true ∙ sym (ap (outcome_of terms trail) c.bad-then-not-is_chosen.ensures)

pub returns-clause-effect : goal.returns-clause-effect
returns-clause-effect c =
    let terms = c.args.terms.now in
    let trail = trail_of terms c.args.trail.now in
    ite-made terms trail c.args.choice c.args.equality c.new-choice.result c.new-equality.result (sym c.are_numbers.ensures ∙ c.if-not-are_numbers.false) c.new-choice.ensures c.new-equality.ensures
    (sym c.if-not-is_choice_of.false ∙ c.is_choice_of.ensures) c.as_slice.result.now (c.as_slice.ensures ∙ c.in_ok-values.ensures) c.part.result c.part.ensures.below c.part.ensures.tree
    c.value_of-condition.result c.value_of-condition.ensures c.is_chosen.result c.is_chosen.ensures
    ∙ ap (λ b. needs b Value (adds terms trail (tree_at terms c.new-equality.result) true)) c.if-not-is_chosen.false
