use Rattle.std.proofs.Common.{sym, ap, ◌∙◌, false}
use Rattle.sd_term.specs.Bank.{tree_at}
use Rattle.sd_kernel.specs.declared.step.StepCause.TheVariants.{Value}
use Rattle.sd_kernel.specs.Facts.{trail_of}
use Rattle.sd_kernel.specs.Steps.{needs, adds}
use Rattle.sd_kernel.specs.Effects.{outcome_of}
use Rattle.sd_kernel.proofs.OrderSteps.{order-made}
use Rattle.sd_kernel.proofs.order.order_effect.Goals as goal

pub returns-then-not-are_false_and_true-clause-effect : goal.returns-then-not-are_false_and_true-clause-effect
returns-then-not-are_false_and_true-clause-effect c =
    let terms = c.args.terms.now in
    let trail = trail_of terms c.args.trail.now in
    order-made terms trail c.args.equality c.args.known c.args.other c.new-equality.result c.new-known.result c.new-other.result (sym c.are_numbers.ensures ∙ c.if-not-are_numbers.false)
    c.new-equality.ensures c.new-known.ensures c.new-other.ensures (sym c.if-not-are_orders_of.false ∙ c.are_orders_of.ensures) c.as_slice.result.now (c.as_slice.ensures ∙ c.in_ok-values.ensures)
    c.are_false_and_true.result c.are_false_and_true.ensures
    ∙ ap (λ b. needs b Value (adds terms trail (tree_at terms c.new-other.result) false)) c.if-not-are_false_and_true.true ∙ sym (ap (outcome_of terms trail) c.bad-then-not-are_false_and_true.ensures)

pub returns-clause-effect : goal.returns-clause-effect
returns-clause-effect c =
    let terms = c.args.terms.now in
    let trail = trail_of terms c.args.trail.now in
    order-made terms trail c.args.equality c.args.known c.args.other c.new-equality.result c.new-known.result c.new-other.result (sym c.are_numbers.ensures ∙ c.if-not-are_numbers.false)
    c.new-equality.ensures c.new-known.ensures c.new-other.ensures (sym c.if-not-are_orders_of.false ∙ c.are_orders_of.ensures) c.as_slice.result.now (c.as_slice.ensures ∙ c.in_ok-values.ensures)
    c.are_false_and_true.result c.are_false_and_true.ensures
    ∙ ap (λ b. needs b Value (adds terms trail (tree_at terms c.new-other.result) false)) c.if-not-are_false_and_true.false
