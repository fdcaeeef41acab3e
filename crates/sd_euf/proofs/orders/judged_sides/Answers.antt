use Rattle.std.proofs.Common.{Some, ap, sym, subst, ◌∙◌}
use Rattle.sd_euf.specs.Judged.{Asks, Breaks}
use Rattle.sd_euf.proofs.OrderLemmas.{known-true, order-false, back-false, order-unknown, back-unknown, order-absent, back-absent, both-true}
use Rattle.sd_euf.proofs.orders.judged_sides.Goals as goal

pub returns-then-is_false : goal.returns-then-is_false
returns-then-is_false c = order-false c.args.terms.now c.args.values.now c.args.id c.args.sides c.requires.at c.standing_of-order.result c.standing_of-order.ensures (sym c.is_false.ensures ∙ c.if-is_false.true)

pub returns-then-is_false-2 : goal.returns-then-is_false-2
returns-then-is_false-2 c = back-false c.args.terms.now c.args.values.now c.args.id c.args.sides c.requires.at c.standing_of-back.result c.standing_of-back.ensures (sym c.is_false-2.ensures ∙ c.if-is_false-2.true)

pub returns-in-Unknown : goal.returns-in-Unknown
returns-in-Unknown c = order-unknown c.args.terms.now c.args.values.now c.args.id c.args.sides c.requires.at c.in-Unknown.first c.in-Unknown.ensures.0 c.in-Unknown.ensures.1 c.in-Unknown.ensures.2 (c.standing_of-back.result, c.standing_of-back.ensures, sym c.is_false-2.ensures ∙ c.if-is_false-2.false)

pub returns-in-Unknown-back : goal.returns-in-Unknown-back
returns-in-Unknown-back c = back-unknown c.args.terms.now c.args.values.now c.args.id c.args.sides c.requires.at c.in-Unknown-back.second c.in-Unknown-back.ensures.0 c.in-Unknown-back.ensures.1 c.in-Unknown-back.ensures.2 (c.standing_of-order.result, c.standing_of-order.ensures, sym c.is_false.ensures ∙ c.if-is_false.false)

pub returns-in-Known-back : goal.returns-in-Known-back
returns-in-Known-back c =
    let true-first = known-true c.in-Known.first c.in-Known.field-1 c.standing_of-order.result c.in-Known.is (sym c.is_false.ensures ∙ c.if-is_false.false) in
    let true-second = known-true c.in-Known-back.second c.in-Known-back.field-1 c.standing_of-back.result c.in-Known-back.is (sym c.is_false-2.ensures ∙ c.if-is_false-2.false) in
    subst (Breaks c.args.terms.now c.args.values.now) (sym c.order_step.ensures)
    (both-true c.args.terms.now c.args.values.now c.args.id c.args.sides c.requires.at c.in-Known.first c.in-Known-back.second c.in-Known.ensures.0 c.in-Known.ensures.1 (c.in-Known.ensures.2 ∙ ap Some true-first)
    c.in-Known-back.ensures.0 c.in-Known-back.ensures.1 (c.in-Known-back.ensures.2 ∙ ap Some true-second))

pub returns-in-Absent-back : goal.returns-in-Absent-back
returns-in-Absent-back c = subst (Asks c.args.terms.now c.args.values.now) (sym c.le_step.ensures) (back-absent c.args.terms.now c.args.values.now c.args.id c.args.sides c.requires.at c.in-Absent-back.ensures (c.standing_of-order.result, c.standing_of-order.ensures, sym c.is_false.ensures ∙ c.if-is_false.false))

pub returns-in-Unknown-back-2 : goal.returns-in-Unknown-back-2
returns-in-Unknown-back-2 c = back-unknown c.args.terms.now c.args.values.now c.args.id c.args.sides c.requires.at c.in-Unknown-back-2.second c.in-Unknown-back-2.ensures.0 c.in-Unknown-back-2.ensures.1 c.in-Unknown-back-2.ensures.2 (c.standing_of-order.result, c.standing_of-order.ensures, sym c.is_false.ensures ∙ c.if-is_false.false)

pub returns-in_default : goal.returns-in_default
returns-in_default c = subst (Asks c.args.terms.now c.args.values.now) (sym c.le_step-in_default.ensures) (order-absent c.args.terms.now c.args.values.now c.args.id c.args.sides c.requires.at c.in-Absent.ensures (c.standing_of-back.result, c.standing_of-back.ensures, sym c.is_false-2.ensures ∙ c.if-is_false-2.false))
