use Rattle.std.proofs.Common.{Option, IfSome, IfNone, subst}
use Rattle.sd_kernel.specs.declared.step.Step.{Step}
use Rattle.sd_kernel.specs.Facts.{trail_of}
use Rattle.sd_cube.specs.Required.{ChoicesHold, OrdersHold, NoneJoined}
use Rattle.sd_kernel.specs.Known.{Trail}
use Rattle.sd_euf.specs.Judged.{HasValues, Breaks}
use Rattle.sd_euf.proofs.Settling.{conflict-closes_branch}
use Rattle.sd_euf.proofs.closing.close.Goals as goal
use Rattle.sd_euf.proofs.closing.close.Goals.{in-Missing, in-Holds, in-Missing-judged_orders, in-Holds-judged_orders}

pub returns-in-Broken-clause-conflict : goal.returns-in-Broken-clause-conflict
returns-in-Broken-clause-conflict c = conflict-closes_branch c.conflict.result c.args.terms.now c.args.trail.now c.args.values.now c.in-Broken.step c.requires.values c.in-Broken.ensures c.conflict.ensures

pub returns-in-Broken-judged_orders-clause-conflict : goal.returns-in-Broken-judged_orders-clause-conflict
returns-in-Broken-judged_orders-clause-conflict c = conflict-closes_branch c.conflict-in-Broken-judged_orders.result c.args.terms.now c.args.trail.now c.args.values.now c.in-Broken-judged_orders.step c.requires.values c.in-Broken-judged_orders.ensures c.conflict-in-Broken-judged_orders.ensures

pub returns-in-Some-clause-conflict : goal.returns-in-Some-clause-conflict
returns-in-Some-clause-conflict c =
    let breaks = subst (λ (o : Option Step). IfSome o (λ step. Breaks c.args.terms.now c.args.values.now step)) c.in-Some.is c.in_ok-broken.ensures.broken in
    conflict-closes_branch c.conflict-in-Some.result c.args.terms.now c.args.trail.now c.args.values.now c.in-Some.step c.requires.values breaks c.conflict-in-Some.ensures

pub returns-clause-classes : goal.returns-clause-classes
returns-clause-classes c =
    let choices : ChoicesHold c.args.terms.now (trail_of c.args.terms.now c.args.trail.now) =
    elim c.match-judged_choices.branch [
      | in-Missing w ↦ absurd (c.in_default-missing_choice.not-Some w.in-Missing.step w.missing_choice-is)
      | in-Holds w ↦ w.in-Holds.ensures (trail_of c.args.terms.now c.args.trail.now) c.requires.values
    ] in
    let orders : OrdersHold c.args.terms.now (trail_of c.args.terms.now c.args.trail.now) =
    elim c.match-judged_orders.branch [
      | in-Missing-judged_orders w ↦ absurd (c.in_default-missing_order.not-Some w.in-Missing-judged_orders.step w.missing_order-is)
      | in-Holds-judged_orders w ↦ w.in-Holds-judged_orders.ensures (trail_of c.args.terms.now c.args.trail.now) c.requires.values
    ] in
    let none = subst (λ (o : Option Step). IfNone o ((trail : Trail) → HasValues c.args.terms.now trail c.args.values.now → NoneJoined c.args.terms.now trail)) c.in_default.is c.in_ok-broken.ensures.holds in
    record {
      choices = choices;
      orders = orders;
      none_joined = none (trail_of c.args.terms.now c.args.trail.now) c.requires.values;
      classes_are = c.in_ok-classes.ensures.classes (trail_of c.args.terms.now c.args.trail.now) c.requires.values;
    }
