use Rattle.std.proofs.Common.{List, ap}
use Rattle.sd_core.specs.declared.Function.{Function}
use Rattle.sd_vcgen.specs.Body.{term_in}
use Rattle.sd_vcgen.specs.Numbers.{store_of}
use Rattle.sd_vcgen.proofs.Bodies.{assumed}
use Rattle.sd_vcgen.proofs.body.run_assumption.Goals as goal

pub returns-clause-state : goal.returns-clause-state
returns-clause-state c =
    let holds = c.in_ok-holds.ensures in
    let guard = c.in_ok-guard.ensures in
    let elsewhere = c.in_ok-elsewhere.ensures in
    let either = c.in_ok-assumed.ensures in
    assumed c.args.bank.now c.put_expression.new.bank c.put_guard.new.bank c.not.new.self c.or.new.self c.args.state.now c.args.path c.in_ok-holds.holds c.in_ok-guard.guard c.in_ok-elsewhere.elsewhere c.in_ok-assumed.assumed c.push.new.self _ _
    c.requires.state c.requires.path holds.kept holds.term (ap (λ (F : List Function). term_in F (store_of c.args.bank.now c.args.state.now.spots) c.args.condition.now) c.as_slice-functions.ensures) guard.kept guard.term elsewhere.kept elsewhere.tree either.kept either.number either.tree c.in_ok-push.ensures.ok
