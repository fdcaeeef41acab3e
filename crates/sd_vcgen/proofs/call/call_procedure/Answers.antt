use Rattle.std.proofs.Common.{subst, OnOk}
use Rattle.sd_vcgen.specs.Body.{State}
use Rattle.sd_vcgen.specs.Numbers.{context_of, Stands, state_of}
use Rattle.sd_vcgen.proofs.Numbers.{is_within}
use Rattle.sd_vcgen.proofs.Calls.{called}
use Rattle.sd_vcgen.proofs.call.call_procedure.Goals as goal

pub receive-requires-clause-state : goal.receive-requires-clause-state
receive-requires-clause-state c = is_within c.put_site.new.bank c.put_site.new.state (state_of c.args.bank.now c.args.state.now) c.in_ok-made.ensures.state

pub returns-clause-state : goal.returns-clause-state
returns-clause-state c =
    let made = c.in_ok-made.ensures in
    subst (λ (s : State). OnOk c.receive.result (Stands c.receive.new.bank c.receive.new.state s))
    (called c.args.bank.now c.put_site.new.bank (context_of c.args.context.now) c.args.state.now.next c.args.state.now c.put_site.new.state c.args.procedure.now c.args.call.now.callee c.args.path c.args.call.now.receivers.now c.args.call.now.args.now c.in_ok-made.made.site c.in_ok-made.made.changed c.as_slice.result.now made.site made.changed c.as_slice.ensures made.state)
    c.receive.ensures.state
