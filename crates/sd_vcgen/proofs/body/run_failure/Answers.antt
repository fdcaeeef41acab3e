use Rattle.std.proofs.Common.{subst, OnOk}
use Rattle.sd_vcgen.specs.Body as spec
use Rattle.sd_vcgen.specs.Numbers.{Stands}
use Rattle.sd_vcgen.proofs.Numbers.{within_stays, state_later, guarded, extends_self}
use Rattle.sd_vcgen.proofs.body.run_failure.Goals as goal

pub fail-requires-clause-state : goal.fail-requires-clause-state
fail-requires-clause-state c = within_stays c.args.bank.now c.put_guard.new.bank c.args.state.now c.in_ok-guard.ensures.kept c.requires.state

pub returns-clause-state : goal.returns-clause-state
returns-clause-state c =
    let a = c.args.bank.now in
    let b = c.put_guard.new.bank in
    let n = c.args.state.now in
    let g = guarded a a b n c.args.path c.in_ok-guard.guard c.requires.state c.requires.path (extends_self a) c.in_ok-guard.ensures.term in
    let s = state_later a b n c.in_ok-guard.ensures.kept c.requires.state in
    subst (λ (t : spec.State). OnOk c.fail.result (Stands c.fail.new.bank c.fail.new.state t)) (λ i. spec.fail (g i) (s i)) c.fail.ensures.state
