use Rattle.std.proofs.Common.{◌∙◌, refl}
use Rattle.sd_core.specs.Store.{set_all}
use Rattle.sd_vcgen.specs.Numbers.{context_of, state_of}
use Rattle.sd_vcgen.proofs.Numbers.{extends_then, stands_later}
use Rattle.sd_vcgen.proofs.Calls.{site_made}
use Rattle.sd_vcgen.proofs.call.put_site.Goals as goal

pub returns-clause-site : goal.returns-clause-site
returns-clause-site c =
    let results = c.in_ok-results.ensures in
    let before = c.in_ok-before.ensures ∙ c.as_slice.ensures in
    let after = c.in_ok-after.ensures ∙ (λ i. set_all ((c.as_slice-2.ensures ∙ before) i) (c.as_slice-3.ensures i) (c.as_slice-4.ensures i)) in
    site_made c.args.bank.now c.put_guard.new.bank c.put_expressions.new.bank c.put_results.new.bank (context_of c.args.context.now) c.as_slice-functions.result.now c.args.state.now.next c.args.state.now c.args.procedure.now c.args.call.now.callee c.args.path c.args.call.now.args.now _ c.in_ok-results.results.changed
    c.requires.state c.requires.path c.in_ok-guard.ensures.kept c.in_ok-guard.ensures.term c.as_slice-functions.ensures c.in_ok-args.ensures.kept c.in_ok-args.ensures.terms before results.kept results.outs results.changed results.flag after refl

pub returns-clause-state : goal.returns-clause-state
returns-clause-state c =
    let a = c.args.bank.now in
    let b = c.put_guard.new.bank in
    let d = c.put_expressions.new.bank in
    let e = c.put_results.new.bank in
    let kept = extends_then a b e c.in_ok-guard.ensures.kept (extends_then b d e c.in_ok-args.ensures.kept c.in_ok-results.ensures.kept) in
    let k = stands_later a e c.args.state.now (state_of a c.args.state.now) kept c.requires.state in
    record { within = k.within; store = k.store; flag = k.flag; gone = k.gone; assumes = k.assumes; sites = k.sites }
