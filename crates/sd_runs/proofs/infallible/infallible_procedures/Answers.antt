use Rattle.std.proofs.Common.{◌≡◌, length, ◌∙◌, arith}
use Rattle.sd_runs.proofs.Spread.{spreads_from, spread_done, turn_in, turn_reads, turn_spreads, turn_less}
use Rattle.sd_runs.proofs.infallible.infallible_procedures.Goals as goal

pub loop-at-init : goal.loop-at-init
loop-at-init c =
    let procs = c.args.procs.now in
    let all = c.in_ok-infallible.ensures.items_if_clones_equal (λ y e. e) in
    spreads_from procs _ _ all c.new-waiting.ensures.items _ c.in_ok-mark_first.ensures

pub index-requires : goal.index-requires
index-requires c =
    let in' = turn_in c.args.procs.now c.in_ok-callers.callers.items c.in_ok-callers.ensures c.loop-at.infallible.items c.loop-at.waiting.items c.pop.new.self.items c.in-Some.at c.loop-at.invariant c.in-Some.ensures.items in
    omega (arith, c.in_ok-callers.callers.ok.0)

pub loop-at-preserved : goal.loop-at-preserved
loop-at-preserved c =
    let reads = c.as_slice.ensures ∙ turn_reads c.args.procs.now c.in_ok-callers.callers.items c.in_ok-callers.ensures c.loop-at.infallible.items c.loop-at.waiting.items c.pop.new.self.items c.in-Some.at c.loop-at.invariant c.in-Some.ensures.items c.index.result.now c.index.ensures in
    turn_spreads c.args.procs.now c.in_ok-callers.callers.items c.in_ok-callers.ensures c.loop-at.infallible.items c.loop-at.waiting.items c.pop.new.self.items c.in-Some.at c.loop-at.invariant c.in-Some.ensures.items c.as_slice.result.now reads _ c.in_ok-mark_all.ensures

pub loop-at-smaller : goal.loop-at-smaller
loop-at-smaller c =
    let reads = c.as_slice.ensures ∙ turn_reads c.args.procs.now c.in_ok-callers.callers.items c.in_ok-callers.ensures c.loop-at.infallible.items c.loop-at.waiting.items c.pop.new.self.items c.in-Some.at c.loop-at.invariant c.in-Some.ensures.items c.index.result.now c.index.ensures in
    turn_less c.args.procs.now c.in_ok-callers.callers.items c.in_ok-callers.ensures c.loop-at.infallible.items c.loop-at.waiting.items c.pop.new.self.items c.in-Some.at c.loop-at.invariant c.in-Some.ensures.items c.as_slice.result.now reads _ c.in_ok-mark_all.ensures

pub returns-clause-infallible : goal.returns-clause-infallible
returns-clause-infallible c =
    let none = c.in_default.ensures.cases.0 in
    let long : length c.loop-at.waiting.items ≡ 0 = omega (arith, c.loop-at.waiting.ok.0) in
    spread_done c.args.procs.now c.loop-at.infallible.items c.loop-at.waiting.items long c.loop-at.invariant
