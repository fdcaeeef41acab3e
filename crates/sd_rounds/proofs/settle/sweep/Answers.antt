use Rattle.std.proofs.Common.{◌≤◌, ◌+◌, refl, arith, ap, ◌∙◌, sym, length}
use Rattle.sd_product.specs.Work.{pairs_in, queries_of}
use Rattle.sd_product.specs.Bodies.{count_before}
use Rattle.sd_rounds.proofs.Settling.{none_proved, sweeps_on, still_on, swept, passed_all}
use Rattle.sd_rounds.proofs.Sweeping.{sweeps-nowhere, sweeps-then, whole-sweep}
use Rattle.sd_rounds.proofs.settle.sweep.Goals as goal

pub each-init : goal.each-init
each-init c = record {
  dead = c.requires.dead;
  sweeps = refl;
  grown = omega arith;
  still = λ none. refl;
  dropped = none_proved (queries_of c.args.work.now c.args.settled.now.table) c.args.settled.now.table (count_before c.args.work.now 0) _ refl (cc);
  swept = sweeps-nowhere c.args.work.now 0 (count_before c.args.work.now 0) c.args.settled.now.table c.args.settled.now.deaths.items refl;
}

pub each-preserved : goal.each-preserved
each-preserved c =
    let h = c.args.work.now in
    let was = c.each.settled in
    let is = c.sweep_pair.new.settled in
    let before = c.each.invariant in
    let after = c.in_ok-dropped.ensures in
    record {
      dead = after.dead;
      sweeps = cc;
      grown = omega (arith, before.grown, after.grown);
      still = still_on h (count_before h c.each.pair) (count_before h (c.each.pair + 1)) _ was.table is.table was.deaths.items is.deaths.items was.proofs.items is.proofs.items c.each.dropped c.in_ok-dropped.field-0 before.still after.dropped;
      dropped = sweeps_on h (count_before h c.each.pair) (count_before h (c.each.pair + 1)) _ was.table is.table was.deaths.items is.deaths.items was.proofs.items is.proofs.items c.each.dropped c.in_ok-dropped.field-0 before.grown before.dropped after.dropped after.grown;
      swept = sweeps-then h 0 (count_before h c.each.pair) (count_before h (c.each.pair + 1)) c.args.settled.now.table was.table is.table c.args.settled.now.deaths.items was.deaths.items is.deaths.items before.swept after.swept;
    }

pub returns-clause-dropped : goal.returns-clause-dropped
returns-clause-dropped c =
    let h = c.args.work.now in
    let all : length (pairs_in h) ≤ c.each.pair = omega (arith, c.each-test.false, c.len-pair-end.ensures, ap length c.pairs.ensures) in
    swept h (count_before h c.each.pair) c.each.settled.table c.each.settled.proofs.items c.each.dropped _ (passed_all h c.each.pair all ∙ sym c.each.invariant.dead.size) c.each.invariant.dropped

pub returns-clause-swept : goal.returns-clause-swept
returns-clause-swept c =
    let h = c.args.work.now in
    let s = c.each.settled in
    let all : length (pairs_in h) ≤ c.each.pair = omega (arith, c.each-test.false, c.len-pair-end.ensures, ap length c.pairs.ensures) in
    let whole = passed_all h c.each.pair all ∙ sym c.each.invariant.dead.size in
    whole-sweep h (count_before h c.each.pair) c.args.settled.now.table s.table c.args.settled.now.deaths.items s.deaths.items (omega (arith, whole)) c.each.invariant.swept
