use Rattle.std.proofs.Common.{ℕ, ◌≡◌, ◌<◌, ◌≤◌, ◌+◌, ◌∙◌, refl, subst₂, length, arith}
use Rattle.std.specs.Prelude.{MatchBool}
use Rattle.sd_rounds.specs.Sweep.{GoesOn, SweepsOn}
use Rattle.sd_rounds.proofs.Settling.{passes_none, goes_nowhere, grows, goes_on}
use Rattle.sd_rounds.proofs.Sweeping.{sweeps-none, sweeps-nowhere, sweeps-then}
use Rattle.sd_rounds.proofs.settle.sweep_pair.Goals as goal

pub returns-then-not-any_live-clause-dropped : goal.returns-then-not-any_live-clause-dropped
returns-then-not-any_live-clause-dropped c =
    let h = c.args.work.now in
    let s = c.args.settled.now in
    let numbers = c.numbers_of-first.ensures in
    subst₂ (λ (n m : ℕ). GoesOn h n m s.table s.table s.deaths.items s.deaths.items s.proofs.items s.proofs.items) numbers.first numbers.end
    (passes_none h c.numbers_of-first.result.0 c.numbers_of-first.result.1 s.table s.deaths.items s.proofs.items numbers.ordered (c.any_live.ensures.none c.if-not-any_live.true))

pub candidates-init : goal.candidates-init
candidates-init c =
    let s = c.args.settled.now in record {
      dead = c.requires.dead;
      sweeps = refl;
      grown = omega arith;
      dropped = goes_nowhere c.args.work.now c.numbers_of-first.result.0 c.numbers_of-first.result.0 s.table s.deaths.items s.proofs.items refl;
      swept = sweeps-nowhere c.args.work.now c.numbers_of-first.result.0 c.numbers_of-first.result.0 s.table s.deaths.items refl;
    }

pub candidates-preserved : goal.candidates-preserved
candidates-preserved c =
    let h = c.args.work.now in
    let first = c.numbers_of-first.result.0 in
    let n = c.candidates.candidate in
    let s = c.args.settled.now in
    let was = c.candidates.settled in
    let is = c.visit.new.settled in
    let more : length s.deaths.items ≤ length is.deaths.items = grows h first n (n + 1) s.table was.table is.table s.deaths.items was.deaths.items is.deaths.items s.proofs.items was.proofs.items is.proofs.items c.in_ok-dropped.field-0 c.candidates.invariant.grown c.in_ok-dropped.ensures.dropped in
    record {
      dead = c.in_ok-dropped.ensures.dead;
      sweeps = cc;
      grown = more;
      dropped = goes_on h first n (n + 1) s.table was.table is.table s.deaths.items was.deaths.items is.deaths.items s.proofs.items was.proofs.items is.proofs.items c.candidates.dropped c.in_ok-dropped.field-0 c.candidates.invariant.grown c.candidates.invariant.dropped c.in_ok-dropped.ensures.dropped;
      swept = sweeps-then h first n (n + 1) s.table was.table is.table s.deaths.items was.deaths.items is.deaths.items c.candidates.invariant.swept c.in_ok-dropped.ensures.swept;
    }

pub returns-clause-dropped : goal.returns-clause-dropped
returns-clause-dropped c =
    let h = c.args.work.now in
    let s = c.args.settled.now in
    let is = c.candidates.settled in
    let numbers = c.numbers_of-first.ensures in
    let ends : c.candidates.candidate ≡ c.numbers_of-first.result.1 = omega (arith, numbers.ordered, c.candidates-test.false, c.candidates.auto.candidate-end) in
    subst₂ (λ (n m : ℕ). MatchBool c.candidates.dropped (length s.deaths.items < length is.deaths.items) (GoesOn h n m s.table is.table s.deaths.items is.deaths.items s.proofs.items is.proofs.items)) numbers.first (ends ∙ numbers.end) c.candidates.invariant.dropped

pub returns-then-not-any_live-clause-swept : goal.returns-then-not-any_live-clause-swept
returns-then-not-any_live-clause-swept c =
    let h = c.args.work.now in
    let s = c.args.settled.now in
    let numbers = c.numbers_of-first.ensures in
    subst₂ (λ (n m : ℕ). SweepsOn h n m s.table s.table s.deaths.items s.deaths.items) numbers.first numbers.end
    (sweeps-none h c.numbers_of-first.result.0 c.numbers_of-first.result.1 s.table s.deaths.items numbers.ordered (c.any_live.ensures.none c.if-not-any_live.true))

pub returns-clause-swept : goal.returns-clause-swept
returns-clause-swept c =
    let h = c.args.work.now in
    let s = c.args.settled.now in
    let is = c.candidates.settled in
    let numbers = c.numbers_of-first.ensures in
    let ends : c.candidates.candidate ≡ c.numbers_of-first.result.1 = omega (arith, numbers.ordered, c.candidates-test.false, c.candidates.auto.candidate-end) in
    subst₂ (λ (n m : ℕ). SweepsOn h n m s.table is.table s.deaths.items is.deaths.items) numbers.first (ends ∙ numbers.end) c.candidates.invariant.swept
