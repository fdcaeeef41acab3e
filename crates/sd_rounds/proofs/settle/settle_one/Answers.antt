use Rattle.std.proofs.Common.{ℕ, ◌+◌, true, ap, sym, subst, subst₂, ◌∙◌, length}
use Rattle.std.specs.Prelude.{replicate}
use Rattle.sd_rounds.specs.Settled.{AreAllSweeps, AreSweeps}
use Rattle.sd_rounds.proofs.Settling.{none_dead, fewer_live, first_sweep, one_sweep_more, are_settled}
use Rattle.sd_rounds.proofs.Sweeping.{none-led, one-led, all-swept}
use Rattle.sd_rounds.proofs.settle.settle_one.Goals as goal

pub sweeps-init : goal.sweeps-init
sweeps-init c = record { dead = none_dead c.args.leaves c.args.work.now _ _ (c.in_ok-full.ensures ∙ ap (λ (n : ℕ). replicate n true) c.count.ensures) c.new.ensures.items; sweeps = first_sweep _ (ap length c.new.ensures.items); led = none-led c.args.work.now _ _ c.new.ensures.items (c.in_ok-full.ensures ∙ ap (λ (n : ℕ). replicate n true) c.count.ensures) }

pub sweeps-preserved : goal.sweeps-preserved
sweeps-preserved c =
    record {
      dead = c.in_ok-sweep.ensures.dead;
      sweeps = one_sweep_more c.sweeps.settled.sweeps _ _ _ c.sweeps.invariant.sweeps (c.in_ok-settled.ensures ∙ ap (λ (n : ℕ). n + 1) c.in_ok-sweep.ensures.sweeps) (rw c.if-branch.true at c.in_ok-sweep.ensures.dropped);
      led = one-led c.args.work.now c.sweeps.settled.sweeps _ c.sweeps.settled.table c.sweep.new.settled.table c.sweeps.settled.deaths.items c.sweep.new.settled.deaths.items c.sweeps.invariant.led c.in_ok-sweep.ensures.swept (rw c.if-branch.true at c.in_ok-sweep.ensures.dropped) (c.in_ok-settled.ensures ∙ ap (λ (n : ℕ). n + 1) c.in_ok-sweep.ensures.sweeps);
    }

pub sweeps-smaller : goal.sweeps-smaller
sweeps-smaller c =
    fewer_live c.args.leaves c.args.work.now c.sweeps.settled.table c.sweep.new.settled.table c.sweeps.settled.deaths.items c.sweep.new.settled.deaths.items c.sweeps.invariant.dead c.in_ok-sweep.ensures.dead
    (rw c.if-branch.true at c.in_ok-sweep.ensures.dropped)

pub returns-clause-settled : goal.returns-clause-settled
returns-clause-settled c = are_settled c.args.leaves c.args.work.now _ _ _ c.in_ok-sweep.ensures.dead (rw c.if-branch.false at c.in_ok-sweep.ensures.dropped)

pub returns-clause-sweeps : goal.returns-clause-sweeps
returns-clause-sweeps c =
    subst₂ (λ (sweeps deaths : ℕ). AreSweeps sweeps deaths) (sym c.in_ok-sweep.ensures.sweeps) (sym (c.in_ok-sweep.ensures.still c.if-branch.false)) c.sweeps.invariant.sweeps

pub returns-clause-all_swept : goal.returns-clause-all_swept
returns-clause-all_swept c =
    subst (λ (n : ℕ). AreAllSweeps c.args.work.now n c.sweep.new.settled.deaths.items c.sweep.new.settled.table) (sym c.in_ok-sweep.ensures.sweeps)
    (all-swept c.args.work.now c.sweeps.settled.sweeps c.sweeps.settled.table c.sweep.new.settled.table c.sweeps.settled.deaths.items c.sweep.new.settled.deaths.items c.sweeps.invariant.led c.in_ok-sweep.ensures.swept (c.in_ok-sweep.ensures.still c.if-branch.false))
