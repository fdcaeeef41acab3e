use Rattle.std.proofs.Common.{length, ap, refl, ◌∙◌}
use Rattle.std.specs.Prelude.{Some}
use Rattle.std.proofs.lemmas.List.{length_push}
use Rattle.sd_kernel.specs.declared.proved.How.TheVariants.{Steps}
use Rattle.sd_rounds.proofs.Settling.{cause_kills, passes_dead, passes_live}
use Rattle.sd_rounds.proofs.Sweeping.{sweeps-idle, sweeps-proved, sweeps-died}
use Rattle.sd_rounds.proofs.settle.visit.Goals as goal

pub returns-then-not-get-clause-dropped : goal.returns-then-not-get-clause-dropped
returns-then-not-get-clause-dropped c =
    passes_dead c.args.work.now c.args.candidate c.args.settled.now.table c.args.settled.now.deaths.items c.args.settled.now.proofs.items (c.get.ensures ∙ ap Some c.if-not-get.true)

pub returns-in_ok-push-in-Proved-clause-dropped : goal.returns-in_ok-push-in-Proved-clause-dropped
returns-in_ok-push-in-Proved-clause-dropped c =
    passes_live c.args.work.now c.args.candidate c.args.settled.now.table c.args.settled.now.deaths.items c.args.settled.now.proofs.items _ (record { candidate = c.args.candidate; how = Steps c.in-Proved.proof }) refl (c.get.ensures ∙ ap Some c.if-not-get.false)
    (rw c.in-Proved.is at c.in_ok-proof.ensures) c.in_ok-push-in-Proved.ensures.items

pub returns-in_ok-push-in-Dropped-clause-dead : goal.returns-in_ok-push-in-Dropped-clause-dead
returns-in_ok-push-in-Dropped-clause-dead c =
    cause_kills c.args.leaves c.args.work.now c.args.settled.now.table _ c.args.settled.now.deaths.items _ (record { candidate = c.args.candidate; seen = c.in_ok-seen-in-Dropped.seen; cause = c.in-Dropped.cause }) c.requires.dead (c.get.ensures ∙ ap Some c.if-not-get.false)
    (rw c.in-Dropped.is at c.in_ok-proof.ensures) c.in_ok-seen-in-Dropped.ensures c.clear.ensures c.in_ok-push-in-Dropped.ensures.items

pub returns-in_ok-push-in-Dropped-clause-dropped : goal.returns-in_ok-push-in-Dropped-clause-dropped
returns-in_ok-push-in-Dropped-clause-dropped c = ap length c.in_ok-push-in-Dropped.ensures.items ∙ length_push _ _

pub returns-then-not-get-clause-swept : goal.returns-then-not-get-clause-swept
returns-then-not-get-clause-swept c = sweeps-idle c.args.work.now c.args.candidate c.args.settled.now.table c.args.settled.now.deaths.items (c.get.ensures ∙ ap Some c.if-not-get.true)

pub returns-in_ok-push-in-Proved-clause-swept : goal.returns-in_ok-push-in-Proved-clause-swept
returns-in_ok-push-in-Proved-clause-swept c =
    sweeps-proved c.args.work.now c.args.candidate c.args.settled.now.table c.args.settled.now.deaths.items c.in-Proved.proof (rw c.in-Proved.is at c.in_ok-proof.ensures)

pub returns-in_ok-push-in-Dropped-clause-swept : goal.returns-in_ok-push-in-Dropped-clause-swept
returns-in_ok-push-in-Dropped-clause-swept c =
    sweeps-died c.args.work.now (record { candidate = c.args.candidate; seen = c.in_ok-seen-in-Dropped.seen; cause = c.in-Dropped.cause }) c.args.settled.now.table _ c.args.settled.now.deaths.items _ c.clear.ensures c.in_ok-push-in-Dropped.ensures.items
