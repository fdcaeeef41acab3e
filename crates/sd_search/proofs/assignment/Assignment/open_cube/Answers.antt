use Rattle.std.proofs.Common.{subst, ◌∙◌}
use Rattle.sd_kernel.specs.Facts.{trail_of}
use Rattle.sd_search.specs.Atoms.{atom_literals}
use Rattle.sd_search.specs.Choice.{IsChoice}
use Rattle.sd_search.specs.Settled.{IsSettled}
use Rattle.sd_search.specs.Terms.{AreValuesUnder}
use Rattle.sd_search.proofs.Assignments.{settled-cube}
use Rattle.sd_search.proofs.assignment.Assignment.open_cube.Goals as goal

pub returns-in-Settled : goal.returns-in-Settled
returns-in-Settled c =
    let q = c.args.query.now in
    let a = c.args.self.now in
    let terms = c.terms-terms.result.now in
    let trail = c.as_slice-trail.result.now in
    let values = c.in_ok-values.values in
    let settled = subst (IsChoice q terms (trail_of terms trail)) c.in-Settled.is c.in_ok-branch_choice.ensures in
    settled-cube q a c.in_ok-cube-in-Settled.cube values c.requires
    (subst (λ ts. IsSettled q ts (trail_of ts a.trail)) c.terms-terms.ensures (subst (λ tr. IsSettled q terms (trail_of terms tr)) c.as_slice-trail.ensures settled))
    (subst (λ ts. AreValuesUnder (trail_of ts a.trail) ts values) c.terms-terms.ensures (subst (λ tr. AreValuesUnder (trail_of terms tr) terms values) c.as_slice-trail.ensures c.in_ok-values.ensures))
    (c.in_ok-cube-in-Settled.ensures.extra ∙ c.as_slice-in-Settled-2.ensures)
    (c.in_ok-cube-in-Settled.ensures.literals ∙ c.as_slice-in-Settled-3.ensures ∙ c.in_ok-literals-in-Settled.ensures ∙ (λ i. atom_literals 0 (c.terms-terms.ensures i) (c.as_slice-in-Settled.ensures i)))
