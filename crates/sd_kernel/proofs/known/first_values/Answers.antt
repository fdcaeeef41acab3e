use Rattle.std.proofs.Common.{◌≡◌, ℕ, ◌+◌, ◌-◌, ◌<◌, drop, length, sym, ap, ◌∙◌, subst, arith, set, Some}
use Rattle.sd_kernel.specs.declared.known.Fact.{Fact}
use Rattle.sd_kernel.specs.Facts.{trail_of}
use Rattle.sd_kernel.specs.FirstFacts.{HasFirstFacts}
use Rattle.sd_kernel.proofs.Tables.{firsts-next}
use Rattle.sd_kernel.proofs.known.first_values.Goals as goal

pub loop-k-preserved : goal.loop-k-preserved
loop-k-preserved c =
    let k : ℕ = c.loop-k.k - 1 in
    let one : c.loop-k.k ≡ k + 1 = omega arith in
    firsts-next c.args.terms.now c.args.trail.now k c.index-trail-k.result c.loop-k.firsts c.set.new.self c.len.ensures.distinct (omega arith) c.index-trail-k.is
    (subst (λ (f : Fact). f.term < length c.args.terms.now) (sym c.index-trail-k.is) (c.requires k c.index-trail-k.result (omega arith)))
    (subst (λ (m : ℕ). HasFirstFacts c.args.terms.now (trail_of c.args.terms.now (drop m c.args.trail.now)) c.loop-k.firsts) one c.loop-k.invariant)
    (c.set.ensures ∙ ap (λ (n : ℕ). set c.loop-k.firsts n (Some c.index-trail-k.result.value)) c.number.ensures)
