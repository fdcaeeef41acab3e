use Rattle.std.proofs.Common.{◌≡◌, ℕ, ◌+◌, ◌-◌, ◌<◌, drop, length, ap, sym, ◌∙◌, subst, arith, set, Some}
use Rattle.sd_kernel.specs.declared.known.Fact.{Fact}
use Rattle.sd_kernel.specs.Facts.{trail_of}
use Rattle.sd_arith.specs.Places.{HasPlaces}
use Rattle.sd_arith.proofs.Placing.{places-next}
use Rattle.sd_arith.proofs.places.first_places.Goals as goal

pub loop-k-preserved : goal.loop-k-preserved
loop-k-preserved c =
    let k : ℕ = c.loop-k.k - 1 in
    let one : c.loop-k.k ≡ k + 1 = omega arith in
    places-next c.args.terms.now c.args.trail.now k c.index-trail-k.result c.loop-k.places c.set.new.self c.len.ensures.distinct (omega arith) c.index-trail-k.is
    (subst (λ (f : Fact). f.term < length c.args.terms.now) (sym c.index-trail-k.is) (c.requires.below k c.index-trail-k.result (omega arith)))
    (subst (λ (m : ℕ). HasPlaces c.args.terms.now m (trail_of c.args.terms.now (drop m c.args.trail.now)) c.loop-k.places) one c.loop-k.invariant)
    (c.set.ensures ∙ ap (λ (n : ℕ). set c.loop-k.places n (Some k)) c.number.ensures)
