use Rattle.std.proofs.Common.{refl, arith}
use Rattle.sd_term.specs.declared.build.Kind.TheVariants.{Eq}
use Rattle.sd_cand.specs.Candidates.{equal_from}
use Rattle.sd_cand.proofs.CandidateLemmas.{one_more}
use Rattle.sd_cand.proofs.generate.equal_places.Goals as goal

pub places-preserved : goal.places-preserved
places-preserved c = record {
  reached = omega arith;
  left = one_more equal_from (λ n. record { place = n; kind = Eq }) (λ _ _ _. refl) c.args.places.now c.places.place c.places.relations c.push.new.self (equal_from 0 c.args.places.now) c.equal_at.result (omega arith) c.in_ok-push.ensures.ok c.equal_at.ensures c.places.invariant.left;
}
