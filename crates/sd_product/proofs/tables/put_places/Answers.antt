use Rattle.std.proofs.Common.{◌++◌, refl, arith}
use Rattle.sd_product.specs.Numbering.{places_in}
use Rattle.sd_cand.proofs.CandidateLemmas.{one_more}
use Rattle.sd_product.proofs.tables.put_places.Goals as goal

pub candidates-preserved : goal.candidates-preserved
candidates-preserved c = one_more (places_in c.args.list) (λ k. (c.args.list, k)) (λ _ _ _. refl) c.args.candidates.now c.candidates.place c.candidates.places.items c.push.new.self.items (c.args.places.now.items ++ places_in c.args.list 0 c.args.candidates.now) _ (omega (arith, c.len-count.ensures)) c.in_ok-push.ensures.items refl c.candidates.invariant
