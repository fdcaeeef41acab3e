use Rattle.std.proofs.Common.{ℕ, true, ◌∙◌, ap}
use Rattle.std.specs.Prelude.{replicate}
use Rattle.sd_runs.specs.Infallible.{entry_at, infallible_of}
use Rattle.sd_runs.proofs.Greatest.{are_greatest, are_one}
use Rattle.sd_product.specs.Numbering.{firsts_from, places_from}
use Rattle.sd_product.proofs.AscendingLemmas.{are_ascending_in}
use Rattle.sd_product.proofs.work.Work.with_pairs.Goals as goal

pub pairs_by_old-requires : goal.pairs_by_old-requires
pairs_by_old-requires c = are_ascending_in (record { old = c.args.old; new = c.args.new }) c.len-3.result c.args.pairs c.len-3.ensures c.requires.pairs

pub invariant_of-result : goal.invariant_of-result
invariant_of-result c = record {
  formed = record { old_formed = c.requires.old; new_formed = c.requires.new };
  old_infallible = are_one c.as_slice.result.now (entry_at c.in_ok-old_infallible.old_infallible.items) (infallible_of c.as_slice.result.now) c.in_ok-old_infallible.ensures.infallible (are_greatest c.as_slice.result.now) ∙ ap infallible_of c.as_slice.ensures;
  new_infallible = are_one c.as_slice-2.result.now (entry_at c.in_ok-new_infallible.new_infallible.items) (infallible_of c.as_slice-2.result.now) c.in_ok-new_infallible.ensures.infallible (are_greatest c.as_slice-2.result.now) ∙ ap infallible_of c.as_slice-2.ensures;
  old_kept = c.in_ok-old_kept.ensures.items_if_clones_equal (λ y e. e) ∙ ap (λ (n : ℕ). replicate n true) c.len.ensures;
  new_kept = c.in_ok-new_kept.ensures.items_if_clones_equal (λ y e. e) ∙ ap (λ (n : ℕ). replicate n true) c.len-2.ensures;
  are_pairs = c.requires.pairs;
  are_candidates = c.requires.candidates;
  finds_pairs = c.in_ok-pair_of_old.ensures;
  are_firsts = c.in_ok-first.ensures ∙ ap (firsts_from 0) c.as_slice-3.ensures.value;
  are_places = c.in_ok-places.ensures.places ∙ ap (places_from 0) c.as_slice-4.ensures.value;
  few = c.in_ok-places.ensures.few;
}
