use Rattle.std.proofs.Common.{◌≡◌, ◌∙◌, ap}
use Rattle.sd_product.specs.Numbering.{firsts_from}
use Rattle.sd_product.specs.Work.{candidate_lists, claims_of}
use Rattle.sd_product.proofs.Listed.{listed, as_long, finds, numbers}
use Rattle.sd_product.proofs.WorkLemmas.{own_pairs, lists_by}
use Rattle.sd_product.proofs.work.Work.claims.Goals as goal

pub returns-clause-claims : goal.returns-clause-claims
returns-clause-claims c =
    let w = c.self.inside in
    let i = c.self.invariant in
    let h = c.args.self.now in
    listed h w.pairs c.as_slice.result.now c.as_slice-2.result.now c.as_slice.ensures (c.as_slice-2.ensures.value ∙ lists_by w i h c.self.view_is) ∙ ap (claims_of h) (own_pairs w i h c.self.view_is)

pub returns-clause-tables : goal.returns-clause-tables
returns-clause-tables c =
    let w = c.self.inside in
    let i = c.self.invariant in
    let h = c.args.self.now in
    let by = lists_by w i h c.self.view_is in
    let lists : c.as_slice-2.result.now ≡ candidate_lists h w.pairs = c.as_slice-2.ensures.value ∙ by in
    record {
      long = as_long h w.pairs c.as_slice.result.now c.as_slice-2.result.now c.as_slice.ensures lists;
      places = finds h w.pairs c.as_slice.result.now c.as_slice-2.result.now c.as_slice.ensures lists c.as_slice-3.result.now w.pair_of_old.items c.as_slice-3.ensures.value i.finds_pairs;
      firsts = numbers h w.pairs c.as_slice.result.now c.as_slice-2.result.now c.as_slice.ensures lists c.as_slice-4.result.now (c.as_slice-4.ensures.value ∙ i.are_firsts ∙ ap (firsts_from 0) by);
    }
