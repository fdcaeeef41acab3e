use Rattle.std.proofs.Common.{◌∙◌, sym, ap, ◌+◌, drop}
use Rattle.std.specs.Prelude.{◌&&◌}
use Rattle.sd_match.specs.Refusals.{all_same_sorts}
use Rattle.sd_match.proofs.TypeLemmas.{all_same_sorts-differ, all_same_sorts-step}
use Rattle.sd_match.proofs.refusal.have_all_same_sorts.Goals as goal

pub returns-then-olds-news : goal.returns-then-olds-news
returns-then-olds-news c = sym (all_same_sorts-differ c.args.olds.now c.args.news.now c.if-olds-news.true)

pub returns-then-not-is_same_sort : goal.returns-then-not-is_same_sort
returns-then-not-is_same_sort c =
    let step = all_same_sorts-step c.args.olds.now c.args.news.now c.sorts.place c.index-olds-place.result c.index-news-place.result c.is_same_sort.result c.sorts-test.true c.sorts.invariant.count c.index-olds-place.is c.index-news-place.is c.is_same_sort.ensures in
    sym (ap (λ b. b && all_same_sorts (drop (c.sorts.place + 1) c.args.olds.now) (drop (c.sorts.place + 1) c.args.news.now)) c.if-not-is_same_sort.true) ∙ sym step ∙ c.sorts.invariant.same

pub sorts-preserved : goal.sorts-preserved
sorts-preserved c =
    let step = all_same_sorts-step c.args.olds.now c.args.news.now c.sorts.place c.index-olds-place.result c.index-news-place.result c.is_same_sort.result c.sorts-test.true c.sorts.invariant.count c.index-olds-place.is c.index-news-place.is c.is_same_sort.ensures in
    record {
      count = c.sorts.invariant.count;
      same = sym (ap (λ b. b && all_same_sorts (drop (c.sorts.place + 1) c.args.olds.now) (drop (c.sorts.place + 1) c.args.news.now)) c.if-not-is_same_sort.false) ∙ sym step ∙ c.sorts.invariant.same;
    }
