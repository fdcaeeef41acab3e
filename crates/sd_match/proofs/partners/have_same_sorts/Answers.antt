use Rattle.std.proofs.Common.{◌∙◌, sym, ap, ◌+◌, drop}
use Rattle.std.specs.Prelude.{◌&&◌}
use Rattle.sd_match.specs.Pairs.{same_sorts}
use Rattle.sd_match.proofs.TypeLemmas.{same_sorts-differ, same_sorts-step}
use Rattle.sd_match.proofs.partners.have_same_sorts.Goals as goal

pub returns-then-olds-news : goal.returns-then-olds-news
returns-then-olds-news c = sym (same_sorts-differ c.args.olds.now c.args.news.now c.if-olds-news.true)

pub returns-then-not-is_same_sort : goal.returns-then-not-is_same_sort
returns-then-not-is_same_sort c =
    let step = same_sorts-step c.args.olds.now c.args.news.now c.vars.place c.index-olds-place.result c.index-news-place.result c.is_same_sort.result c.vars-test.true c.vars.invariant.count c.index-olds-place.is c.index-news-place.is c.is_same_sort.ensures in
    sym (ap (λ b. b && same_sorts (drop (c.vars.place + 1) c.args.olds.now) (drop (c.vars.place + 1) c.args.news.now)) c.if-not-is_same_sort.true) ∙ sym step ∙ c.vars.invariant.sorts

pub vars-preserved : goal.vars-preserved
vars-preserved c =
    let step = same_sorts-step c.args.olds.now c.args.news.now c.vars.place c.index-olds-place.result c.index-news-place.result c.is_same_sort.result c.vars-test.true c.vars.invariant.count c.index-olds-place.is c.index-news-place.is c.is_same_sort.ensures in
    record {
      count = c.vars.invariant.count;
      sorts = sym (ap (λ b. b && same_sorts (drop (c.vars.place + 1) c.args.olds.now) (drop (c.vars.place + 1) c.args.news.now)) c.if-not-is_same_sort.false) ∙ sym step ∙ c.vars.invariant.sorts;
    }
