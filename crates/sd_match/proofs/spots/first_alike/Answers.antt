use Rattle.std.proofs.Common.{sym, ◌∙◌, true, false}
use Rattle.sd_match.proofs.SpotLemmas.{alike-step}
use Rattle.sd_match.proofs.spots.first_alike.Goals as goal

pub returns-then-is_alike : goal.returns-then-is_alike
returns-then-is_alike c =
    sym (alike-step c.args.news.now c.news.place c.args.old.now c.index-news-place.result true c.news-test.true c.index-news-place.is (sym c.if-is_alike.true ∙ c.is_alike.ensures)) ∙ c.news.invariant

pub news-preserved : goal.news-preserved
news-preserved c =
    sym (alike-step c.args.news.now c.news.place c.args.old.now c.index-news-place.result false c.news-test.true c.index-news-place.is (sym c.if-is_alike.false ∙ c.is_alike.ensures)) ∙ c.news.invariant
