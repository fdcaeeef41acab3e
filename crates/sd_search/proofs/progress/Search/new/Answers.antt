use Rattle.std.proofs.Common.{sym, ap, ◌∙◌, subst, map, [], ◌∷◌}
use Rattle.sd_term.specs.Bank.{tree_at}
use Rattle.sd_term.specs.Sorts.{AllWellSorted}
use Rattle.sd_kernel.specs.Proof.{start}
use Rattle.sd_search.proofs.GrownTerms.{first-terms}
use Rattle.sd_search.proofs.Runs.{new-search}
use Rattle.sd_search.proofs.progress.Search.new.Goals as goal

pub new-requires-clause-sorted : goal.new-requires-clause-sorted
new-requires-clause-sorted c = subst AllWellSorted (sym c.in_ok-numbered.ensures.terms) (first-terms c.args.query.now c.in_ok-numbered.ensures.sorted).sorted

pub returns-clause-search : goal.returns-clause-search
returns-clause-search c =
    let terms = c.in_ok-numbered.numbered.terms in
    let ids = c.in_ok-numbered.numbered.facts in
    let walk = c.in_ok-walk.ensures ∙ ap (λ l. (terms, start (map (λ f. tree_at terms f) l) ∷ [])) c.as_slice.ensures in
    new-search c.args.query.now terms ids c.in_ok-numbered.ensures.sorted c.in_ok-numbered.ensures.terms c.in_ok-numbered.ensures.facts c.in_ok-numbered.ensures.below
    c.requires
    c.in_ok-walk.walk walk c.new-2.result c.new-3.result c.new-4.result c.new-5.result c.new-2.ensures c.new-3.ensures c.new-4.ensures c.new-5.ensures
