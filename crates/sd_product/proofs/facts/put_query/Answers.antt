use Rattle.std.proofs.Common.{◌∙◌, sym, subst}
use Rattle.sd_term.specs.Sorts.{AllWellSorted}
use Rattle.sd_product.specs.Obligations.{work_in, infallibles_in, candidate_in}
use Rattle.sd_product.specs.TruthQueries.{AreTruths}
use Rattle.sd_product.proofs.TruthFacts.{query-truth}
use Rattle.sd_product.proofs.WellQuery.{query-well}
use Rattle.sd_product.proofs.facts.put_query.Goals as goal

pub new-requires-clause-sorts : goal.new-requires-clause-sorts
new-requires-clause-sorts c =
    let q = c.args.obligation.now in
    let sorts = c.requires.sorts in
    subst AllWellSorted (sym c.in_ok-facts.ensures.trees) (query-well (work_in q) q.table.now (infallibles_in q) (candidate_in q) sorts.old sorts.new sorts.claims sorts.own)

pub returns-clause-truths : goal.returns-clause-truths
returns-clause-truths c =
    let q = c.args.obligation.now in
    let sorts = c.requires.sorts in
    subst AreTruths (sym (c.new.ensures ∙ c.in_ok-facts.ensures.trees)) (query-truth (work_in q) q.table.now sorts.old sorts.new (infallibles_in q) (candidate_in q))
