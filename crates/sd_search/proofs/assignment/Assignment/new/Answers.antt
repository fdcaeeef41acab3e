use Rattle.std.proofs.Common.{◌<◌, All, length, sym, ap, ◌∙◌, subst, map, [], ◌∷◌}
use Rattle.sd_term.specs.Bank.{tree_at}
use Rattle.sd_term.specs.Sorts.{AllWellSorted}
use Rattle.sd_kernel.specs.declared.known.Fact.{Fact}
use Rattle.sd_kernel.specs.Facts.{trail_of}
use Rattle.sd_kernel.specs.Proof.{start}
use Rattle.sd_search.specs.Running.{IsRunning}
use Rattle.sd_search.proofs.GrownTerms.{first-terms}
use Rattle.sd_search.proofs.Runs.{new-running}
use Rattle.sd_search.proofs.Assignments.{facts-alone}
use Rattle.sd_search.proofs.assignment.Assignment.new.Goals as goal

pub new-requires-clause-sorted : goal.new-requires-clause-sorted
new-requires-clause-sorted c = subst AllWellSorted (sym c.in_ok-numbered.ensures.terms) (first-terms c.args.query.now c.in_ok-numbered.ensures.sorted).sorted

pub returns : goal.returns
returns c =
    let q = c.args.query.now in
    let terms = c.in_ok-numbered.numbered.terms in
    let ids = c.in_ok-numbered.numbered.facts in
    let walk = c.in_ok-walk.walk in
    let is = c.in_ok-walk.ensures ∙ ap (λ l. (terms, start (map (λ f. tree_at terms f) l) ∷ [])) c.as_slice.ensures in
    let running = new-running q terms ids c.in_ok-numbered.ensures.sorted c.in_ok-numbered.ensures.terms c.in_ok-numbered.ensures.facts c.in_ok-numbered.ensures.below c.requires walk is in
    facts-alone q walk ids c.new-2.result c.in_ok-trail.trail (subst (λ x. IsRunning q walk ids [] x []) (sym c.new-2.ensures) running)
    (ap (trail_of walk.0) c.in_ok-trail.ensures ∙ c.facts-2.ensures.facts)
    (subst (All (λ (f : Fact). f.term < length walk.0)) (sym c.in_ok-trail.ensures) c.facts-2.ensures.below)
