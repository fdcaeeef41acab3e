use Rattle.std.proofs.Common.{◌≡◌, sym, ap, ◌∙◌, subst, length, IfOk}
use Rattle.sd_kernel.specs.Facts.{trail_of}
use Rattle.sd_kernel.specs.Steps.{Made, row_of_line}
use Rattle.sd_kernel.specs.MadeRows.{made_of}
use Rattle.sd_kernel.proofs.Lookups.{sorted-at}
use Rattle.sd_kernel.proofs.RowSteps.{fact-some, fact-none, back-some, back-none, fact-below}
use Rattle.sd_kernel.proofs.rows.row_of_line.Goals as goal

pub fact_row-requires-clause-fact : goal.fact_row-requires-clause-fact
fact_row-requires-clause-fact c = fact-below c.args.trail.now c.in-Fact.number (length c.args.terms.now) c.in-Some.fact.now c.in-Some.ensures c.requires.facts

pub fact_row-requires-clause-sorted : goal.fact_row-requires-clause-sorted
fact_row-requires-clause-sorted c =
    sorted-at c.args.terms.now c.in-Some.fact.now.term c.requires.sorted (fact-below c.args.trail.now c.in-Fact.number (length c.args.terms.now) c.in-Some.fact.now c.in-Some.ensures c.requires.facts)

pub fact_back_row-requires-clause-fact : goal.fact_back_row-requires-clause-fact
fact_back_row-requires-clause-fact c = fact-below c.args.trail.now c.in-Back.number (length c.args.terms.now) c.in-Some-at.fact.now c.in-Some-at.ensures c.requires.facts

pub fact_back_row-requires-clause-sorted : goal.fact_back_row-requires-clause-sorted
fact_back_row-requires-clause-sorted c =
    sorted-at c.args.terms.now c.in-Some-at.fact.now.term c.requires.sorted (fact-below c.args.trail.now c.in-Back.number (length c.args.terms.now) c.in-Some-at.fact.now c.in-Some-at.ensures c.requires.facts)

pub returns-in-Some-clause-row : goal.returns-in-Some-clause-row
returns-in-Some-clause-row c =
    subst (λ (m : Made). IfOk c.fact_row.result (λ r. m ≡ made_of r))
    (sym (ap (row_of_line c.args.terms.now (trail_of c.args.terms.now c.args.trail.now) c.args.rows.now) c.in-Fact.is ∙ fact-some c.args.terms.now c.args.trail.now c.args.rows.now c.in-Fact.number c.in-Some.fact.now c.in-Some.ensures)) c.fact_row.ensures.row

pub returns-in-None-clause-row : goal.returns-in-None-clause-row
returns-in-None-clause-row c =
    ap (row_of_line c.args.terms.now (trail_of c.args.terms.now c.args.trail.now) c.args.rows.now) c.in-Fact.is ∙ fact-none c.args.terms.now c.args.trail.now c.args.rows.now c.in-Fact.number c.in-None.ensures

pub returns-in-Some-at-clause-row : goal.returns-in-Some-at-clause-row
returns-in-Some-at-clause-row c =
    subst (λ (m : Made). IfOk c.fact_back_row.result (λ r. m ≡ made_of r))
    (sym (ap (row_of_line c.args.terms.now (trail_of c.args.terms.now c.args.trail.now) c.args.rows.now) c.in-Back.is ∙ back-some c.args.terms.now c.args.trail.now c.args.rows.now c.in-Back.number c.in-Some-at.fact.now c.in-Some-at.ensures)) c.fact_back_row.ensures.row

pub returns-in-None-at-clause-row : goal.returns-in-None-at-clause-row
returns-in-None-at-clause-row c =
    ap (row_of_line c.args.terms.now (trail_of c.args.terms.now c.args.trail.now) c.args.rows.now) c.in-Back.is ∙ back-none c.args.terms.now c.args.trail.now c.args.rows.now c.in-Back.number c.in-None-at.ensures
