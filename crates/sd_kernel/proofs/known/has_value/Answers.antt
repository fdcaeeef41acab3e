use Rattle.std.proofs.Common.{sym, ◌∙◌, arith}
use Rattle.sd_term.specs.Bank.{tree_at}
use Rattle.sd_kernel.proofs.Tables.{has-at, has-more}
use Rattle.sd_kernel.proofs.known.has_value.Goals as goal

pub returns-then-is_fact_on : goal.returns-then-is_fact_on
returns-then-is_fact_on c =
    has-at c.args.terms.now (tree_at c.args.terms.now c.args.id) c.args.value c.args.trail.now c.loop-i.i c.index-trail-i.result (omega (arith, c.loop-i-test.true, c.requires.count)) c.index-trail-i.is
    c.args.count c.loop-i-test.true c.requires.count (sym c.if-is_fact_on.true ∙ c.is_fact_on.ensures)

pub loop-i-preserved : goal.loop-i-preserved
loop-i-preserved c =
    has-more c.args.terms.now (tree_at c.args.terms.now c.args.id) c.args.value c.args.trail.now c.loop-i.i c.index-trail-i.result (omega (arith, c.loop-i-test.true, c.requires.count)) c.index-trail-i.is c.loop-i.invariant
    (sym c.if-is_fact_on.false ∙ c.is_fact_on.ensures)
