use Rattle.std.proofs.Common.{map, length, sym, ◌∙◌, arith}
use Rattle.sd_term.specs.Bank.{tree_at}
use Rattle.sd_kernel.proofs.Lookups.{eq-long}
use Rattle.sd_kernel.proofs.NodeTests.{same-test}
use Rattle.sd_kernel.proofs.ChainSteps.{chain-ends, more-map, not-zero}
use Rattle.sd_kernel.proofs.chain.is_chain.Goals as goal

pub part-first-requires-clause-place : goal.part-first-requires-clause-place
part-first-requires-clause-place c = omega (arith, eq-long c.args.terms.now c.args.equality c.requires.sorted c.requires.equality (sym c.is_eq.ensures ∙ c.if-not-is_eq.false))

pub part-last-requires-clause-place : goal.part-last-requires-clause-place
part-last-requires-clause-place c = omega (arith, eq-long c.args.terms.now c.args.equality c.requires.sorted c.requires.equality (sym c.is_eq.ensures ∙ c.if-not-is_eq.false))

pub returns : goal.returns
returns c =
    chain-ends (tree_at c.args.terms.now c.args.equality) (tree_at c.args.terms.now c.part-first.result) (tree_at c.args.terms.now c.part-last.result) (map (λ n. tree_at c.args.terms.now n) c.args.links.now)
    (sym c.is_eq.ensures ∙ c.if-not-is_eq.false) c.part-first.ensures.tree c.part-last.ensures.tree (sym c.if-not-leads.false ∙ c.leads.ensures)
    (more-map c.args.terms.now c.args.links.now (not-zero (length c.args.links.now) (sym c.is_empty.ensures ∙ c.if-is_empty.false))) c.same_term.result
    (same-test (tree_at c.args.terms.now c.part-first.result) (tree_at c.args.terms.now c.part-last.result) c.same_term.result c.same_term.ensures)
