use Rattle.sd_term.specs.Bank.{tree_at}
use Rattle.sd_euf.proofs.TableLemmas.{no-left, left-is}
use Rattle.sd_euf.proofs.table.left_of.Goals as goal

pub returns-then-parts-ne2-clause-none : goal.returns-then-parts-ne2-clause-none
returns-then-parts-ne2-clause-none c =
    no-left c.args.terms.now c.node-node.result.now (tree_at c.args.terms.now c.args.id) c.as_slice-parts.result.now c.node-node.ensures.tree c.as_slice-parts.ensures c.if-parts-ne2.true

pub returns-clause-some : goal.returns-clause-some
returns-clause-some c =
    left-is c.args.terms.now c.node-node.result.now (tree_at c.args.terms.now c.args.id) c.as_slice-parts.result.now c.index-parts-0.result c.node-node.ensures.tree c.as_slice-parts.ensures c.if-parts-ne2.false c.index-parts-0.is
