use Rattle.sd_term.specs.Bank.{tree_at}
use Rattle.sd_kernel.proofs.NodeTests.{ite-test}
use Rattle.sd_kernel.proofs.nodes.is_ite.Goals as goal

pub returns : goal.returns
returns c = ite-test c.args.terms.now c.node.result.now (tree_at c.args.terms.now c.args.id) c.node.ensures.tree c.is_op.result c.is_op.ensures
