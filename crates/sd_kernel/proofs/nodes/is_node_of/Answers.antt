use Rattle.std.proofs.Common.{◌≡◌, [], ◌∷◌, sym, ◌∙◌, true, false}
use Rattle.sd_term.specs.Bank.{tree_at}
use Rattle.sd_kernel.proofs.NodeTests.{other-head, same-head}
use Rattle.sd_kernel.proofs.nodes.is_node_of.Goals as goal

pub returns-then-not-is_op : goal.returns-then-not-is_op
returns-then-not-is_op c =
    other-head c.args.terms.now c.node-node.result.now (tree_at c.args.terms.now c.args.id) c.node-node.ensures.tree c.args.op (tree_at c.args.terms.now c.args.first ∷ tree_at c.args.terms.now c.args.second ∷ [])
    (λ e. let f : false ≡ true = sym c.if-not-is_op.true ∙ c.is_op.ensures.1 e in cc)

pub returns : goal.returns
returns c =
    same-head c.args.terms.now c.node-node.result.now (tree_at c.args.terms.now c.args.id) c.node-node.ensures.tree c.args.op (tree_at c.args.terms.now c.args.first ∷ tree_at c.args.terms.now c.args.second ∷ [])
    c.as_slice.result.now c.are_parts.result (c.is_op.ensures.0 c.if-not-is_op.false) c.as_slice.ensures c.are_parts.ensures
