use Rattle.std.proofs.Common.{ap, sym, ◌∙◌, length}
use Rattle.std.proofs.lemmas.Bool.{iff_false}
use Rattle.sd_term.specs.declared.node.Head.TheVariants.{Op as Plain}
use Rattle.sd_term.specs.Tree.{head_of, parts_of}
use Rattle.sd_term.specs.Bank.{tree_at}
use Rattle.sd_euf.proofs.Shapes.{other-head, part-count}
use Rattle.sd_euf.proofs.find.pair_of.Goals as goal

pub returns-then-not-is_op-clause-none : goal.returns-then-not-is_op-clause-none
returns-then-not-is_op-clause-none c = λ x y e.
    other-head c.args.terms.now c.node-node.result.now (tree_at c.args.terms.now c.args.id) (Plain c.args.op) c.node-node.ensures.tree (iff_false c.is_op.ensures c.if-not-is_op.true) (ap head_of e)

pub returns-then-parts-ne2-clause-none : goal.returns-then-parts-ne2-clause-none
returns-then-parts-ne2-clause-none c = λ x y e.
    let k = part-count c.args.terms.now c.node-node.result.now (tree_at c.args.terms.now c.args.id) c.node-node.ensures.tree in
    c.if-parts-ne2.true (ap length c.as_slice-parts.ensures ∙ sym k ∙ ap (λ t. length (parts_of t)) e)
