use Rattle.std.proofs.Common.{ap, sym, ◌∙◌, length}
use Rattle.std.proofs.lemmas.Bool.{iff_false}
use Rattle.sd_term.specs.Heads.{Ite}
use Rattle.sd_term.specs.Bank.{tree_at}
use Rattle.sd_euf.proofs.Shapes.{other-head, part-count, ite-is, ite-count}
use Rattle.sd_kernel.proofs.Lookups.{sorted-at}
use Rattle.sd_euf.proofs.choices.choice_of.Goals as goal

pub returns-then-not-is_op-clause-none : goal.returns-then-not-is_op-clause-none
returns-then-not-is_op-clause-none c = λ w.
    other-head c.args.terms.now c.node-node.result.now (tree_at c.args.terms.now c.args.id) Ite c.node-node.ensures.tree (iff_false c.is_op.ensures c.if-not-is_op.true) (ite-is (tree_at c.args.terms.now c.args.id) w.0)

pub returns-then-parts-ne3-clause-none : goal.returns-then-parts-ne3-clause-none
returns-then-parts-ne3-clause-none c = λ w.
    let k = part-count c.args.terms.now c.node-node.result.now (tree_at c.args.terms.now c.args.id) c.node-node.ensures.tree in
    let n = ite-count (tree_at c.args.terms.now c.args.id) (sorted-at c.args.terms.now c.args.id c.requires.sorted c.requires.id) w.0 in
    c.if-parts-ne3.true (ap length c.as_slice-parts.ensures ∙ sym k ∙ n)
