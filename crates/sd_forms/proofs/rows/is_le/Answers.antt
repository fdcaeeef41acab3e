use Rattle.std.proofs.Common.{◌∙◌, ap}
use Rattle.sd_term.specs.Heads.{Le}
use Rattle.sd_term.specs.Bank.{tree_at}
use Rattle.sd_term.specs.declared.node.Head.TheVariants.{Op as Plain}
use Rattle.sd_forms.proofs.TwoParts.{le-node, le-op, le-other}
use Rattle.sd_forms.proofs.rows.is_le.Goals as goal

pub returns-in-Le : goal.returns-in-Le
returns-in-Le c = le-node c.args.terms.now c.node.result.now (tree_at c.args.terms.now c.args.id) Le c.node.ensures.tree (c.in-Op.is ∙ ap Plain c.in-Le.is)

pub returns-in_default-op : goal.returns-in_default-op
returns-in_default-op c = le-op c.in-Op.op c.in_default-op.not-Le ∙ le-node c.args.terms.now c.node.result.now (tree_at c.args.terms.now c.args.id) (Plain c.in-Op.op) c.node.ensures.tree c.in-Op.is

pub returns-in_default : goal.returns-in_default
returns-in_default c =
    le-other c.node.result.now.head c.in_default.not-Op ∙ le-node c.args.terms.now c.node.result.now (tree_at c.args.terms.now c.args.id) c.node.result.now.head c.node.ensures.tree (λ i. c.node.result.now.head)
