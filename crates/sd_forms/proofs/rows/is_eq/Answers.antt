use Rattle.std.proofs.Common.{◌∙◌, ap}
use Rattle.sd_term.specs.Heads.{Eq}
use Rattle.sd_term.specs.Bank.{tree_at}
use Rattle.sd_term.specs.declared.node.Head.TheVariants.{Op as Plain}
use Rattle.sd_forms.proofs.TwoParts.{eq-node, eq-op, eq-other}
use Rattle.sd_forms.proofs.rows.is_eq.Goals as goal

pub returns-in-Eq : goal.returns-in-Eq
returns-in-Eq c = eq-node c.args.terms.now c.node.result.now (tree_at c.args.terms.now c.args.id) Eq c.node.ensures.tree (c.in-Op.is ∙ ap Plain c.in-Eq.is)

pub returns-in_default-op : goal.returns-in_default-op
returns-in_default-op c = eq-op c.in-Op.op c.in_default-op.not-Eq ∙ eq-node c.args.terms.now c.node.result.now (tree_at c.args.terms.now c.args.id) (Plain c.in-Op.op) c.node.ensures.tree c.in-Op.is

pub returns-in_default : goal.returns-in_default
returns-in_default c =
    eq-other c.node.result.now.head c.in_default.not-Op ∙ eq-node c.args.terms.now c.node.result.now (tree_at c.args.terms.now c.args.id) c.node.result.now.head c.node.ensures.tree (λ i. c.node.result.now.head)
