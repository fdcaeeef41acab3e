use Rattle.std.proofs.Common.{sym, ◌∙◌}
use Rattle.sd_term.specs.Bank.{tree_at}
use Rattle.sd_kernel.proofs.NodeTests.{same-test}
use Rattle.sd_kernel.proofs.ChainSteps.{link-end}
use Rattle.sd_kernel.proofs.chain.leads.Goals as goal

pub returns : goal.returns
returns c =
    same-test (tree_at c.args.terms.now c.loop-link.side) (tree_at c.args.terms.now c.args.last) c.same_term.result c.same_term.ensures
    ∙ sym (link-end c.args.terms.now c.args.links.now c.loop-link.link-index (tree_at c.args.terms.now c.loop-link.side) (tree_at c.args.terms.now c.args.last) c.loop-link-test.false)
    ∙ c.loop-link.invariant.rest
