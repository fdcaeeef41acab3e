use Rattle.std.proofs.Common.{sym, ◌∙◌, Some, None, arith}
use Rattle.sd_kernel.proofs.Tables.{value-known}
use Rattle.sd_kernel.proofs.known.known_value.Goals as goal

pub returns-in-Some : goal.returns-in-Some
returns-in-Some c = λ trail h values.
    value-known trail c.args.terms.now c.args.values.now c.args.id c.node-node.result.now values (omega (arith, c.requires.id)) c.node-node.ensures.parts c.node-node.ensures.tree (Some c.in-Some.value) (sym c.in-Some.is ∙ c.value_by_parts.ensures)

pub returns-in-None : goal.returns-in-None
returns-in-None c = λ trail h values.
    c.value_of.ensures ∙ h.exact c.args.id c.requires.id
    ∙ value-known trail c.args.terms.now c.args.values.now c.args.id c.node-node.result.now values (omega (arith, c.requires.id)) c.node-node.ensures.parts c.node-node.ensures.tree None (sym c.in-None.is ∙ c.value_by_parts.ensures)
