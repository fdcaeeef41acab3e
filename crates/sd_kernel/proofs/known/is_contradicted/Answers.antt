use Rattle.std.proofs.Common.{◌||◌, sym, ap, ◌∙◌, not, take, Option, Bool}
use Rattle.sd_term.specs.Bank.{tree_at}
use Rattle.sd_kernel.specs.Facts.{trail_of}
use Rattle.sd_kernel.specs.Known.{has_fact, is_known}
use Rattle.sd_kernel.proofs.Tables.{value-known-by-parts}
use Rattle.sd_kernel.proofs.known.is_contradicted.Goals as goal

pub returns-then-is_opposite : goal.returns-then-is_opposite
returns-then-is_opposite c =
    let e = value-known-by-parts (trail_of c.args.terms.now c.args.trail.now) c.args.terms.now c.as_slice.result.now c.args.id c.node-node.result.now (c.as_slice.ensures ∙ c.in_ok-values.ensures) c.requires.id
    c.node-node.ensures.parts c.node-node.ensures.tree c.value_by_parts-by_parts.result c.value_by_parts-by_parts.ensures in
    ap (λ k. k || has_fact (take c.args.count (trail_of c.args.terms.now c.args.trail.now)) (tree_at c.args.terms.now c.args.id) (not c.args.value))
    (sym c.if-is_opposite.true ∙ c.is_opposite.ensures ∙ ap (λ (k : Option Bool). is_known k (not c.args.value)) e)

pub returns : goal.returns
returns c =
    let e = value-known-by-parts (trail_of c.args.terms.now c.args.trail.now) c.args.terms.now c.as_slice.result.now c.args.id c.node-node.result.now (c.as_slice.ensures ∙ c.in_ok-values.ensures) c.requires.id
    c.node-node.ensures.parts c.node-node.ensures.tree c.value_by_parts-by_parts.result c.value_by_parts-by_parts.ensures in
    c.has_value.ensures ∙ ap (λ k. k || has_fact (take c.args.count (trail_of c.args.terms.now c.args.trail.now)) (tree_at c.args.terms.now c.args.id) (not c.args.value))
    (sym c.if-is_opposite.false ∙ c.is_opposite.ensures ∙ ap (λ (k : Option Bool). is_known k (not c.args.value)) e)
