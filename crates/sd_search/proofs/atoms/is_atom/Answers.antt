use Rattle.std.proofs.Common.{sym, ap, ◌∙◌, not, ◌&&◌, is_some, []}
use Rattle.sd_term.specs.Tree.{head_of}
use Rattle.sd_term.specs.Sorts.{sorts_of, sort_by}
use Rattle.sd_term.proofs.Folds.{head_of-node, at_parts-node}
use Rattle.sd_kernel.specs.Known.{by_parts}
use Rattle.sd_search.proofs.atoms.is_atom.Goals as goal

pub returns-then-is_truth_valued : goal.returns-then-is_truth_valued
returns-then-is_truth_valued c =
    let terms = c.args.terms.now in
    let node = c.node.result.now in
    let head = ap head_of (sym c.node.ensures.tree) ∙ head_of-node terms node in
    let sorts = ap sorts_of (sym c.node.ensures.tree) ∙ at_parts-node (λ u ss. sort_by (head_of u) ss) terms node in
    let truth = sym c.if-is_truth_valued.true ∙ c.is_truth_valued.ensures in
    ap not c.is_judged.ensures
    ∙ (λ i. truth i && not (is_some (by_parts (sym head i) (sym sorts i) [])))
