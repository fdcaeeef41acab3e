use Rattle.std.proofs.Common.{length}
use Rattle.sd_term.specs.Bank.{tree_at}
use Rattle.sd_kernel.proofs.NodeTests.{part-bound, part-tree, part-below}
use Rattle.sd_kernel.proofs.nodes.part.Goals as goal

pub part_at-requires : goal.part_at-requires
part_at-requires c = part-bound c.args.terms.now c.node.result.now (tree_at c.args.terms.now c.args.id) c.node.ensures.tree c.as_slice.result.now c.args.place c.as_slice.ensures c.requires.place

pub returns-clause-below : goal.returns-clause-below
returns-clause-below c =
    part-below c.args.terms.now c.node.result.now (tree_at c.args.terms.now c.args.id) c.node.ensures.tree c.args.id (length c.args.terms.now) c.as_slice.result.now c.args.place c.part_at.result c.node.ensures.parts c.requires.id c.as_slice.ensures
    (part-bound c.args.terms.now c.node.result.now (tree_at c.args.terms.now c.args.id) c.node.ensures.tree c.as_slice.result.now c.args.place c.as_slice.ensures c.requires.place) c.part_at.ensures

pub returns-clause-tree : goal.returns-clause-tree
returns-clause-tree c =
    part-tree c.args.terms.now c.node.result.now (tree_at c.args.terms.now c.args.id) c.node.ensures.tree c.as_slice.result.now c.args.place c.part_at.result c.as_slice.ensures
    (part-bound c.args.terms.now c.node.result.now (tree_at c.args.terms.now c.args.id) c.node.ensures.tree c.as_slice.result.now c.args.place c.as_slice.ensures c.requires.place) c.part_at.ensures
