use Rattle.std.proofs.Common.{◌≡◌, take}
use Rattle.sd_search.proofs.leaf.cube_of.Given as goal

abbrev pub invariant-loop-node : goal.invariant-loop-node
invariant-loop-node l = l.copies ≡ take l.node-index l.extra
