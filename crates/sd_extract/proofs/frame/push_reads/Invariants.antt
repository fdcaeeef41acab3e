use Rattle.std.proofs.Common.{◌≡◌, ◌++◌, map, take}
use Rattle.sd_core.specs.declared.CoreExpr.{At}
use Rattle.sd_extract.proofs.frame.push_reads.Given as goal

abbrev pub invariant-loop-spot : goal.invariant-loop-spot
invariant-loop-spot l = l.out ≡ l.initial.out ++ map At (take l.spot-index l.spots)
