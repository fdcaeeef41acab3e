use Rattle.std.proofs.Common.{length}
use Rattle.sd_core.specs.Becomes.{BecomesSpot}
use Rattle.sd_core.proofs.Zips.{Left}
use Rattle.sd_core.proofs.same.are_same_spots.Given as goal

abbrev pub invariant-loop-p : goal.invariant-loop-p
invariant-loop-p l = Left (BecomesSpot l.globals) l.a l.b (length l.yielded)
