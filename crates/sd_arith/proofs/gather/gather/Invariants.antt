use Rattle.std.proofs.Common.{take}
use Rattle.sd_kernel.specs.Facts.{trail_of}
use Rattle.sd_arith.specs.Gathered.{IsGathered, rows_of_terms}
use Rattle.sd_arith.proofs.gather.gather.Given as goal

abbrev pub invariant-loop-n : goal.invariant-loop-n
invariant-loop-n l = IsGathered l.terms (trail_of l.terms l.trail) (rows_of_terms l.terms (trail_of l.terms l.trail) (take l.n l.terms)) l.gathered
