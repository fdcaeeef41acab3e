use Rattle.std.proofs.Common.{drop}
use Rattle.sd_kernel.specs.Facts.{trail_of}
use Rattle.sd_arith.specs.Places.{HasPlaces}
use Rattle.sd_arith.proofs.places.first_places.Given as goal

abbrev pub invariant-loop-k : goal.invariant-loop-k
invariant-loop-k l = HasPlaces l.terms l.k (trail_of l.terms (drop l.k l.trail)) l.places
