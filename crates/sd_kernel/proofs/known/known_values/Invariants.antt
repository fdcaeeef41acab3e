use Rattle.std.proofs.Common.{◌≡◌, map, take}
use Rattle.sd_kernel.specs.Known.{known}
use Rattle.sd_kernel.specs.Facts.{trail_of}
use Rattle.sd_kernel.proofs.known.known_values.Given as goal

abbrev pub invariant-loop-i : goal.invariant-loop-i
invariant-loop-i l = l.values ≡ map (λ t. known (trail_of l.terms l.trail) t) (take l.i l.terms)
