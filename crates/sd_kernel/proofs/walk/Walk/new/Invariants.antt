use Rattle.std.proofs.Common.{◌≡◌, take, map, true}
use Rattle.sd_kernel.proofs.walk.Walk.new.Given as goal

abbrev pub invariant-loop-term : goal.invariant-loop-term
invariant-loop-term l = l.trail.items ≡ map (λ f. record { term = f; value = true }) (take l.term-index l.facts)
