use Rattle.std.proofs.Common.{◌≢◌, ℕ, ◌<◌, ◌≤◌, get_or, None}
use Rattle.sd_kernel.specs.Known.{known_at}
use Rattle.sd_search.proofs.descent.open_part.Given as goal

abbrev pub invariant-loop-place : goal.invariant-loop-place
invariant-loop-place l = (k : ℕ) → l.first ≤ k → k < l.place → known_at l.values (get_or l.parts k 0) ≢ None
