use Rattle.std.proofs.Common.{◌≢◌, ℕ, ◌<◌, get_or, Some, false}
use Rattle.sd_kernel.specs.Known.{known_at}
use Rattle.sd_search.proofs.descent.false_fact.Given as goal

abbrev pub invariant-loop-i : goal.invariant-loop-i
invariant-loop-i l = (k : ℕ) → k < l.i → known_at l.values (get_or l.facts k 0) ≢ Some false
