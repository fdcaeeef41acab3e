use Rattle.std.proofs.Common.{◌≢◌, ℕ, ◌+◌, ◌<◌, ◌≤◌, get_or, None, length}
use Rattle.sd_kernel.specs.Known.{known_at}
use Rattle.sd_search.proofs.descent.reached_atom.Given as goal

abbrev pub invariant-loop-i : goal.invariant-loop-i
invariant-loop-i l = (k : ℕ) → length l.facts ≤ k + l.i → k < length l.facts → known_at l.values (get_or l.facts k 0) ≢ None
