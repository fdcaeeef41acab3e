use Rattle.std.proofs.Common.{◌≡◌, ◌++◌, drop}
use Rattle.sd_match.specs.Pairs.{shared_pairs}
use Rattle.sd_match.proofs.spots.put_shared.Given as goal

abbrev pub invariant-shared : goal.invariant-shared
invariant-shared l = l.pairs ++ shared_pairs l.globals (drop l.place l.shared) ≡ l.fn.pairs ++ shared_pairs l.globals l.shared
