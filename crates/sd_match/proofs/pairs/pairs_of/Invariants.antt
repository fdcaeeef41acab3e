use Rattle.std.proofs.Common.{◌≡◌, ◌++◌, drop}
use Rattle.sd_match.specs.Pairs.{pairs_from, pairs_of}
use Rattle.sd_match.proofs.pairs.pairs_of.Given as goal

abbrev pub invariant-procs : goal.invariant-procs
invariant-procs l = l.pairs ++ pairs_from l.old l.new l.place (drop l.place l.old.procs) ≡ pairs_of l.old l.new
