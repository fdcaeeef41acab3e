use Rattle.std.proofs.Common.{◌≡◌, ◌++◌, drop}
use Rattle.sd_match.specs.Pairs.{modified_globals}
use Rattle.sd_match.proofs.modified.modified_globals.Given as goal

abbrev pub invariant-shared : goal.invariant-shared
invariant-shared l = l.kept.items ++ modified_globals l.old l.new (drop l.place l.shared) ≡ modified_globals l.old l.new l.shared
