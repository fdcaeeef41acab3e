use Rattle.std.proofs.Common.{◌≡◌, map, take}
use Rattle.sd_match.specs.Pairs.{partner}
use Rattle.sd_match.proofs.partners.partners_of.Given as goal

abbrev pub invariant-procs : goal.invariant-procs
invariant-procs l = l.partners.items ≡ map (partner l.old l.new) (take l.place l.old.procs)
