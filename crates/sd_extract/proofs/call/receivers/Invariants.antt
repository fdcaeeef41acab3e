use Rattle.std.proofs.Common.{◌≡◌, map, take}
use Rattle.sd_extract.specs.Extract.{spot_of}
use Rattle.sd_extract.specs.Scopes.{names_in}
use Rattle.sd_extract.proofs.call.receivers.Given as goal

abbrev pub invariant-loop-name : goal.invariant-loop-name
invariant-loop-name l = l.spots ≡ map (spot_of (names_in l.scope)) (take l.name-index l.names)
