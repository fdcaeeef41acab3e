use Rattle.std.proofs.Common.{◌≡◌, drop}
use Rattle.sd_extract.specs.Names.{at_place, place_of}
use Rattle.sd_extract.specs.Extract.{cores}
use Rattle.sd_extract.specs.Scopes.{names_in, reads}
use Rattle.sd_extract.proofs.assignment.read_at.Given as goal

abbrev pub invariant-loop-index : goal.invariant-loop-index
invariant-loop-index l =
    reads l.e (cores (names_in l.scope) (drop l.index-index l.indices)) ≡ reads (at_place (place_of (names_in l.scope) l.name) l.name) (cores (names_in l.scope) l.indices)
