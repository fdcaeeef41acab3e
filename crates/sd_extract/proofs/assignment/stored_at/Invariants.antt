use Rattle.std.proofs.Common.{◌≡◌, ◌≤◌, length, take, drop}
use Rattle.sd_extract.specs.Names.{at_place, place_of}
use Rattle.sd_extract.specs.Extract.{stored, cores}
use Rattle.sd_extract.specs.Scopes.{names_in, reads}
use Rattle.sd_extract.proofs.assignment.stored_at.Given as goal

abbrev pub invariant-indices : goal.invariant-indices
invariant-indices l = record {
  within : l.place ≤ length l.left.indices;
  e : l.e ≡ stored (reads (at_place (place_of (names_in l.scope) l.left.name) l.left.name) (cores (names_in l.scope) (take l.place l.left.indices))) (cores (names_in l.scope) (drop l.place l.left.indices)) l.fn.new;
}

abbrev pub decreases-indices : goal.decreases-indices
decreases-indices l = l.place
