use Rattle.std.proofs.Common.{◌≡◌, ◌++◌, ◌≤◌, length, drop}
use Rattle.sd_cand.specs.Candidates.{equal_from}
use Rattle.sd_cand.proofs.generate.equal_places.Given as goal

abbrev pub invariant-places : goal.invariant-places
invariant-places l = record {
  reached : l.place ≤ length l.places;
  left : l.relations ++ equal_from l.place (drop l.place l.places) ≡ equal_from 0 l.places;
}
