use Rattle.std.proofs.Common.{◌≡◌, ◌≤◌, length, drop}
use Rattle.sd_base.specs.FirstPlaces.{place_of}
use Rattle.sd_base.specs.Value.{Text}
use Rattle.sd_match.specs.Pairs.{root_from}
use Rattle.sd_match.proofs.partners.roots_of.Given as goal

abbrev pub invariant-procs : goal.invariant-procs
invariant-procs l = record {
  within : l.place ≤ length l.procs;
  found : (f : Text) → place_of l.places f ≡ root_from l.place (drop l.place l.procs) f;
}

abbrev pub decreases-procs : goal.decreases-procs
decreases-procs l = l.place
