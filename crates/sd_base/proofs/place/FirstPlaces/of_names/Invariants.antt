use Rattle.std.proofs.Common.{◌≡◌, ◌≤◌, length, drop}
use Rattle.sd_base.specs.Value.{Text}
use Rattle.sd_base.specs.Names.{place_from}
use Rattle.sd_base.specs.FirstPlaces.{place_of}
use Rattle.sd_base.proofs.place.FirstPlaces.of_names.Given as goal

abbrev pub invariant-names : goal.invariant-names
invariant-names l = record {
  within : l.place ≤ length l.names;
  found : (x : Text) → place_of l.table x ≡ place_from l.place (drop l.place l.names) x;
}

abbrev pub decreases-names : goal.decreases-names
decreases-names l = l.place
