use Rattle.std.proofs.Common.{◌≡◌, ◌≤◌, length, drop}
use Rattle.sd_base.specs.FirstPlaces.{place_of}
use Rattle.sd_base.specs.Value.{Text}
use Rattle.sd_core.specs.Formed.{names_of}
use Rattle.sd_base.specs.Names.{place_from}
use Rattle.sd_match.proofs.shared.places_of.Given as goal

abbrev pub invariant-vars : goal.invariant-vars
invariant-vars l = record {
  within : l.place ≤ length l.vars;
  found : (f : Text) → place_of l.places f ≡ place_from l.place (names_of (drop l.place l.vars)) f;
}

abbrev pub decreases-vars : goal.decreases-vars
decreases-vars l = l.place
