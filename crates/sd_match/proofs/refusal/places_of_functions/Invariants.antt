use Rattle.std.proofs.Common.{◌≡◌, ◌≤◌, length, drop}
use Rattle.sd_base.specs.FirstPlaces.{place_of}
use Rattle.sd_base.specs.Value.{Text}
use Rattle.sd_match.specs.Refusals.{function_from}
use Rattle.sd_match.proofs.refusal.places_of_functions.Given as goal

abbrev pub invariant-functions : goal.invariant-functions
invariant-functions l = record {
  within : l.place ≤ length l.functions;
  found : (f : Text) → place_of l.places f ≡ function_from l.constant l.place (drop l.place l.functions) f;
}

abbrev pub decreases-functions : goal.decreases-functions
decreases-functions l = l.place
