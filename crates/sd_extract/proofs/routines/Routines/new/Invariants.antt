use Rattle.std.proofs.Common.{◌≡◌, ◌≤◌, length, drop}
use Rattle.std.specs.List.{position_from}
use Rattle.sd_base.specs.FirstPlaces.{place_of}
use Rattle.sd_base.specs.Value.{Text}
use Rattle.sd_extract.specs.Places.{is_procedure_named, is_implementation_named}
use Rattle.sd_extract.proofs.routines.Routines.new.Given as goal

abbrev pub invariant-decls : goal.invariant-decls
invariant-decls l = record {
  within : l.place ≤ length l.decls;
  procedures : (f : Text) → place_of l.procedures f ≡ position_from (is_procedure_named f) l.place (drop l.place l.decls);
  implementations : (f : Text) → place_of l.implementations f ≡ position_from (is_implementation_named f) l.place (drop l.place l.decls);
}

abbrev pub decreases-decls : goal.decreases-decls
decreases-decls l = l.place
