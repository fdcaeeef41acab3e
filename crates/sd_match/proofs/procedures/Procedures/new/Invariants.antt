use Rattle.std.proofs.Common.{◌≡◌, ◌≤◌, length, drop}
use Rattle.sd_base.specs.FirstPlaces.{place_of}
use Rattle.sd_base.specs.Value.{Text}
use Rattle.sd_base.specs.Names.{place_from}
use Rattle.sd_match.specs.Places.{proc_names}
use Rattle.sd_match.proofs.procedures.Procedures.new.Given as goal

abbrev pub invariant-procs : goal.invariant-procs
invariant-procs l = record {
  within : l.place ≤ length l.procs;
  found : (f : Text) → place_of l.places f ≡ place_from l.place (proc_names (drop l.place l.procs)) f;
}

abbrev pub decreases-procs : goal.decreases-procs
decreases-procs l = l.place
