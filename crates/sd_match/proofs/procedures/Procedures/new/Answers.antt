use Rattle.std.proofs.Common.{◌≡◌, ◌∙◌, sym, ap, ◌<◌, ◌-◌, suc, length, arith}
use Rattle.std.specs.Prelude.{Some, if◌then◌else◌}
use Rattle.sd_base.specs.FirstPlaces.{place_of}
use Rattle.sd_base.specs.Value.{same_text}
use Rattle.sd_core.specs.declared.CoreProc.{CoreProc}
use Rattle.sd_base.proofs.Places.{place_from-more_of}
use Rattle.sd_match.proofs.procedures.Procedures.new.Goals as goal

pub procs-preserved : goal.procs-preserved
procs-preserved c =
    let next : c.procs.place ≡ suc (c.procs.place - 1) = omega arith in
    let within : c.procs.place - 1 < length c.args.procs.now = omega arith in
    record {
      within = omega arith;
      found = λ f. place_from-more_of (λ (x : CoreProc). x.name) c.args.procs.now (c.procs.place - 1) c.procs.place c.index-procs-place.result f _ _ next within c.index-procs-place.is (c.procs.invariant.found f)
          (c.in_ok-enter.ensures f ∙ ap (λ (x : CoreProc). if same_text x.name f then Some (c.procs.place - 1) else place_of c.procs.places f) (sym c.index-procs-place.is));
    }
