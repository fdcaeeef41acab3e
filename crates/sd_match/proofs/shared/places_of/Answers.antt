use Rattle.std.proofs.Common.{◌≡◌, ◌∙◌, sym, ap, ◌<◌, ◌-◌, suc, length, arith}
use Rattle.std.specs.Prelude.{Some, if◌then◌else◌}
use Rattle.sd_base.specs.FirstPlaces.{place_of}
use Rattle.sd_base.specs.Value.{same_text}
use Rattle.sd_base.specs.declared.Var.{Var}
use Rattle.sd_base.proofs.Places.{place_from-more_of}
use Rattle.sd_match.proofs.shared.places_of.Goals as goal

pub vars-preserved : goal.vars-preserved
vars-preserved c =
    let next : c.vars.place ≡ suc (c.vars.place - 1) = omega arith in
    let within : c.vars.place - 1 < length c.args.vars.now = omega arith in
    record {
      within = omega arith;
      found = λ f. place_from-more_of (λ (x : Var). x.name) c.args.vars.now (c.vars.place - 1) c.vars.place c.index-vars-place.result f _ _ next within c.index-vars-place.is (c.vars.invariant.found f)
          (c.in_ok-enter.ensures f ∙ ap (λ (x : Var). if same_text x.name f then Some (c.vars.place - 1) else place_of c.vars.places f) (sym c.index-vars-place.is));
    }
