use Rattle.std.proofs.Common.{◌≡◌, ◌<◌, ◌-◌, suc, length, arith}
use Rattle.sd_base.proofs.Places.{place_from-more}
use Rattle.sd_base.proofs.place.FirstPlaces.of_names.Goals as goal

pub names-preserved : goal.names-preserved
names-preserved c =
    let next : c.names.place ≡ suc (c.names.place - 1) = omega arith in
    let within : c.names.place - 1 < length c.args.names.now = omega arith in
    record {
      within = omega arith;
      found = λ x. place_from-more c.args.names.now (c.names.place - 1) c.names.place c.index-names-place.result x _ _ next within c.index-names-place.is (c.names.invariant.found x) (c.in_ok-enter.ensures x);
    }
