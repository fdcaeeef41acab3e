use Rattle.std.proofs.Common.{◌≡◌, ◌+◌, ◌-◌, ◌<◌, length, arith}
use Rattle.sd_extract.specs.Places.{is_procedure_named, is_implementation_named}
use Rattle.sd_extract.proofs.CodeNames.{position_more}
use Rattle.sd_extract.proofs.routines.Routines.new.Goals as goal

pub decls-preserved : goal.decls-preserved
decls-preserved c =
    let next : c.decls.place ≡ (c.decls.place - 1) + 1 = omega arith in
    let within : c.decls.place - 1 < length c.as_slice-decls.result.now = omega arith in
    record {
      within = omega arith;
      procedures = λ f. position_more (is_procedure_named f) c.as_slice-decls.result.now _ _ _ _ _ next within c.index-decls-place.is (c.decls.invariant.procedures f) (c.in_ok-enter.ensures.procedures f);
      implementations = λ f. position_more (is_implementation_named f) c.as_slice-decls.result.now _ _ _ _ _ next within c.index-decls-place.is (c.decls.invariant.implementations f) (c.in_ok-enter.ensures.implementations f);
    }
