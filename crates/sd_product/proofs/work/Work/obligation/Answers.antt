use Rattle.std.proofs.Common.{◌≡◌, sym, ap, subst}
use Rattle.std.specs.Prelude.{Some, slice_get}
use Rattle.std.specs.List.{AllByRecursion}
use Rattle.sd_base.proofs.Lists.{all-at}
use Rattle.sd_core.specs.Formed.{WellFormed}
use Rattle.sd_vcgen.specs.Body.{Context}
use Rattle.sd_product.specs.Query.{Claimed, Work}
use Rattle.sd_product.specs.Work.{claims_in, work_of}
use Rattle.sd_product.specs.Claims.{claims_of}
use Rattle.sd_product.specs.Fits.{FitsPair}
use Rattle.sd_product.proofs.PlaceLemmas.{claim_at}
use Rattle.sd_product.proofs.WorkLemmas.{well_formed, own_pairs}
use Rattle.sd_product.proofs.FitLemmas.{claims_fit}
use Rattle.sd_product.proofs.work.Work.obligation.Goals as goal

pub returns-clause-sorted : goal.returns-clause-sorted
returns-clause-sorted c =
    let w = c.self.inside in
    let h = c.args.self.now in
    let formed = well_formed w c.self.invariant h c.self.view_is in
    let own : Work = work_of h in
    let old : c.old_context.result.program.now ≡ h.old = ap (λ (C : Context). C.program) c.old_context.ensures.context in
    let new : c.new_context.result.program.now ≡ h.new = ap (λ (C : Context). C.program) c.new_context.ensures.context in
    let same : own ≡ record { old = c.old_context.result.program.now; new = c.new_context.result.program.now; claims = claims_of c.claims.result } = λ j. record { old = sym old j; new = sym new j; claims = sym c.claims.ensures.claims j } in
    let all : AllByRecursion (FitsPair own) own.claims = claims_fit h own formed.old_formed formed.new_formed in
    let x : Claimed = record { pair = c.pair.result.now; candidate = c.index-candidates_of-place.result } in
    let at : slice_get (claims_in h) c.args.candidate ≡ Some x = claim_at h c.args.candidate c.candidate_place-pair.result w.pairs c.pair.result.now c.candidates_of.result.now c.index-candidates_of-place.result c.candidate_place-pair.ensures (own_pairs w c.self.invariant h c.self.view_is) c.pair.ensures c.candidates_of.ensures c.index-candidates_of-place.is in
    record {
      old = subst (λ (k : Work). WellFormed k.old) same formed.old_formed;
      new = subst (λ (k : Work). WellFormed k.new) same formed.new_formed;
      claims = subst (λ (k : Work). AllByRecursion (FitsPair k) k.claims) same all;
      own = subst (λ (k : Work). FitsPair k x) same (all-at (FitsPair own) (claims_in h) c.args.candidate x all at);
    }
