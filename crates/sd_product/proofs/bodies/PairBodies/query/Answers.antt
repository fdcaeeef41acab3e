use Rattle.std.proofs.Common.{◌≡◌, ◌∙◌, ap, sym}
use Rattle.std.specs.Prelude.{slice_get}
use Rattle.std.proofs.lemmas.Option.{same_Some}
use Rattle.sd_product.specs.Query.{Claimed}
use Rattle.sd_product.specs.Work.{PairedPrograms, claims_in, pairs_in}
use Rattle.sd_product.specs.Obligations.{candidate_in}
use Rattle.sd_product.proofs.BodyLemmas.{sides_for}
use Rattle.sd_product.proofs.bodies.PairBodies.query.Goals as goal

pub put_query-requires-clause-sides : goal.put_query-requires-clause-sides
put_query-requires-clause-sides c =
    let b = c.self.inside in
    let i = c.self.invariant in
    let h = b.work.now in
    let about = c.requires.about in
    let q = c.obligation-obligation.result in
    let same : h ≡ c.args.self.now.work = ap (λ v. v.work) c.self.view_is in
    let place : b.pair ≡ c.args.self.now.pair = ap (λ v. v.pair) c.self.view_is in
    let claim : about.claimed ≡ candidate_in q = same_Some about.claimed (candidate_in q) (sym about.claim_is ∙ ap (λ (k : PairedPrograms). slice_get (claims_in k) c.args.candidate) (sym same) ∙ c.obligation-obligation.ensures.candidate) in
    let here : i.own ≡ about.claimed.pair = same_Some i.own about.claimed.pair (sym i.own_is ∙ (λ j. slice_get (pairs_in (same j)) (place j)) ∙ about.pair_is) in
    let own : i.own ≡ q.pair.now = here ∙ ap (λ (x : Claimed). x.pair) claim in
    sides_for h q b.bank b.sides i.own c.obligation-obligation.ensures.work c.obligation-obligation.ensures.infallibles own i.sides
