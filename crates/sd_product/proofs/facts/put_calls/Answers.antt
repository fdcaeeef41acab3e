use Rattle.std.proofs.Common.{subst, sym}
use Rattle.std.specs.Prelude.{All, map}
use Rattle.sd_vcgen.specs.Numbers.{IsSiteWithin, site_at}
use Rattle.sd_product.specs.Query.{all_related}
use Rattle.sd_product.specs.Claims.{claims_of}
use Rattle.sd_product.specs.Numbers.{Adds}
use Rattle.sd_product.proofs.Sites.{sites_within}
use Rattle.sd_product.proofs.facts.put_calls.Goals as goal

pub put_all_related-requires-clause-olds : goal.put_all_related-requires-clause-olds
put_all_related-requires-clause-olds c =
    let a = c.args.bank.now in
    subst (All (IsSiteWithin a)) (sym c.as_slice.ensures) (sites_within a c.args.old.now.body.sites _ c.requires.old.sites)

pub put_all_related-requires-clause-news : goal.put_all_related-requires-clause-news
put_all_related-requires-clause-news c =
    let a = c.args.bank.now in
    subst (All (IsSiteWithin a)) (sym c.as_slice-2.ensures) (sites_within a c.args.new.now.body.sites _ c.requires.new.sites)

pub returns : goal.returns
returns c =
    let a = c.args.bank.now in
    subst (Adds a c.args.facts.now c.put_all_related.new.bank c.put_all_related.new.facts) (λ i. all_related c.args.obligation.now.table.now (claims_of c.args.obligation.now.claims) (map (site_at a) (c.as_slice.ensures i)) (map (site_at a) (c.as_slice-2.ensures i))) c.in_ok-put_all_related.ensures
