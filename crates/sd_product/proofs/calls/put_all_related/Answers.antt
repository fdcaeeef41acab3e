use Rattle.std.proofs.Common.{◌+◌, subst, drop}
use Rattle.std.specs.Prelude.{map}
use Rattle.sd_vcgen.specs.Numbers.{site_at}
use Rattle.sd_product.specs.Query.{with_each, all_related}
use Rattle.sd_product.specs.Claims.{claims_of}
use Rattle.sd_product.specs.Numbers.{Adds}
use Rattle.sd_product.proofs.Numbers.{adding_more}
use Rattle.sd_product.proofs.Sites.{site_stays, site_same, sites_stay, sites_same, site_of_all}
use Rattle.sd_product.proofs.TableLemmas.{all_split}
use Rattle.sd_product.proofs.calls.put_all_related.Goals as goal

pub put_with_each-requires-clause-old : goal.put_with_each-requires-clause-old
put_with_each-requires-clause-old c =
    site_stays c.args.bank.now c.loop-old.bank c.old-item.result c.loop-old.invariant.kept (site_of_all c.args.bank.now c.args.olds.now c.loop-old.old-index c.old-item.result c.requires.olds c.loop-old-test.true c.old-item.is)

pub put_with_each-requires-clause-news : goal.put_with_each-requires-clause-news
put_with_each-requires-clause-news c = sites_stay c.args.bank.now c.loop-old.bank c.args.news.now c.loop-old.invariant.kept c.requires.news

pub loop-old-preserved : goal.loop-old-preserved
loop-old-preserved c =
    let a = c.args.bank.now in
    let b = c.loop-old.bank in
    let d = c.put_with_each.new.bank in
    let i = c.loop-old.invariant in
    let index = c.loop-old.old-index in
    let all = c.args.olds.now in
    let news = map (site_at a) c.args.news.now in
    let xs = claims_of c.args.claims.now in
    let table = c.args.table.now in
    let x = c.old-item.result in
    let within = site_of_all a all index x c.requires.olds c.loop-old-test.true c.old-item.is in
    let added = subst (Adds b c.loop-old.facts d c.put_with_each.new.facts) (λ j. with_each table xs (site_same a b x i.kept within j) (sites_same a b c.args.news.now i.kept c.requires.news j)) c.in_ok-put_with_each.ensures in
    adding_more a c.args.facts.now b c.loop-old.facts d c.put_with_each.new.facts (with_each table xs (site_at a x) news) (all_related table xs (map (site_at a) (drop index all)) news) (all_related table xs (map (site_at a) (drop (index + 1) all)) news) (all_related table xs (map (site_at a) all) news) i added
    (all_split (site_at a) table xs all news index x c.loop-old-test.true c.old-item.is)
