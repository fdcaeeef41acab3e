use Rattle.std.proofs.Common.{◌+◌, subst, drop}
use Rattle.std.specs.Prelude.{map}
use Rattle.sd_vcgen.specs.Numbers.{site_at}
use Rattle.sd_product.specs.Query.{calls_related, with_each}
use Rattle.sd_product.specs.Claims.{claims_of}
use Rattle.sd_product.specs.Numbers.{Adds}
use Rattle.sd_product.proofs.Numbers.{adding_more}
use Rattle.sd_product.proofs.Sites.{site_stays, site_same, site_of_all}
use Rattle.sd_product.proofs.TableLemmas.{each_split}
use Rattle.sd_product.proofs.calls.put_with_each.Goals as goal

pub put_related-requires-clause-old : goal.put_related-requires-clause-old
put_related-requires-clause-old c = site_stays c.args.bank.now c.loop-new.bank c.args.old.now c.loop-new.invariant.kept c.requires.old

pub put_related-requires-clause-new : goal.put_related-requires-clause-new
put_related-requires-clause-new c =
    site_stays c.args.bank.now c.loop-new.bank c.new-item.result c.loop-new.invariant.kept (site_of_all c.args.bank.now c.args.news.now c.loop-new.new-index c.new-item.result c.requires.news c.loop-new-test.true c.new-item.is)

pub loop-new-preserved : goal.loop-new-preserved
loop-new-preserved c =
    let a = c.args.bank.now in
    let b = c.loop-new.bank in
    let d = c.put_related.new.bank in
    let i = c.loop-new.invariant in
    let index = c.loop-new.new-index in
    let all = c.args.news.now in
    let xs = claims_of c.args.claims.now in
    let table = c.args.table.now in
    let old = site_at a c.args.old.now in
    let x = c.new-item.result in
    let within = site_of_all a all index x c.requires.news c.loop-new-test.true c.new-item.is in
    let added = subst (Adds b c.loop-new.facts d c.put_related.new.facts) (λ j. calls_related table 0 xs (site_same a b c.args.old.now i.kept c.requires.old j) (site_same a b x i.kept within j)) c.in_ok-put_related.ensures in
    adding_more a c.args.facts.now b c.loop-new.facts d c.put_related.new.facts (calls_related table 0 xs old (site_at a x)) (with_each table xs old (map (site_at a) (drop index all))) (with_each table xs old (map (site_at a) (drop (index + 1) all))) (with_each table xs old (map (site_at a) all)) i added
    (each_split (site_at a) table xs old all index x c.loop-new-test.true c.new-item.is)
