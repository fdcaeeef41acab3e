use Rattle.std.proofs.Common.{◌≡◌, ◌+◌, drop, subst}
use Rattle.std.specs.Prelude.{map}
use Rattle.sd_term.specs.Bank.{tree_at}
use Rattle.sd_vcgen.proofs.Numbers.{below_later, all_later, trees_later}
use Rattle.sd_product.specs.Unique.{differ_from, differ}
use Rattle.sd_product.specs.Numbers.{Adds}
use Rattle.sd_product.proofs.Numbers.{adding_more, item_within, rest_within}
use Rattle.sd_product.proofs.Constants.{differ_split}
use Rattle.sd_product.proofs.apart.put_all_differing.Goals as goal

pub put_differing-requires-clause-facts : goal.put_differing-requires-clause-facts
put_differing-requires-clause-facts c = c.loop-i.invariant.within

pub put_differing-requires-clause-first : goal.put_differing-requires-clause-first
put_differing-requires-clause-first c = below_later c.args.bank.now c.loop-i.bank c.index-ids-i.result c.loop-i.invariant.kept (item_within c.args.bank.now c.args.ids.now c.loop-i.i c.index-ids-i.result c.requires.ids c.loop-i-test.true c.index-ids-i.is)

pub put_differing-requires-clause-others : goal.put_differing-requires-clause-others
put_differing-requires-clause-others c = all_later c.args.bank.now c.loop-i.bank c.args.ids.now c.loop-i.invariant.kept c.requires.ids

pub loop-i-preserved : goal.loop-i-preserved
loop-i-preserved c =
    let a = c.args.bank.now in
    let b = c.loop-i.bank in
    let d = c.put_differing.new.bank in
    let v = c.loop-i.invariant in
    let i = c.loop-i.i in
    let all = c.args.ids.now in
    let x = c.index-ids-i.result in
    let within = item_within a all i x c.requires.ids c.loop-i-test.true c.index-ids-i.is in
    let rest = drop (i + 1) all in
    let others : map (tree_at b) rest ≡ map (tree_at a) rest = trees_later a b rest v.kept (rest_within a all (i + 1) c.requires.ids) in
    let added = subst (Adds b c.loop-i.facts d c.put_differing.new.facts) (λ j. differ_from (v.kept.kept x within j) (others j)) c.in_ok-put_differing.ensures in
    adding_more a c.args.facts.now b c.loop-i.facts d c.put_differing.new.facts (differ_from (tree_at a x) (map (tree_at a) rest)) (differ (map (tree_at a) (drop i all))) (differ (map (tree_at a) rest)) (differ (map (tree_at a) all)) v added
    (differ_split (tree_at a) all i x c.loop-i-test.true c.index-ids-i.is)
