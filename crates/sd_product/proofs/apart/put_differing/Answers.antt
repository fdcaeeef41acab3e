use Rattle.std.proofs.Common.{◌+◌, drop, subst}
use Rattle.std.specs.Prelude.{map}
use Rattle.sd_term.specs.Bank.{tree_at}
use Rattle.sd_vcgen.proofs.Numbers.{below_later}
use Rattle.sd_product.specs.Unique.{differ_two, differ_from}
use Rattle.sd_product.specs.Numbers.{Adds}
use Rattle.sd_product.proofs.Numbers.{adding_more, item_within}
use Rattle.sd_product.proofs.Constants.{from_split}
use Rattle.sd_product.proofs.apart.put_differing.Goals as goal

pub put_if_differing-requires-clause-facts : goal.put_if_differing-requires-clause-facts
put_if_differing-requires-clause-facts c = c.loop-i.invariant.within

pub put_if_differing-requires-clause-left : goal.put_if_differing-requires-clause-left
put_if_differing-requires-clause-left c = below_later c.args.bank.now c.loop-i.bank c.args.first c.loop-i.invariant.kept c.requires.first

pub put_if_differing-requires-clause-right : goal.put_if_differing-requires-clause-right
put_if_differing-requires-clause-right c = below_later c.args.bank.now c.loop-i.bank c.index-others-i.result c.loop-i.invariant.kept (item_within c.args.bank.now c.args.others.now c.loop-i.i c.index-others-i.result c.requires.others c.loop-i-test.true c.index-others-i.is)

pub loop-i-preserved : goal.loop-i-preserved
loop-i-preserved c =
    let a = c.args.bank.now in
    let b = c.loop-i.bank in
    let d = c.put_if_differing.new.bank in
    let v = c.loop-i.invariant in
    let i = c.loop-i.i in
    let all = c.args.others.now in
    let x = c.index-others-i.result in
    let first = tree_at a c.args.first in
    let within = item_within a all i x c.requires.others c.loop-i-test.true c.index-others-i.is in
    let added = subst (Adds b c.loop-i.facts d c.put_if_differing.new.facts) (λ j. differ_two (v.kept.kept c.args.first c.requires.first j) (v.kept.kept x within j)) c.in_ok-put_if_differing.ensures in
    adding_more a c.args.facts.now b c.loop-i.facts d c.put_if_differing.new.facts (differ_two first (tree_at a x)) (differ_from first (map (tree_at a) (drop i all))) (differ_from first (map (tree_at a) (drop (i + 1) all))) (differ_from first (map (tree_at a) (drop c.args.start all))) v added
    (from_split (tree_at a) first all i x c.loop-i-test.true c.index-others-i.is)
