-- The header of one pair more.
use Rattle.std.proofs.Common.{◌≡◌, ◌<◌, List, length, ap, subst, arith}
use Rattle.std.specs.Prelude.{Some, slice_get}
use Rattle.sd_match.specs.declared.pair.Pair.{Pair}
use Rattle.sd_product.specs.Work.{pairs_in}
use Rattle.sd_cert.proofs.HeaderLemmas.{header-made, header-pushed}
use Rattle.sd_cert.proofs.header.headers_of.Goals as goal

pub loop-i-preserved : goal.loop-i-preserved
loop-i-preserved c =
    let pairs : List Pair = pairs_in c.args.work.now in
    let within : c.loop-i.i < length pairs = omega (arith, ap length c.pairs-pairs.ensures, c.len-i-end.ensures, c.loop-i-test.true) in
    let found : slice_get pairs c.loop-i.i ≡ Some c.pair.result.now = subst (λ (ps : List Pair). slice_get ps c.loop-i.i ≡ Some c.pair.result.now) c.pairs-pairs.ensures c.pair.ensures in
    header-pushed c.args.work.now pairs c.loop-i.i c.pair.result.now c.loop-i.headers.items c.push.new.self.items _ within found
    (header-made c.args.work.now c.loop-i.i c.pair.result.now c.state_of.result c.numbers_of-first.result.0 c.numbers_of-first.result.1 found within c.state_of.ensures c.numbers_of-first.ensures.first c.numbers_of-first.ensures.end)
    c.loop-i.invariant c.in_ok-push.ensures.items
