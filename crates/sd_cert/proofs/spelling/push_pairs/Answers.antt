use Rattle.sd_cert.proofs.SpellLemmas.{pairs-pushed}
use Rattle.sd_cert.proofs.spelling.push_pairs.Goals as goal

pub loop-i-preserved : goal.loop-i-preserved
loop-i-preserved c =
    pairs-pushed c.args.text.now.items c.loop-i.text.items c.push_line.new.text.items c.push_all_proved.new.text.items c.args.pairs.now c.loop-i.i c.index-pairs-i.result c.as_slice.result.now c.loop-i-test.true c.index-pairs-i.is c.as_slice.ensures c.loop-i.invariant c.in_ok-push_line.ensures c.in_ok-push_all_proved.ensures
