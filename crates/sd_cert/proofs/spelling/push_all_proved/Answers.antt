use Rattle.sd_cert.specs.Certificates.{proved_lines}
use Rattle.sd_cert.proofs.SpellLemmas.{item-pushed}
use Rattle.sd_cert.proofs.spelling.push_all_proved.Goals as goal

pub loop-proved-preserved : goal.loop-proved-preserved
loop-proved-preserved c =
    item-pushed proved_lines c.args.text.now.items c.loop-proved.text.items c.push_proved.new.text.items c.args.all.now c.loop-proved.proved-index c.proved-item.result c.loop-proved-test.true c.proved-item.is c.loop-proved.invariant c.in_ok-push_proved.ensures
