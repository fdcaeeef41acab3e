use Rattle.std.proofs.Common.{codes}
use Rattle.sd_cert.proofs.NumberLemmas.{chain-pushed}
use Rattle.sd_cert.proofs.spelling.push_chain.Goals as goal

pub loop-link-preserved : goal.loop-link-preserved
loop-link-preserved c =
    chain-pushed c.args.text.now.items c.loop-link.text.items c.push_number-in-loop-link.new.text.items (codes "chain ") c.args.equality c.args.links.now c.loop-link.link-index c.loop-link-test.true (c.type_inv.links c.loop-link.link-index).fits c.in_ok-push_number-2.ensures c.loop-link.invariant
