use Rattle.std.proofs.Common.{arith}
use Rattle.sd_euf.specs.Judged.{OrderHolds}
use Rattle.sd_euf.proofs.Loops.{all-hold, so-far-more, so-far-none}
use Rattle.sd_euf.proofs.orders.judged_orders.Goals as goal

pub loop-i-preserved-in-Holds : goal.loop-i-preserved-in-Holds
loop-i-preserved-in-Holds c =
    so-far-more c.args.terms.now c.args.values.now (OrderHolds c.args.terms.now) c.loop-i.i c.new.result c.loop-i.missing c.loop-i.invariant c.new.ensures c.in-Holds.ensures

pub returns-in-None : goal.returns-in-None
returns-in-None c =
    all-hold c.args.terms.now c.args.values.now (OrderHolds c.args.terms.now) c.loop-i.i
    (so-far-none c.args.terms.now c.args.values.now (OrderHolds c.args.terms.now) c.loop-i.i c.loop-i.missing c.loop-i.invariant c.in-None.is) (omega arith)
