use Rattle.sd_euf.specs.Judged.{OrderHolds}
use Rattle.sd_euf.proofs.Loops.{SoFar}
use Rattle.sd_euf.proofs.orders.judged_orders.Given as goal

abbrev pub invariant-loop-i : goal.invariant-loop-i
invariant-loop-i l = SoFar l.terms l.values (OrderHolds l.terms) l.i l.missing
