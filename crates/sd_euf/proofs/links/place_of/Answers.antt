use Rattle.std.proofs.Common.{arith}
use Rattle.sd_euf.proofs.links.place_of.Goals as goal

pub returns-clause-none : goal.returns-clause-none
returns-clause-none c = λ r. c.loop-i.invariant r.at (omega (arith, r.within)) r.is
