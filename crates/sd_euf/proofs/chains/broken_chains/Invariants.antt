use Rattle.std.proofs.Common.{None}
use Rattle.sd_euf.specs.Links.{NotJoined}
use Rattle.sd_euf.proofs.Loops.{SoFar}
use Rattle.sd_euf.proofs.chains.broken_chains.Given as goal

abbrev pub invariant-loop-i : goal.invariant-loop-i
invariant-loop-i l = SoFar l.terms l.values (NotJoined l.terms) l.i None
