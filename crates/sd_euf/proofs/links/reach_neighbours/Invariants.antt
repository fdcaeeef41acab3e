use Rattle.sd_euf.specs.Links.{AreLinks, AreMore, AreReached}
use Rattle.sd_euf.proofs.links.reach_neighbours.Given as goal

abbrev pub invariant-loop-i : goal.invariant-loop-i
invariant-loop-i l =
    record { links : AreLinks l.terms l.values l.links; more : AreMore l.initial.links l.links; reached : AreReached l.terms l.values l.links l.at l.i }
