use Rattle.sd_euf.specs.Links.{AreMerged}
use Rattle.sd_euf.proofs.classes.classes_of.Given as goal

abbrev pub invariant-loop-i : goal.invariant-loop-i
invariant-loop-i l = AreMerged l.terms l.values l.classes l.i
