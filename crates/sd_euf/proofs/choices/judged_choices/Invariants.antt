use Rattle.sd_euf.specs.Judged.{ChoiceHolds}
use Rattle.sd_euf.proofs.Loops.{SoFar}
use Rattle.sd_euf.proofs.choices.judged_choices.Given as goal

abbrev pub invariant-loop-i : goal.invariant-loop-i
invariant-loop-i l = SoFar l.terms l.values (ChoiceHolds l.terms) l.i l.missing
