use Rattle.std.proofs.Common.{◌≡◌, ◌++◌, drop}
use Rattle.sd_search.specs.Atoms.{atom_literals}
use Rattle.sd_search.proofs.atoms.atom_literals.Given as goal

abbrev pub invariant-loop-i : goal.invariant-loop-i
invariant-loop-i l = atom_literals 0 l.terms l.values ≡ l.literals ++ atom_literals l.i (drop l.i l.terms) (drop l.i l.values)
