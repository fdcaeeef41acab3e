use Rattle.std.proofs.Common.{◌≡◌, ◌++◌, map, drop}
use Rattle.sd_meaning.specs.Routine.{clauses_of}
use Rattle.sd_extract.specs.Extract.{check}
use Rattle.sd_extract.specs.Scopes.{names_in}
use Rattle.sd_extract.proofs.clause.push_invariants.Given as goal

abbrev pub invariant-loop-invariant : goal.invariant-loop-invariant
invariant-loop-invariant l =
    l.out ++ map (check (names_in l.scope)) (clauses_of (drop l.invariant-index l.invariants)) ≡ l.initial.out ++ map (check (names_in l.scope)) (clauses_of l.invariants)
