use Rattle.std.proofs.Common.{◌≡◌, ◌++◌, map, drop}
use Rattle.sd_meaning.specs.Routine.{requires_of}
use Rattle.sd_extract.specs.Scopes.{names_in, clause_stmt}
use Rattle.sd_extract.proofs.clause.push_requires.Given as goal

abbrev pub invariant-loop-clause : goal.invariant-loop-clause
invariant-loop-clause l =
    l.out ++ map (clause_stmt (names_in l.scope) l.assumed) (requires_of (drop l.clause-index l.clauses)) ≡ l.initial.out ++ map (clause_stmt (names_in l.scope) l.assumed) (requires_of l.clauses)
