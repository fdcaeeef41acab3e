use Rattle.std.proofs.Common.{◌≡◌, ◌++◌, map, drop}
use Rattle.sd_meaning.specs.Routine.{ensures_of}
use Rattle.sd_extract.specs.Extract.{check}
use Rattle.sd_extract.specs.Scopes.{names_in}
use Rattle.sd_extract.proofs.clause.push_ensures.Given as goal

abbrev pub invariant-loop-clause : goal.invariant-loop-clause
invariant-loop-clause l =
    l.out ++ map (check (names_in l.scope)) (ensures_of (drop l.clause-index l.clauses)) ≡ l.initial.out ++ map (check (names_in l.scope)) (ensures_of l.clauses)
