use Rattle.sd_search.specs.Assignment.{IsAssignment}
use Rattle.sd_search.proofs.assignment.guessed_cube.Given as goal

abbrev pub invariant-loop : goal.invariant-loop
invariant-loop l = IsAssignment l.query l.assignment
