use Rattle.sd_search.specs.Assignment.{IsAssignment}
use Rattle.sd_search.proofs.assignment.Assignment.assume_all.Given as goal

abbrev pub invariant-loop-number : goal.invariant-loop-number
invariant-loop-number l = IsAssignment l.query l.self
