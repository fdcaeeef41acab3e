use Rattle.sd_types.specs.Statements.{routine_of, assignable}
use Rattle.sd_types.proofs.AnswerLemmas.{Walks}
use Rattle.sd_types.proofs.assigned.check_all_assignable.Given as goal

abbrev pub invariant-loop-name : goal.invariant-loop-name
invariant-loop-name l = Walks (assignable (routine_of l.frame)) l.name-items l.name-index
