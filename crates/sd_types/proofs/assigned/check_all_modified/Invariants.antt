use Rattle.sd_types.specs.Statements.{routine_of, modified_rule}
use Rattle.sd_types.proofs.AnswerLemmas.{Walks}
use Rattle.sd_types.proofs.assigned.check_all_modified.Given as goal

abbrev pub invariant-loop-name : goal.invariant-loop-name
invariant-loop-name l = Walks (modified_rule (routine_of l.frame)) l.name-items l.name-index
