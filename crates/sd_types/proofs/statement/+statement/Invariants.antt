use Rattle.sd_types.specs.Statements.{routine_of, stmt_rule}
use Rattle.sd_types.proofs.AnswerLemmas.{Walks}
use Rattle.sd_types.proofs.statement.+statement.Given as goal

abbrev pub invariant-check_stmts-loop-stmt : goal.invariant-check_stmts-loop-stmt
invariant-check_stmts-loop-stmt l = Walks (λ s. stmt_rule (routine_of l.frame) l.in_loop s.at s.kind) l.stmt-items l.stmt-index
