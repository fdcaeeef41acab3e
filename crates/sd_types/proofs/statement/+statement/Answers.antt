use Rattle.sd_types.proofs.AnswerLemmas.{goes_on, next}
use Rattle.sd_types.proofs.StmtLemmas.{stmt_rule-If, stmt_rule-While}
use Rattle.sd_types.proofs.statement.+statement.Goals as goal

pub check_stmt-returns-in-Assign : goal.check_stmt-returns-in-Assign
check_stmt-returns-in-Assign t c = rw c.in-Assign.is c.check_assign.ensures

pub check_stmt-returns-in-Call : goal.check_stmt-returns-in-Call
check_stmt-returns-in-Call t c = rw c.in-Call.is c.check_call.ensures

pub check_stmt-returns-in_err-check_stmts-in-If : goal.check_stmt-returns-in_err-check_stmts-in-If
check_stmt-returns-in_err-check_stmts-in-If t c =
    rw (c.in-If.is, stmt_rule-If) (next _ c.in_ok-expect_truth-in-If.ensures (goes_on _ c.in_err-check_stmts-in-If.ensures c.from_residual-in_err-check_stmts-in-If.ensures.1))

pub check_stmt-returns-in_ok-check_stmts-in-If : goal.check_stmt-returns-in_ok-check_stmts-in-If
check_stmt-returns-in_ok-check_stmts-in-If t c =
    rw (c.in-If.is, stmt_rule-If) (next _ c.in_ok-expect_truth-in-If.ensures (next _ c.in_ok-check_stmts-in-If.ensures c.check_stmts-in-If.ensures))

pub check_stmt-returns-in_ok-check_invariants-in-While : goal.check_stmt-returns-in_ok-check_invariants-in-While
check_stmt-returns-in_ok-check_invariants-in-While t c =
    rw (c.in-While.is, stmt_rule-While) (next _ c.in_ok-expect_truth-in-While.ensures (next _ c.in_ok-check_invariants-in-While.ensures c.check_stmts-in-While.ensures))
