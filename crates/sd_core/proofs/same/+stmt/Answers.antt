use Rattle.std.proofs.Common.{sym, ◌∙◌}
use Rattle.sd_core.proofs.Rows.{refuted, test_fails, then_fails, branches_become}
use Rattle.sd_core.proofs.same.+stmt.Goals as goal
use Rattle.sd_core.proofs.same.+stmt.Goals.{is_same_stmt-then-is_same_expr, is_same_stmt-else-is_same_expr}

pub is_same_stmt-returns-then-are_same_stmts : goal.is_same_stmt-returns-then-are_same_stmts
is_same_stmt-returns-then-are_same_stmts t c =
    elim c.if-is_same_expr.branch [
      | is_same_stmt-then-is_same_expr w ↦ branches_become (record { procs = c.args.procs.now; globals = c.args.globals.now }) _ _ c.in-If-If.c c.in-If-If.d c.in-If-If.yes c.in-If-If.no c.in-If-If.then c.in-If-If.other c.in-If-If.is-0 c.in-If-If.is-1 _ _ w.as_slice-then-is_same_expr.ensures w.as_slice-then-is_same_expr-2.ensures _ w.are_same_stmts.ensures c.is_same_expr.result _ c.is_same_expr.ensures w.if-is_same_expr.true (sym w.value-is ∙ c.if-are_same_stmts.true) _ _ c.as_slice-then-are_same_stmts.ensures c.as_slice-then-are_same_stmts-2.ensures c.are_same_stmts-then-are_same_stmts.ensures
      | is_same_stmt-else-is_same_expr w ↦ absurd (let a = w.value-is in let b = c.if-are_same_stmts.true in cc)
    ]

pub is_same_stmt-returns-else-are_same_stmts : goal.is_same_stmt-returns-else-are_same_stmts
is_same_stmt-returns-else-are_same_stmts t c =
    refuted _ c.if-are_same_stmts.false (elim c.if-is_same_expr.branch [
      | is_same_stmt-then-is_same_expr w ↦ then_fails (record { procs = c.args.procs.now; globals = c.args.globals.now }) _ _ c.in-If-If.c c.in-If-If.d c.in-If-If.yes c.in-If-If.no c.in-If-If.then c.in-If-If.other c.in-If-If.is-0 c.in-If-If.is-1 _ _ w.as_slice-then-is_same_expr.ensures w.as_slice-then-is_same_expr-2.ensures _ w.are_same_stmts.ensures (sym w.value-is ∙ c.if-are_same_stmts.false)
      | is_same_stmt-else-is_same_expr w ↦ test_fails (record { procs = c.args.procs.now; globals = c.args.globals.now }) _ _ c.in-If-If.c c.in-If-If.d c.in-If-If.yes c.in-If-If.no c.in-If-If.then c.in-If-If.other c.in-If-If.is-0 c.in-If-If.is-1 c.is_same_expr.result c.is_same_expr.ensures w.if-is_same_expr.false
    ])
