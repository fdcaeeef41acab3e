-- Statements inside statements, which stand in rows.
use Rattle.std.proofs.Common.{◌≡◌, Bool, true, List, Result, refl, ap, ◌∙◌}
use Rattle.sd_base.specs.declared.sort.Place.{Place}
use Rattle.sd_ast.specs.declared.tree.Expr.{Expr}
use Rattle.sd_ast.specs.declared.tree.Invariant.{Invariant}
use Rattle.sd_ast.specs.declared.tree.Stmt.{Stmt}
use Rattle.sd_ast.specs.declared.tree.StmtKind.{If, While, Row_of-Stmt, end_of-Stmt, more_of-Stmt, items-the_row-Stmt, items_hidden-the_row-Stmt-0}
use Rattle.sd_ast.specs.declared.tree.StmtKind.TheBlock.{hidden-the_row-Stmt-0}
use Rattle.sd_types.specs.declared.refusal.TypeError.{TypeError}
use Rattle.sd_types.specs.Answer.{both, each}
use Rattle.sd_types.specs.Phrases.{is_truth}
use Rattle.sd_types.specs.Statements.{Routine, true_invariant, stmt_rule, row_rule, each_stmt}

row_rule-items : (R : Routine) (loop : Bool) {m : _} (k : Row_of-Stmt m) → row_rule R loop k ≡ each_stmt R loop (items-the_row-Stmt m k)
row_rule-items R loop end_of-Stmt = refl
row_rule-items R loop (more_of-Stmt p s k) = ap (both (stmt_rule R loop p s)) (row_rule-items R loop k)

row_rule-list : (R : Routine) (loop : Bool) (ss : List Stmt) → row_rule R loop (hidden-the_row-Stmt-0 ss) ≡ each_stmt R loop ss
row_rule-list R loop ss = row_rule-items R loop (hidden-the_row-Stmt-0 ss) ∙ ap (each_stmt R loop) (items_hidden-the_row-Stmt-0 ss)

pub stmt_rule-If : (R : Routine) (loop : Bool) (p : Place) (e : Expr) (a b : List Stmt) → stmt_rule R loop p (If e a b) ≡ both (is_truth R.context e) (both (each_stmt R loop a) (each_stmt R loop b))
stmt_rule-If R loop p e a b =
    ap (λ (d : Result (Unit {0}) TypeError). both (is_truth R.context e) (both d (row_rule R loop (hidden-the_row-Stmt-0 b)))) (row_rule-list R loop a)
    ∙ ap (λ (d : Result (Unit {0}) TypeError). both (is_truth R.context e) (both (each_stmt R loop a) d)) (row_rule-list R loop b)

pub stmt_rule-While : (R : Routine) (loop : Bool) (p : Place) (e : Expr) (invs : List Invariant) (body : List Stmt) → stmt_rule R loop p (While e invs body) ≡ both (is_truth R.context e) (both (each (true_invariant R.context) invs) (each_stmt R true body))
stmt_rule-While R loop p e invs body =
    ap (λ (d : Result (Unit {0}) TypeError). both (is_truth R.context e) (both (each (true_invariant R.context) invs) d)) (row_rule-list R true body)
