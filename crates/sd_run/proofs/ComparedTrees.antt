-- The tests of trees, by their parts.
use Rattle.std.proofs.Common.{◌≡◌, Bool, true, false, List, refl, sym, ap, ◌∙◌}
use Rattle.std.specs.Prelude.{◌&&◌}
use Rattle.std.specs.List.{list_all}
use Rattle.sd_base.specs.Value.{Text}
use Rattle.sd_ast.specs.declared.tree.BinOp.{BinOp}
use Rattle.sd_ast.specs.declared.tree.Expr.{Expr}
use Rattle.sd_ast.specs.declared.tree.ExprKind.{ExprKind, Apply, Old, Unary, Binary, Select, Store, Row_of-Expr, end_of-Expr, more_of-Expr, items-the_row-Expr, items_hidden-the_row-Expr-0}
use Rattle.sd_ast.specs.declared.tree.ExprKind.TheBlock.{hidden-the_row-Expr-0}
use Rattle.sd_ast.specs.declared.tree.UnOp.{UnOp}
use Rattle.sd_ast.specs.declared.tree.Invariant.{Invariant}
use Rattle.sd_ast.specs.declared.tree.Stmt.{Stmt}
use Rattle.sd_ast.specs.declared.tree.StmtKind.{StmtKind, If, While, Row_of-Stmt, end_of-Stmt, more_of-Stmt, items-the_row-Stmt, items_hidden-the_row-Stmt-0}
use Rattle.sd_ast.specs.declared.tree.StmtKind.TheBlock.{hidden-the_row-Stmt-0}
use Rattle.sd_ast.proofs.TreeLemmas.{old_is, unary_is, binary_is, select_is, store_is}
use Rattle.sd_run.specs.Compared.{is_no_product, has_no_product, have_no_product, none_has_product, is_compared, have_compared, are_compared}

product_row : {m : _} (r : Row_of-Expr m) → have_no_product r ≡ none_has_product (items-the_row-Expr m r)
product_row end_of-Expr = refl
product_row (more_of-Expr p e r) = ap (λ b. has_no_product e && b) (product_row r)

compared_row : {m : _} (r : Row_of-Stmt m) → have_compared r ≡ are_compared (items-the_row-Stmt m r)
compared_row end_of-Stmt = refl
compared_row (more_of-Stmt p s r) = ap (λ b. is_compared s && b) (compared_row r)

compared_list : (ss : List Stmt) → have_compared (hidden-the_row-Stmt-0 ss) ≡ are_compared ss
compared_list ss = compared_row (hidden-the_row-Stmt-0 ss) ∙ ap are_compared (items_hidden-the_row-Stmt-0 ss)

-- two tests, one after another
pub and_last : {X : Bool} (Y x r : Bool) → x ≡ X → x ≡ true → r ≡ Y → r ≡ (X && Y)
and_last Y x r is on same = same ∙ ap (λ b. b && Y) (sym on ∙ is)

pub and_first : {X : Bool} (Y x : Bool) → x ≡ X → x ≡ false → x ≡ (X && Y)
and_first Y x is off = off ∙ ap (λ b. b && Y) (sym off ∙ is)

module _ {k : ExprKind} {r : Bool} where
  pub at_Apply : (f : Text) (es : List Expr) → k ≡ Apply f es → r ≡ none_has_product es → r ≡ has_no_product k
  at_Apply f es is h = h ∙ sym (ap has_no_product is ∙ product_row (hidden-the_row-Expr-0 es) ∙ ap none_has_product (items_hidden-the_row-Expr-0 es))

  pub at_Old : (e : Expr) → k ≡ Old e → r ≡ has_no_product e.kind → r ≡ has_no_product k
  at_Old e is h = h ∙ sym (ap has_no_product (is ∙ old_is e))

  pub at_Unary : (op : UnOp) (a : Expr) → k ≡ Unary op a → r ≡ has_no_product a.kind → r ≡ has_no_product k
  at_Unary op a is h = h ∙ sym (ap has_no_product (is ∙ unary_is op a))

  pub at_Binary : (op : BinOp) (a b : Expr) → k ≡ Binary op a b → r ≡ ((is_no_product op && has_no_product a.kind) && has_no_product b.kind) → r ≡ has_no_product k
  at_Binary op a b is h = h ∙ sym (ap has_no_product (is ∙ binary_is op a b))

  pub at_Select : (m i : Expr) → k ≡ Select m i → r ≡ (has_no_product m.kind && has_no_product i.kind) → r ≡ has_no_product k
  at_Select m i is h = h ∙ sym (ap has_no_product (is ∙ select_is m i))

  pub at_Store : (m i v : Expr) → k ≡ Store m i v → r ≡ ((has_no_product m.kind && has_no_product i.kind) && has_no_product v.kind) → r ≡ has_no_product k
  at_Store m i v is h = h ∙ sym (ap has_no_product (is ∙ store_is m i v))

module _ {s : StmtKind} {r : Bool} where
  pub at_If : (e : Expr) (a b : List Stmt) → s ≡ If e a b → r ≡ ((has_no_product e.kind && are_compared a) && are_compared b) → r ≡ is_compared s
  at_If e a b is h = h ∙ sym (ap is_compared is ∙ (λ i. (has_no_product e.kind && compared_list a i) && compared_list b i))

  pub at_While : (e : Expr) (is : List Invariant) (a : List Stmt) → s ≡ While e is a → r ≡ ((has_no_product e.kind && list_all (λ i. has_no_product i.expr.kind) is) && are_compared a) → r ≡ is_compared s
  at_While e invs a is h = h ∙ sym (ap is_compared is ∙ ap (λ b. (has_no_product e.kind && list_all (λ i. has_no_product i.expr.kind) invs) && b) (compared_list a))
