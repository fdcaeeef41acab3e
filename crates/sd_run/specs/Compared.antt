-- The test for programs that are compared: over truth values and integers, without products. In their own words they
-- are those of `ComparedPrograms`.
use Rattle.std.specs.Prelude.{Bool, true, false, ◌&&◌, List, Option, Some, None}
use Rattle.std.specs.List.{list_all}
use Rattle.sd_base.specs.declared.Sort.{Sort, Int, Bool as BoolSort}
use Rattle.sd_base.specs.declared.Var.{Var}
use Rattle.sd_ast.specs.declared.BinOp.{BinOp}
use Rattle.sd_ast.specs.declared.BinOp.TheVariants.{Mul}
use Rattle.sd_ast.specs.declared.Expr.{Expr}
use Rattle.sd_ast.specs.declared.ExprKind.{ExprKind, Apply', Row_of-Expr, end_of-Expr, more_of-Expr}
use Rattle.sd_ast.specs.declared.StmtKind.{StmtKind, Assert, Assume, Assign, Call, If', While', Break, Return, Row_of-Stmt, end_of-Stmt, more_of-Stmt}
use Rattle.sd_ast.specs.declared.Stmt.{Stmt}
use Rattle.sd_ast.specs.declared.Invariant.{Invariant}
use Rattle.sd_ast.specs.declared.Left.{Left}
use Rattle.sd_ast.specs.declared.Spec.{Spec}
use Rattle.sd_ast.specs.declared.Spec.TheVariants.{Modifies, Requires, Ensures}
use Rattle.sd_ast.specs.declared.Head.{Head}
use Rattle.sd_ast.specs.declared.Body.{Body}
use Rattle.sd_ast.specs.declared.Decl.{Decl}
use Rattle.sd_ast.specs.declared.Decl.TheVariants.{Globals, Procedure, Implementation}
use Rattle.sd_ast.specs.declared.Program.{Program}
use Rattle.sd_ast.specs.Tree.{OldOf, UnaryOf, BinaryOf, SelectOf, StoreOf}

abbrev pub is_plain_sort : Sort → Bool
is_plain_sort Int = true
is_plain_sort BoolSort = true
is_plain_sort _ = false

abbrev pub are_plain : List Var → Bool
are_plain = list_all (λ x. is_plain_sort x.sort)

abbrev pub is_no_product : BinOp → Bool
is_no_product Mul = false
is_no_product _ = true

-- no product stands in the expression
abbrev mutual
  pub has_no_product : ExprKind → Bool
  has_no_product (Apply' f shape args) = have_no_product args
  has_no_product (OldOf p e) = has_no_product e
  has_no_product (UnaryOf op p a) = has_no_product a
  has_no_product (BinaryOf op p a q b) = (is_no_product op && has_no_product a) && has_no_product b
  has_no_product (SelectOf p m q i) = has_no_product m && has_no_product i
  has_no_product (StoreOf p m q i r v) = (has_no_product m && has_no_product i) && has_no_product v
  has_no_product _ = true

  pub have_no_product : {m : _} → Row_of-Expr m → Bool
  have_no_product end_of-Expr = true
  have_no_product (more_of-Expr p e es) = has_no_product e && have_no_product es

abbrev pub none_has_product : List Expr → Bool
none_has_product = list_all (λ e. has_no_product e.kind)

-- no product stands in the statement
abbrev mutual
  pub is_compared : StmtKind → Bool
  is_compared (Assert e) = has_no_product e.kind
  is_compared (Assume e) = has_no_product e.kind
  is_compared (Assign ls es) = list_all (λ (l : Left). none_has_product l.indices) ls && none_has_product es
  is_compared (Call xs f es) = none_has_product es
  is_compared (If' e shape a shape' b) = (has_no_product e.kind && have_compared a) && have_compared b
  is_compared (While' e is shape a) =
      (has_no_product e.kind && list_all (λ (i : Invariant). has_no_product i.expr.kind) is) && have_compared a
  is_compared Break = true
  is_compared Return = true

  pub have_compared : {m : _} → Row_of-Stmt m → Bool
  have_compared end_of-Stmt = true
  have_compared (more_of-Stmt p k ks) = is_compared k && have_compared ks

abbrev pub are_compared : List Stmt → Bool
are_compared = list_all (λ s. is_compared s.kind)

abbrev pub is_compared_spec : Spec → Bool
is_compared_spec (Modifies names) = true
is_compared_spec (Requires free e) = has_no_product e.kind
is_compared_spec (Ensures free e) = has_no_product e.kind

abbrev pub is_compared_head : Head → Bool
is_compared_head h = are_plain h.ins && are_plain h.outs

abbrev pub is_compared_body : Body → Bool
is_compared_body b = are_plain b.locals && are_compared b.stmts

abbrev pub maybe_compared_body : Option Body → Bool
maybe_compared_body None = true
maybe_compared_body (Some b) = is_compared_body b

-- globals, procedures and implementations alone
abbrev pub is_compared_decl : Decl → Bool
is_compared_decl (Globals vars) = are_plain vars
is_compared_decl (Procedure p) =
    (is_compared_head p.head && list_all is_compared_spec p.specs) && maybe_compared_body p.body
is_compared_decl (Implementation i) = is_compared_head i.head && is_compared_body i.body
is_compared_decl _ = false

abbrev pub is_compared_program : Program → Bool
is_compared_program P = list_all is_compared_decl P.decls
