-- The programs over truth values, without calls and loops.
use Rattle.std.specs.Prelude.{◌≡◌, List, Option, Some, None}
use Rattle.std.specs.List.{AllByRecursion}
use Rattle.sd_base.specs.declared.Sort.{Bool as BoolSort}
use Rattle.sd_base.specs.declared.Var.{Var}
use Rattle.sd_ast.specs.declared.Expr.{Expr}
use Rattle.sd_ast.specs.declared.ExprKind.{ExprKind, Num, Apply', Row_of-Expr, end_of-Expr, more_of-Expr}
use Rattle.sd_ast.specs.declared.StmtKind.{StmtKind, Assert, Assume, Assign, If', Break, Return, Row_of-Stmt}
use Rattle.sd_ast.specs.declared.StmtKind.{end_of-Stmt, more_of-Stmt}
use Rattle.sd_ast.specs.declared.Spec.{Spec}
use Rattle.sd_ast.specs.declared.Spec.TheVariants.{Modifies, Requires, Ensures}
use Rattle.sd_ast.specs.declared.Head.{Head}
use Rattle.sd_ast.specs.declared.Body.{Body}
use Rattle.sd_ast.specs.declared.Decl.{Decl}
use Rattle.sd_ast.specs.declared.Decl.TheVariants.{Globals, Procedure, Implementation}
use Rattle.sd_ast.specs.declared.Program.{Program}
use Rattle.sd_ast.specs.Tree.{OldOf, UnaryOf, BinaryOf, SelectOf, StoreOf}

abbrev pub AreTruths : List Var → Type 0
AreTruths = AllByRecursion (λ x. x.sort ≡ BoolSort)

-- no number stands in the expression
abbrev mutual
  pub HasNoNumber : ExprKind → Type 0
  HasNoNumber (Num n) = ⊥
  HasNoNumber (Apply' f shape args) = HaveNoNumber args
  HasNoNumber (OldOf p e) = HasNoNumber e
  HasNoNumber (UnaryOf op p a) = HasNoNumber a
  HasNoNumber (BinaryOf op p a q b) = HasNoNumber a × HasNoNumber b
  HasNoNumber (SelectOf p m q i) = HasNoNumber m × HasNoNumber i
  HasNoNumber (StoreOf p m q i r v) = HasNoNumber m × HasNoNumber i × HasNoNumber v
  HasNoNumber _ = Unit {0}

  pub HaveNoNumber : {m : _} → Row_of-Expr m → Type 0
  HaveNoNumber end_of-Expr = Unit {0}
  HaveNoNumber (more_of-Expr p e es) = HasNoNumber e × HaveNoNumber es

abbrev pub NoneHasNumber : List Expr → Type 0
NoneHasNumber = AllByRecursion (λ e. HasNoNumber e.kind)

-- no call, no loop and no number stands in the statement
abbrev mutual
  pub IsPropositional : StmtKind → Type 0
  IsPropositional (Assert e) = HasNoNumber e.kind
  IsPropositional (Assume e) = HasNoNumber e.kind
  IsPropositional (Assign ls es) = AllByRecursion (λ l. NoneHasNumber l.indices) ls × NoneHasNumber es
  IsPropositional (If' e shape a shape' b) = HasNoNumber e.kind × ArePropositional a × ArePropositional b
  IsPropositional Break = Unit {0}
  IsPropositional Return = Unit {0}
  IsPropositional _ = ⊥

  pub ArePropositional : {m : _} → Row_of-Stmt m → Type 0
  ArePropositional end_of-Stmt = Unit {0}
  ArePropositional (more_of-Stmt p k ks) = IsPropositional k × ArePropositional ks

abbrev pub IsPropositionalSpec : Spec → Type 0
IsPropositionalSpec (Modifies names) = Unit {0}
IsPropositionalSpec (Requires free e) = HasNoNumber e.kind
IsPropositionalSpec (Ensures free e) = HasNoNumber e.kind

abbrev pub IsPropositionalHead : Head → Type 0
IsPropositionalHead h = AreTruths h.ins × AreTruths h.outs

abbrev pub IsPropositionalBody : Body → Type 0
IsPropositionalBody b = AreTruths b.locals × AllByRecursion (λ s. IsPropositional s.kind) b.stmts

abbrev pub MaybePropositionalBody : Option Body → Type 0
MaybePropositionalBody None = Unit {0}
MaybePropositionalBody (Some b) = IsPropositionalBody b

-- globals, procedures and implementations alone
abbrev pub IsPropositionalDecl : Decl → Type 0
IsPropositionalDecl (Globals vars) = AreTruths vars
IsPropositionalDecl (Procedure p) =
    IsPropositionalHead p.head × AllByRecursion IsPropositionalSpec p.specs × MaybePropositionalBody p.body
IsPropositionalDecl (Implementation i) = IsPropositionalHead i.head × IsPropositionalBody i.body
IsPropositionalDecl _ = ⊥

abbrev pub IsPropositionalProgram : Program → Type 0
IsPropositionalProgram P = AllByRecursion IsPropositionalDecl P.decls
