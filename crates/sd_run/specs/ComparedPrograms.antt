-- The programs that are compared, in their own words: they declare globals, procedures and implementations alone, each
-- variable has the type `int` or `bool`, and nothing is multiplied.
use Rattle.std.specs.Prelude.{◌≡◌, ◌⊎◌, ◌↔◌, true, List, [], ◌∷◌, ◌++◌, map, Contains, Option, Some, None}
use Rattle.std.specs.List.{AllByRecursion}
use Rattle.sd_base.specs.declared.Sort.{Sort, Int, Bool as BoolSort}
use Rattle.sd_base.specs.declared.Var.{Var}
use Rattle.sd_base.specs.declared.Place.{Place}
use Rattle.sd_ast.specs.declared.BinOp.TheVariants.{Mul}
use Rattle.sd_ast.specs.declared.Expr.{Expr}
use Rattle.sd_ast.specs.declared.ExprKind.{ExprKind, Apply', Row_of-Expr, end_of-Expr, more_of-Expr}
use Rattle.sd_ast.specs.declared.StmtKind.{StmtKind, Assert, Assume, Assign, Call, If', While', Row_of-Stmt, end_of-Stmt, more_of-Stmt}
use Rattle.sd_ast.specs.declared.Stmt.{Stmt}
use Rattle.sd_ast.specs.declared.Left.{Left}
use Rattle.sd_ast.specs.declared.Spec.{Spec}
use Rattle.sd_ast.specs.declared.Spec.TheVariants.{Modifies, Requires, Ensures}
use Rattle.sd_ast.specs.declared.Body.{Body}
use Rattle.sd_ast.specs.declared.Decl.{Decl}
use Rattle.sd_ast.specs.declared.Decl.TheVariants.{Globals, Procedure, Implementation}
use Rattle.sd_ast.specs.declared.Program.{Program}
use Rattle.sd_ast.specs.Tree.{OldOf, UnaryOf, BinaryOf, SelectOf, StoreOf}
use Rattle.sd_run.specs.Compared.{is_compared_program}

-- ---- expressions

abbrev pub expressions_of : {m : _} → Row_of-Expr m → List ExprKind
expressions_of end_of-Expr = []
expressions_of (more_of-Expr p e es) = e ∷ expressions_of es

-- what stands directly in an expression
abbrev pub parts_of : ExprKind → List ExprKind
parts_of (Apply' f shape args) = expressions_of args
parts_of (OldOf p a) = a ∷ []
parts_of (UnaryOf op p a) = a ∷ []
parts_of (BinaryOf op p a q b) = a ∷ b ∷ []
parts_of (SelectOf p m q i) = m ∷ i ∷ []
parts_of (StoreOf p m q i r v) = m ∷ i ∷ v ∷ []
parts_of _ = []

-- An expression multiplies where it is a product, or a part of it multiplies.
pub data Multiplies : ExprKind → Type 0 where
  product : (p q : Place) (a b : ExprKind) → Multiplies (BinaryOf Mul p a q b)
  part : (e a : ExprKind) → Contains (parts_of e) a → Multiplies a → Multiplies e

-- ---- statements

abbrev pub statements_of : {m : _} → Row_of-Stmt m → List StmtKind
statements_of end_of-Stmt = []
statements_of (more_of-Stmt p s ss) = s ∷ statements_of ss

-- the statements that stand directly in a statement
abbrev pub blocks_of : StmtKind → List StmtKind
blocks_of (If' e shape a shape' b) = statements_of a ++ statements_of b
blocks_of (While' e is shape a) = statements_of a
blocks_of _ = []

-- the expressions that a statement evaluates, without the indices on its left side
abbrev pub values_of : StmtKind → List Expr
values_of (Assert e) = e ∷ []
values_of (Assume e) = e ∷ []
values_of (Assign ls es) = es
values_of (Call xs f es) = es
values_of (If' e shape a shape' b) = e ∷ []
values_of (While' e is shape a) = e ∷ map (λ i. i.expr) is
values_of _ = []

-- A product stands in a statement where one of its expressions multiplies, or one stands in a statement in it.
pub data HasProduct : StmtKind → Type 0 where
  value : (s : StmtKind) (e : Expr) → Contains (values_of s) e → Multiplies e.kind → HasProduct s
  index : (ls : List Left) (es : List Expr) (l : Left) (e : Expr)
      → Contains ls l → Contains l.indices e → Multiplies e.kind → HasProduct (Assign ls es)
  inner : (s t : StmtKind) → Contains (blocks_of s) t → HasProduct t → HasProduct s

-- ---- declarations

abbrev pub IsComparedKind : Decl → Type 0
IsComparedKind (Globals vars) = Unit {0}
IsComparedKind (Procedure p) = Unit {0}
IsComparedKind (Implementation i) = Unit {0}
IsComparedKind _ = ⊥

abbrev pub IsPlainSort : Sort → Type 0
IsPlainSort s = (s ≡ Int) ⊎ (s ≡ BoolSort)

abbrev pub locals_in : Option Body → List Var
locals_in None = []
locals_in (Some b) = b.locals

abbrev pub body_in : Option Body → List Stmt
body_in None = []
body_in (Some b) = b.stmts

-- the variables that are declared
abbrev pub variables_of : Decl → List Var
variables_of (Globals vars) = vars
variables_of (Procedure p) = p.head.ins ++ (p.head.outs ++ locals_in p.body)
variables_of (Implementation i) = i.head.ins ++ (i.head.outs ++ i.body.locals)
variables_of _ = []

abbrev pub clauses_of : Decl → List Spec
clauses_of (Procedure p) = p.specs
clauses_of _ = []

abbrev pub body_of : Decl → List Stmt
body_of (Procedure p) = body_in p.body
body_of (Implementation i) = i.body.stmts
body_of _ = []

abbrev pub IsComparedClause : Spec → Type 0
IsComparedClause (Modifies names) = Unit {0}
IsComparedClause (Requires free e) = Multiplies e.kind → ⊥
IsComparedClause (Ensures free e) = Multiplies e.kind → ⊥

-- It is a global, a procedure or an implementation, its variables have plain types, and nothing in it is multiplied.
pub record IsComparedDecl (d : Decl) : Type 0 where
  pub kind : IsComparedKind d
  pub sorts : AllByRecursion (λ x. IsPlainSort x.sort) (variables_of d)
  pub clauses : AllByRecursion IsComparedClause (clauses_of d)
  pub body : AllByRecursion (λ s. HasProduct s.kind → ⊥) (body_of d)

abbrev pub IsComparedProgram : Program → Type 0
IsComparedProgram P = AllByRecursion IsComparedDecl P.decls

-- The test answers yes exactly for these programs.
abbrev pub ComparedIsExact : Type 0
ComparedIsExact = (P : Program) → (is_compared_program P ≡ true) ↔ IsComparedProgram P
