-- Statements that are well typed: what they assign may be changed, and each expression has the type of its place.
use Rattle.std.specs.Prelude.{◌≡◌, ◌↔◌, Bool as Test, true, false, List, [], ◌∷◌, Some, Ok}
use Rattle.std.specs.List.{AllByRecursion}
use Rattle.sd_base.specs.declared.sort.Sort.{Bool}
use Rattle.sd_base.specs.Value.{Text}
use Rattle.sd_ast.specs.declared.tree.Expr.{Expr}
use Rattle.sd_ast.specs.declared.tree.Left.{Left}
use Rattle.sd_ast.specs.declared.tree.Stmt.{Stmt}
use Rattle.sd_ast.specs.declared.tree.StmtKind.{StmtKind, Assert, Assume, Assign, Call, If', While', Break, Return, Row_of-Stmt, end_of-Stmt, more_of-Stmt}
use Rattle.sd_types.specs.declared.scope.Nature.{Nature}
use Rattle.sd_types.specs.declared.scope.Nature.TheVariants.{Constant, Global, Input, Output, Local}
use Rattle.sd_types.specs.declared.scope.Variable.{Variable}
use Rattle.sd_types.specs.declared.scope.Callee.{Callee}
use Rattle.sd_types.specs.declared.scope.Scope.{Scope}
use Rattle.sd_types.specs.Names.{is_among}
use Rattle.sd_types.specs.Tables.{named}
use Rattle.sd_types.specs.Statements.{Routine, left_names, each_stmt}
use Rattle.sd_types.specs.Typing.{HasType}
use Rattle.sd_types.specs.TypedBodies.{AllHave, AreVariablesOf, Assigns, AllTruths}

-- no name stands twice
abbrev pub AreDistinct : List Text → Type 0
AreDistinct [] = Unit {0}
AreDistinct (x ∷ xs) = (is_among xs x ≡ false) × AreDistinct xs

-- what of this nature may be assigned: locals and out-parameters, and the globals that the procedure may modify
abbrev pub MayChange : (Text → Test) → Text → Nature → Type 0
MayChange modifies x Constant = ⊥
MayChange modifies x Input = ⊥
MayChange modifies x Global = modifies x ≡ true
MayChange modifies x Output = Unit {0}
MayChange modifies x Local = Unit {0}

-- a variable that may be assigned in this procedure
abbrev pub IsChangeable : Routine → Text → Type 0
IsChangeable R x = (v : Variable) × (R.context.variable x ≡ Some v) × MayChange R.modifies x v.nature

abbrev pub IsGlobal : Scope → Text → Type 0
IsGlobal G x = (v : Variable) × (named G.globals x ≡ Some v) × (v.nature ≡ Global)

-- the procedure may modify what its callee may
abbrev pub MayModify : Routine → Callee → Type 0
MayModify R q = AllByRecursion (λ x. IsGlobal R.scope x → R.modifies x ≡ true) q.modifies

abbrev pub IsWellTypedAssign : Routine → List Left → List Expr → Type 0
IsWellTypedAssign R ls es =
    AreDistinct (left_names ls) × Assigns R.context ls es × AllByRecursion (IsChangeable R) (left_names ls)

-- the callee is declared and has a body, and receivers and arguments have its types
abbrev pub IsWellTypedCall : Routine → List Text → Text → List Expr → Type 0
IsWellTypedCall R xs f es =
    (q : Callee) × (named R.scope.procedures f ≡ Some q) × (is_among R.scope.bodies f ≡ true)
    × AreDistinct xs × AreVariablesOf R.context xs q.outs × AllHave R.context es q.ins
    × AllByRecursion (IsChangeable R) xs × MayModify R q

abbrev mutual
  -- a statement, in a loop or not
  pub IsWellTypedStmt : Routine → Test → StmtKind → Type 0
  IsWellTypedStmt R loop (Assert e) = HasType R.context e.kind Bool
  IsWellTypedStmt R loop (Assume e) = HasType R.context e.kind Bool
  IsWellTypedStmt R loop (Assign ls es) = IsWellTypedAssign R ls es
  IsWellTypedStmt R loop (Call xs f es) = IsWellTypedCall R xs f es
  IsWellTypedStmt R loop (If' e shape a shape' b) =
      HasType R.context e.kind Bool × AreWellTypedStmts R loop a × AreWellTypedStmts R loop b
  IsWellTypedStmt R loop (While' e invs shape body) =
      HasType R.context e.kind Bool × AllTruths R.context invs × AreWellTypedStmts R true body
  IsWellTypedStmt R loop Break = loop ≡ true
  IsWellTypedStmt R loop Return = Unit {0}

  pub AreWellTypedStmts : Routine → Test → {n : _} → Row_of-Stmt n → Type 0
  AreWellTypedStmts R loop end_of-Stmt = Unit {0}
  AreWellTypedStmts R loop (more_of-Stmt p k ks) = IsWellTypedStmt R loop k × AreWellTypedStmts R loop ks

-- statements break no rule exactly where each of them is well typed
abbrev pub StatementsAreExact : Type 0
StatementsAreExact =
    (R : Routine) (loop : Test) (ss : List Stmt)
    → (each_stmt R loop ss ≡ Ok tt) ↔ AllByRecursion (λ s. IsWellTypedStmt R loop s.kind) ss
