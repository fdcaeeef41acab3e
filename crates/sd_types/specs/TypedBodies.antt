-- Statements in which each expression has the type that it is used at.
use Rattle.std.specs.Prelude.{◌≡◌, Bool as Test, true, false, List, [], ◌∷◌, Option, Some, None, Ok}
use Rattle.sd_base.specs.declared.sort.Sort.{Sort, Bool}
use Rattle.sd_base.specs.Value.{Text}
use Rattle.sd_base.specs.Sorts.{MapOf}
use Rattle.sd_ast.specs.declared.tree.Expr.{Expr}
use Rattle.sd_ast.specs.declared.tree.Left.{Left}
use Rattle.sd_ast.specs.declared.tree.Head.{Head}
use Rattle.sd_ast.specs.declared.tree.Body.{Body}
use Rattle.sd_ast.specs.declared.tree.Decl.{Decl}
use Rattle.sd_ast.specs.declared.tree.Decl.TheVariants.{Procedure, Implementation}
use Rattle.sd_ast.specs.declared.tree.Program.{Program}
use Rattle.sd_ast.specs.declared.tree.Invariant.{Invariant}
use Rattle.sd_ast.specs.declared.tree.Stmt.{Stmt}
use Rattle.sd_ast.specs.declared.tree.StmtKind.{StmtKind, Assert, Assume, Assign, Call, If', While', Break, Return, Row_of-Stmt, end_of-Stmt, more_of-Stmt}
use Rattle.sd_types.specs.declared.scope.Variable.{Variable}
use Rattle.sd_types.specs.declared.scope.Callee.{Callee}
use Rattle.sd_types.specs.declared.scope.Scope.{Scope}
use Rattle.sd_types.specs.Tables.{named}
use Rattle.sd_types.specs.Scopes.{Context}
use Rattle.sd_types.specs.Statements.{Routine, routine}
use Rattle.sd_types.specs.Declarations.{modifies_of, body_variables, nothing, enter_all, WellTyped}
use Rattle.sd_types.specs.Typing.{HasType}

abbrev pub AllHave : Context → List Expr → List Sort → Type 0
AllHave C [] [] = Unit {0}
AllHave C [] (s ∷ ss) = ⊥
AllHave C (e ∷ es) [] = ⊥
AllHave C (e ∷ es) (s ∷ ss) = HasType C e.kind s × AllHave C es ss

abbrev pub IsVariableOf : Context → Text → Sort → Type 0
IsVariableOf C x s = (v : Variable) × (C.variable x ≡ Some v) × (v.sort ≡ s)

abbrev pub AreVariablesOf : Context → List Text → List Sort → Type 0
AreVariablesOf C [] [] = Unit {0}
AreVariablesOf C [] (s ∷ ss) = ⊥
AreVariablesOf C (x ∷ xs) [] = ⊥
AreVariablesOf C (x ∷ xs) (s ∷ ss) = IsVariableOf C x s × AreVariablesOf C xs ss

-- indices lead from a map's type to that of what stands in it
abbrev pub Leads : Context → List Expr → Sort → Sort → Type 0
Leads C [] s r = s ≡ r
Leads C (i ∷ is) s r = (t : Sort) × (v : Sort) × (s ≡ MapOf t v) × HasType C i.kind t × Leads C is v r

abbrev pub LeftHasType : Context → Left → Sort → Type 0
LeftHasType C l r = (s : Sort) × IsVariableOf C l.name s × Leads C l.indices s r

-- each left side and its right side have one type
abbrev pub Assigns : Context → List Left → List Expr → Type 0
Assigns C [] [] = Unit {0}
Assigns C [] (e ∷ es) = ⊥
Assigns C (l ∷ ls) [] = ⊥
Assigns C (l ∷ ls) (e ∷ es) = ((s : Sort) × LeftHasType C l s × HasType C e.kind s) × Assigns C ls es

abbrev pub Calls : Routine → List Text → Text → List Expr → Type 0
Calls R xs f es =
    (q : Callee) × (named R.scope.procedures f ≡ Some q) × AreVariablesOf R.context xs q.outs
    × AllHave R.context es q.ins

abbrev pub AllTruths : Context → List Invariant → Type 0
AllTruths C [] = Unit {0}
AllTruths C (i ∷ is) = HasType C i.expr.kind Bool × AllTruths C is

abbrev mutual
  pub IsTypedStmt : Routine → Test → StmtKind → Type 0
  IsTypedStmt R loop (Assert e) = HasType R.context e.kind Bool
  IsTypedStmt R loop (Assume e) = HasType R.context e.kind Bool
  IsTypedStmt R loop (Assign ls es) = Assigns R.context ls es
  IsTypedStmt R loop (Call xs f es) = Calls R xs f es
  IsTypedStmt R loop (If' e shape a shape' b) =
      HasType R.context e.kind Bool × AreTypedStmts R loop a × AreTypedStmts R loop b
  IsTypedStmt R loop (While' e invs shape body) =
      HasType R.context e.kind Bool × AllTruths R.context invs × AreTypedStmts R true body
  IsTypedStmt R loop Break = loop ≡ true
  IsTypedStmt R loop Return = Unit {0}

  pub AreTypedStmts : Routine → Test → {n : _} → Row_of-Stmt n → Type 0
  AreTypedStmts R loop end_of-Stmt = Unit {0}
  AreTypedStmts R loop (more_of-Stmt p k ks) = IsTypedStmt R loop k × AreTypedStmts R loop ks

abbrev pub AllTypedStmts : Routine → Test → List Stmt → Type 0
AllTypedStmts R loop [] = Unit {0}
AllTypedStmts R loop (s ∷ ss) = IsTypedStmt R loop s.kind × AllTypedStmts R loop ss

-- the statements of a body below a head, with the `modifies` of its procedure
abbrev pub IsTypedBody : Scope → Head → List Text → Body → Type 0
IsTypedBody G h modifies b = AllTypedStmts (routine G (body_variables h b) modifies) false b.stmts

abbrev pub IsTypedOwnBody : Scope → Head → List Text → Option Body → Type 0
IsTypedOwnBody G h modifies None = Unit {0}
IsTypedOwnBody G h modifies (Some b) = IsTypedBody G h modifies b

-- the body of a declaration, if it has one
abbrev pub HasTypedBody : Scope → Decl → Type 0
HasTypedBody G (Procedure p) = IsTypedOwnBody G p.head (modifies_of p.specs) p.body
HasTypedBody G (Implementation i) =
    (q : Callee) × (named G.procedures i.head.name ≡ Some q) × IsTypedBody G i.head q.modifies i.body
HasTypedBody G _ = Unit {0}

abbrev pub HaveTypedBodies : Scope → List Decl → Type 0
HaveTypedBodies G [] = Unit {0}
HaveTypedBodies G (d ∷ ds) = HasTypedBody G d × HaveTypedBodies G ds

-- in the bodies of a well-typed program each expression has the type that it is used at
abbrev pub BodiesAreTyped : Type 0
BodiesAreTyped =
    (P : Program) → WellTyped P → (G : Scope) × (enter_all nothing P.decls ≡ Ok G) × HaveTypedBodies G P.decls
