-- Well-typed programs: each name is declared once, each name that is used is declared, and each expression has the type
-- of its place.
use Rattle.std.specs.Prelude.{◌≡◌, ◌↔◌, true, false, List, [], ◌∷◌, ◌++◌, map, Option, Some, None}
use Rattle.std.specs.List.{AllByRecursion}
use Rattle.sd_base.specs.declared.sort.Sort.{Sort, Int, Bool, Named}
use Rattle.sd_base.specs.declared.sort.Var.{Var}
use Rattle.sd_base.specs.Sorts.{MapOf}
use Rattle.sd_base.specs.Value.{Text}
use Rattle.sd_ast.specs.declared.tree.Head.{Head}
use Rattle.sd_ast.specs.declared.tree.Body.{Body}
use Rattle.sd_ast.specs.declared.tree.Proc.{Proc}
use Rattle.sd_ast.specs.declared.tree.Impl.{Impl}
use Rattle.sd_ast.specs.declared.tree.Spec.{Spec}
use Rattle.sd_ast.specs.declared.tree.Spec.TheVariants.{Modifies, Requires, Ensures}
use Rattle.sd_ast.specs.declared.tree.Decl.{Decl}
use Rattle.sd_ast.specs.declared.tree.Decl.TheVariants.{Types, Const, Function, Axiom, Globals, Procedure, Implementation}
use Rattle.sd_ast.specs.declared.tree.Program.{Program}
use Rattle.sd_ast.specs.Tree.{names_of}
use Rattle.sd_types.specs.declared.scope.Nature.TheVariants as nature
use Rattle.sd_types.specs.declared.scope.Site.TheVariants as site
use Rattle.sd_types.specs.declared.scope.Variable.{Variable}
use Rattle.sd_types.specs.declared.scope.Signature.{Signature}
use Rattle.sd_types.specs.declared.scope.Callee.{Callee}
use Rattle.sd_types.specs.declared.scope.Scope.{Scope}
use Rattle.sd_types.specs.Names.{is_among}
use Rattle.sd_types.specs.Tables.{named}
use Rattle.sd_types.specs.Scopes.{context}
use Rattle.sd_types.specs.Statements.{routine}
use Rattle.sd_types.specs.Declarations.{sorts_of_vars, variables_as, constants_of, callee_of, locals_of, modifies_of, parameters, body_variables, WellTyped}
use Rattle.sd_types.specs.Typing.{HasType}
use Rattle.sd_types.specs.WellTypedStatements.{AreDistinct, IsGlobal, IsWellTypedStmt}

-- ---- what a program declares

abbrev pub types_in : List Decl → List Text
types_in [] = []
types_in (Types names ∷ ds) = names ++ types_in ds
types_in (_ ∷ ds) = types_in ds

-- globals and constants
abbrev pub globals_in : List Decl → List (Text × Variable)
globals_in [] = []
globals_in (Const unique names s ∷ ds) = constants_of s names ++ globals_in ds
globals_in (Globals vars ∷ ds) = variables_as nature.Global vars ++ globals_in ds
globals_in (_ ∷ ds) = globals_in ds

abbrev pub functions_in : List Decl → List (Text × Signature)
functions_in [] = []
functions_in (Function f args r ∷ ds) = (f, record { args = args; result = r }) ∷ functions_in ds
functions_in (_ ∷ ds) = functions_in ds

abbrev pub procedures_in : List Decl → List (Text × Callee)
procedures_in [] = []
procedures_in (Procedure p ∷ ds) = (p.head.name, callee_of p) ∷ procedures_in ds
procedures_in (_ ∷ ds) = procedures_in ds

-- the name of a procedure, where it has a body
abbrev pub body_named : Text → Option Body → List Text
body_named f None = []
body_named f (Some b) = f ∷ []

-- the procedures that have a body, each as often as it has one
abbrev pub bodies_in : List Decl → List Text
bodies_in [] = []
bodies_in (Procedure p ∷ ds) = body_named p.head.name p.body ++ bodies_in ds
bodies_in (Implementation i ∷ ds) = i.head.name ∷ bodies_in ds
bodies_in (_ ∷ ds) = bodies_in ds

abbrev pub declared_in : List Decl → Scope
declared_in ds =
    record {
      types = types_in ds;
      globals = globals_in ds;
      functions = functions_in ds;
      procedures = procedures_in ds;
      bodies = bodies_in ds;
    }

-- the parameters and locals of a procedure
abbrev pub own_names_of : Head → List Var → List Text
own_names_of h locals = names_of h.ins ++ (names_of h.outs ++ names_of locals)

abbrev pub HasOwnNamesOnce : Decl → Type 0
HasOwnNamesOnce (Procedure p) = AreDistinct (own_names_of p.head (locals_of p.body))
HasOwnNamesOnce (Implementation i) = AreDistinct (own_names_of i.head i.body.locals)
HasOwnNamesOnce _ = Unit {0}

abbrev pub entry_names : {X : Type 0} → List (Text × X) → List Text
entry_names es = map (λ e. e.0) es

-- No name is declared twice: as a type, as a global or constant, as a function, as a procedure, as a parameter or local
-- of one procedure; and no procedure has two bodies.
pub record AreDeclaredOnce (ds : List Decl) : Type 0 where
  pub types : AreDistinct (types_in ds)
  pub globals : AreDistinct (entry_names (globals_in ds))
  pub functions : AreDistinct (entry_names (functions_in ds))
  pub procedures : AreDistinct (entry_names (procedures_in ds))
  pub bodies : AreDistinct (bodies_in ds)
  pub own : AllByRecursion HasOwnNamesOnce ds

-- ---- types

-- maps are indexed by integers and by declared types
abbrev pub IsIndexSort : Sort → Type 0
IsIndexSort Int = Unit {0}
IsIndexSort Bool = ⊥
IsIndexSort (Named t) = Unit {0}
IsIndexSort (MapOf i v) = ⊥

abbrev pub IsKnownSort : List Text → Sort → Type 0
IsKnownSort types Int = Unit {0}
IsKnownSort types Bool = Unit {0}
IsKnownSort types (Named t) = is_among types t ≡ true
IsKnownSort types (MapOf i v) = IsKnownSort types i × IsKnownSort types v × IsIndexSort i

abbrev pub HaveKnownSorts : List Text → List Var → Type 0
HaveKnownSorts types vars = AllByRecursion (λ x. IsKnownSort types x.sort) vars

-- ---- declarations

abbrev pub HasKnownHead : Scope → Head → Type 0
HasKnownHead G h = HaveKnownSorts G.types h.ins × HaveKnownSorts G.types h.outs

-- a clause of a procedure with these parameters
abbrev pub IsWellTypedSpec : Scope → List (Text × Variable) → Spec → Type 0
IsWellTypedSpec G locals (Modifies names) = AllByRecursion (IsGlobal G) names
IsWellTypedSpec G locals (Requires free e) = HasType (context G locals site.Requires) e.kind Bool
IsWellTypedSpec G locals (Ensures free e) = HasType (context G locals site.Ensures) e.kind Bool

-- a body below a head, of a procedure that may modify these globals
abbrev pub IsWellTypedBody : Scope → Head → List Text → Body → Type 0
IsWellTypedBody G h modifies b =
    HaveKnownSorts G.types b.locals
    × AllByRecursion (λ s. IsWellTypedStmt (routine G (body_variables h b) modifies) false s.kind) b.stmts

abbrev pub IsWellTypedOwnBody : Scope → Head → List Text → Option Body → Type 0
IsWellTypedOwnBody G h modifies None = Unit {0}
IsWellTypedOwnBody G h modifies (Some b) = IsWellTypedBody G h modifies b

abbrev pub IsWellTypedProcedure : Scope → Proc → Type 0
IsWellTypedProcedure G p =
    HasKnownHead G p.head × AllByRecursion (IsWellTypedSpec G (parameters p.head)) p.specs
    × IsWellTypedOwnBody G p.head (modifies_of p.specs) p.body

-- its procedure is declared, with parameters of the same types
abbrev pub IsWellTypedImplementation : Scope → Impl → Type 0
IsWellTypedImplementation G i =
    HasKnownHead G i.head
    × (q : Callee) × (named G.procedures i.head.name ≡ Some q)
    × (sorts_of_vars i.head.ins ≡ q.ins) × (sorts_of_vars i.head.outs ≡ q.outs)
    × IsWellTypedBody G i.head q.modifies i.body

abbrev pub IsWellTypedDecl : Scope → Decl → Type 0
IsWellTypedDecl G (Types names) = Unit {0}
IsWellTypedDecl G (Const unique names s) = IsKnownSort G.types s
IsWellTypedDecl G (Function f args r) = AllByRecursion (IsKnownSort G.types) args × IsKnownSort G.types r
IsWellTypedDecl G (Axiom e) = HasType (context G [] site.Axiom) e.kind Bool
IsWellTypedDecl G (Globals vars) = HaveKnownSorts G.types vars
IsWellTypedDecl G (Procedure p) = IsWellTypedProcedure G p
IsWellTypedDecl G (Implementation i) = IsWellTypedImplementation G i

pub record IsWellTyped (P : Program) : Type 0 where
  pub once : AreDeclaredOnce P.decls
  pub decls : AllByRecursion (IsWellTypedDecl (declared_in P.decls)) P.decls

-- a program breaks no rule exactly where it is well typed
abbrev pub WellTypedIsExact : Type 0
WellTypedIsExact = (P : Program) → WellTyped P ↔ IsWellTyped P
