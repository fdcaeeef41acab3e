-- The procedures of a program, each with its contract and its body.
use Rattle.std.specs.Prelude.{Bool, List, [], ◌∷◌, map, Option, Some, None, option_map, if◌then◌else◌}
use Rattle.sd_base.specs.declared.Var.{Var}
use Rattle.sd_base.specs.Value.{Text, same_text}
use Rattle.sd_ast.specs.declared.Decl.{Decl}
use Rattle.sd_ast.specs.declared.Decl.TheVariants.{Procedure, Implementation}
use Rattle.sd_ast.specs.declared.Program.{Program}
use Rattle.sd_ast.specs.declared.Head.{Head}
use Rattle.sd_ast.specs.declared.Proc.{Proc}
use Rattle.sd_ast.specs.declared.Impl.{Impl}
use Rattle.sd_ast.specs.declared.Body.{Body}
use Rattle.sd_ast.specs.declared.Spec.{Spec}
use Rattle.sd_ast.specs.declared.Spec.TheVariants.{Requires, Ensures}
use Rattle.sd_ast.specs.declared.Expr.{Expr}
use Rattle.sd_ast.specs.declared.Invariant.{Invariant}

-- A procedure with a body. Contracts use the names of the declaration, and the body those of its own head.
pub record Routine : Type 0 where
  pub declared : Proc
  pub head : Head
  pub body : Body

abbrev pub procedure_in : List Decl → Text → Option Proc
procedure_in [] f = None
procedure_in (Procedure p ∷ ds) f = if same_text f p.head.name then Some p else procedure_in ds f
procedure_in (_ ∷ ds) f = procedure_in ds f

abbrev pub implementation_in : List Decl → Text → Option Impl
implementation_in [] f = None
implementation_in (Implementation i ∷ ds) f = if same_text f i.head.name then Some i else implementation_in ds f
implementation_in (_ ∷ ds) f = implementation_in ds f

abbrev pub with_body : Option Proc → Option Impl → Option Routine
with_body None i = None
with_body (Some p) (Some i) = Some (record { declared = p; head = i.head; body = i.body })
with_body (Some p) None = option_map (λ b. record { declared = p; head = p.head; body = b }) p.body

abbrev pub routine_named : Program → Text → Option Routine
routine_named P f = with_body (procedure_in P.decls f) (implementation_in P.decls f)

-- a clause that is checked, and whether it is free
pub record Clause : Type 0 where
  pub free : Bool
  pub holds : Expr

abbrev pub requires_of : List Spec → List Clause
requires_of [] = []
requires_of (Requires free e ∷ specs) = record { free = free; holds = e } ∷ requires_of specs
requires_of (_ ∷ specs) = requires_of specs

abbrev pub ensures_of : List Spec → List Clause
ensures_of [] = []
ensures_of (Ensures free e ∷ specs) = record { free = free; holds = e } ∷ ensures_of specs
ensures_of (_ ∷ specs) = ensures_of specs

abbrev pub clauses_of : List Invariant → List Clause
clauses_of [] = []
clauses_of (i ∷ is) = record { free = i.free; holds = i.expr } ∷ clauses_of is
