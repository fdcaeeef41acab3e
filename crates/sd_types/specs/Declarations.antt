-- What a text declares, and the first rule that a declaration breaks.
use Rattle.std.specs.Prelude.{◌≡◌, Bool, true, false, ◌&&◌, List, [], ◌∷◌, ◌++◌, map, Option, Some, None, Result, Ok, Err, if◌then◌else◌}
use Rattle.sd_base.specs.declared.sort.Sort.{Sort}
use Rattle.sd_base.specs.declared.sort.Var.{Var}
use Rattle.sd_base.specs.Sorts.{same_sort}
use Rattle.sd_base.specs.Value.{Text}
use Rattle.sd_ast.specs.declared.tree.Expr.{Expr}
use Rattle.sd_ast.specs.declared.tree.Head.{Head}
use Rattle.sd_ast.specs.declared.tree.Body.{Body}
use Rattle.sd_ast.specs.declared.tree.Proc.{Proc}
use Rattle.sd_ast.specs.declared.tree.Impl.{Impl}
use Rattle.sd_ast.specs.declared.tree.Spec.{Spec}
use Rattle.sd_ast.specs.declared.tree.Spec.TheVariants.{Modifies, Requires, Ensures}
use Rattle.sd_ast.specs.declared.tree.Decl.{Decl}
use Rattle.sd_ast.specs.declared.tree.Decl.TheVariants.{Types, Const, Function, Axiom, Globals, Procedure, Implementation}
use Rattle.sd_ast.specs.declared.tree.Program.{Program}
use Rattle.sd_ast.specs.Tree.{names_of}
use Rattle.sd_types.specs.declared.refusal.TypeError.{TypeError}
use Rattle.sd_types.specs.declared.refusal.TypeError.TheVariants.{Unknown, Kind}
use Rattle.sd_types.specs.declared.scope.Nature.{Nature}
use Rattle.sd_types.specs.declared.scope.Nature.TheVariants as nature
use Rattle.sd_types.specs.declared.scope.Site.TheVariants as site
use Rattle.sd_types.specs.declared.scope.Variable.{Variable}
use Rattle.sd_types.specs.declared.scope.Callee.{Callee}
use Rattle.sd_types.specs.declared.scope.Scope.{Scope}
use Rattle.sd_types.specs.Names.{is_among}
use Rattle.sd_types.specs.Answer.{and_then, both, each}
use Rattle.sd_types.specs.Tables.{named, with_name, with_names, with_entry, with_entries}
use Rattle.sd_types.specs.Scopes.{context, declared_as}
use Rattle.sd_types.specs.Phrases.{known_sort, is_truth}
use Rattle.sd_types.specs.Statements.{routine, each_stmt, is_global}

-- ---- what is declared

abbrev pub sorts_of_vars : List Var → List Sort
sorts_of_vars vars = map (λ x. x.sort) vars

abbrev pub variables_as : Nature → List Var → List (Text × Variable)
variables_as n vars = map (λ x. (x.name, record { sort = x.sort; nature = n })) vars

abbrev pub constants_of : Sort → List Text → List (Text × Variable)
constants_of s names = map (λ x. (x, record { sort = s; nature = nature.Constant })) names

abbrev pub parameters : Head → List (Text × Variable)
parameters h = variables_as nature.Input h.ins ++ variables_as nature.Output h.outs

-- the names of the `modifies` clauses, in order
abbrev pub modifies_of : List Spec → List Text
modifies_of [] = []
modifies_of (Modifies names ∷ ss) = names ++ modifies_of ss
modifies_of (Requires free e ∷ ss) = modifies_of ss
modifies_of (Ensures free e ∷ ss) = modifies_of ss

abbrev pub callee_of : Proc → Callee
callee_of p =
    record { ins = sorts_of_vars p.head.ins; outs = sorts_of_vars p.head.outs; modifies = modifies_of p.specs }

abbrev pub locals_of : Option Body → List Var
locals_of None = []
locals_of (Some b) = b.locals

-- ---- no name is declared twice in its space

-- the parameters and locals of one procedure
abbrev pub own_names : Head → List Var → Result (List Text) TypeError
own_names h locals =
    and_then (with_names [] (names_of h.ins))
    (λ ins. and_then (with_names ins (names_of h.outs)) (λ outs. with_names outs (names_of locals)))

-- one more body
abbrev pub with_body : List Text → Text → Option Body → Result (List Text) TypeError
with_body bodies f None = Ok bodies
with_body bodies f (Some b) = with_name bodies f

abbrev pub enter_procedure : Scope → Proc → Result Scope TypeError
enter_procedure G p =
    and_then (with_entry G.procedures p.head.name (callee_of p)) (λ ps.
    and_then (with_body G.bodies p.head.name p.body) (λ bs.
    and_then (own_names p.head (locals_of p.body)) (λ _.
    Ok (record G { procedures = ps; bodies = bs }))))

-- The names of the procedures that are declared.
abbrev pub procedure_names : List Decl → List Text
procedure_names [] = []
procedure_names (Procedure p ∷ ds) = p.head.name ∷ procedure_names ds
procedure_names (_ ∷ ds) = procedure_names ds

-- one more body in an implementation, which counts where its procedure is declared
abbrev pub with_implementation : (declared : Bool) → List Text → Text → Result (List Text) TypeError
with_implementation true bodies f = with_name bodies f
with_implementation false bodies f = Ok bodies

abbrev pub enter_implementation_of : (declared : Text → Bool) → Scope → Impl → Result Scope TypeError
enter_implementation_of declared G i =
    and_then (with_implementation (declared i.head.name) G.bodies i.head.name) (λ bs.
    and_then (own_names i.head i.body.locals) (λ _.
    Ok (record G { bodies = bs })))

-- What is declared after one more declaration, where the text declares these procedures. A body belongs to a declared
-- procedure: other implementations are refused later, by the first of their names, and not as second bodies.
abbrev pub enter_of : (declared : Text → Bool) → Scope → Decl → Result Scope TypeError
enter_of declared G (Types names) = and_then (with_names G.types names) (λ ts. Ok (record G { types = ts }))
enter_of declared G (Const unique names s) =
    and_then (with_entries G.globals (constants_of s names)) (λ es. Ok (record G { globals = es }))
enter_of declared G (Function f args r) =
    and_then (with_entry G.functions f (record { args = args; result = r })) (λ es. Ok (record G { functions = es }))
enter_of declared G (Axiom e) = Ok G
enter_of declared G (Globals vars) =
    and_then (with_entries G.globals (variables_as nature.Global vars)) (λ es. Ok (record G { globals = es }))
enter_of declared G (Procedure p) = enter_procedure G p
enter_of declared G (Implementation i) = enter_implementation_of declared G i

abbrev pub enter_all_of : (declared : Text → Bool) → Scope → List Decl → Result Scope TypeError
enter_all_of declared G [] = Ok G
enter_all_of declared G (d ∷ ds) = and_then (enter_of declared G d) (λ H. enter_all_of declared H ds)

-- the same where each implementation has its procedure
abbrev pub enter_implementation : Scope → Impl → Result Scope TypeError
enter_implementation = enter_implementation_of (λ _. true)

abbrev pub enter : Scope → Decl → Result Scope TypeError
enter = enter_of (λ _. true)

abbrev pub enter_all : Scope → List Decl → Result Scope TypeError
enter_all = enter_all_of (λ _. true)

abbrev pub nothing : Scope
nothing = record { types = []; globals = []; functions = []; procedures = []; bodies = [] }

-- ---- the other rules

abbrev pub known_sorts : List Text → List Sort → Result (Unit {0}) TypeError
known_sorts types ss = each (known_sort types) ss

abbrev pub known_vars : List Text → List Var → Result (Unit {0}) TypeError
known_vars types vars = each (λ x. known_sort types x.sort) vars

abbrev pub head_rule : List Text → Head → Result (Unit {0}) TypeError
head_rule types h = both (known_vars types h.ins) (known_vars types h.outs)

-- `modifies` names globals
abbrev pub names_global : List (Text × Variable) → Text → Result (Unit {0}) TypeError
names_global globals x = if is_global (named globals x) then Ok tt else Err (Unknown x)

-- what a clause sees: the parameters, then the text
abbrev pub spec_rule : Scope → List (Text × Variable) → Spec → Result (Unit {0}) TypeError
spec_rule G locals (Modifies names) = each (names_global G.globals) names
spec_rule G locals (Requires free e) = is_truth (context G locals site.Requires) e
spec_rule G locals (Ensures free e) = is_truth (context G locals site.Ensures) e

-- what the statements of a body see before the globals
abbrev pub body_variables : Head → Body → List (Text × Variable)
body_variables h b = parameters h ++ variables_as nature.Local b.locals

abbrev pub body_stmts_rule : Scope → Head → List Text → Body → Result (Unit {0}) TypeError
body_stmts_rule G h modifies b = each_stmt (routine G (body_variables h b) modifies) false b.stmts

abbrev pub body_rule : Scope → Head → List Text → Body → Result (Unit {0}) TypeError
body_rule G h modifies b = both (known_vars G.types b.locals) (body_stmts_rule G h modifies b)

abbrev pub own_body_rule : Scope → Head → List Text → Option Body → Result (Unit {0}) TypeError
own_body_rule G h modifies None = Ok tt
own_body_rule G h modifies (Some b) = body_rule G h modifies b

abbrev pub procedure_rule : Scope → Proc → Result (Unit {0}) TypeError
procedure_rule G p =
    both (head_rule G.types p.head)
    (both (each (spec_rule G (parameters p.head)) p.specs)
    (own_body_rule G p.head (modifies_of p.specs) p.body))

abbrev pub have_sorts : List Sort → List Var → Bool
have_sorts [] [] = true
have_sorts (s ∷ ss) (x ∷ xs) = same_sort s x.sort && have_sorts ss xs
have_sorts [] (x ∷ xs) = false
have_sorts (s ∷ ss) [] = false

-- an implementation's types agree with its procedure's
abbrev pub same_types : Head → Callee → Result (Unit {0}) TypeError
same_types h q = if have_sorts q.ins h.ins && have_sorts q.outs h.outs then Ok tt else Err (Kind h.at)

abbrev pub implementation_rule : Scope → Impl → Result (Unit {0}) TypeError
implementation_rule G i =
    both (head_rule G.types i.head)
    (and_then (declared_as i.head.name (named G.procedures i.head.name)) (λ q.
    both (same_types i.head q)
    (body_rule G i.head q.modifies i.body)))

abbrev pub axiom_rule : Scope → Expr → Result (Unit {0}) TypeError
axiom_rule G e = is_truth (context G [] site.Axiom) e

abbrev pub function_rule : List Text → List Sort → Sort → Result (Unit {0}) TypeError
function_rule types args r = both (known_sorts types args) (known_sort types r)

abbrev pub decl_rule : Scope → Decl → Result (Unit {0}) TypeError
decl_rule G (Types names) = Ok tt
decl_rule G (Const unique names s) = known_sort G.types s
decl_rule G (Function f args r) = function_rule G.types args r
decl_rule G (Axiom e) = axiom_rule G e
decl_rule G (Globals vars) = known_vars G.types vars
decl_rule G (Procedure p) = procedure_rule G p
decl_rule G (Implementation i) = implementation_rule G i

-- ---- programs

-- what a text declares
abbrev pub scope_of : List Decl → Result Scope TypeError
scope_of ds = enter_all_of (is_among (procedure_names ds)) nothing ds

-- names that are declared twice come before the other rules
abbrev pub program_rule : Program → Result (Unit {0}) TypeError
program_rule P = and_then (scope_of P.decls) (λ G. each (decl_rule G) P.decls)

abbrev pub refusal : Result (Unit {0}) TypeError → Option TypeError
refusal (Ok done) = None
refusal (Err e) = Some e

-- the first rule that a program breaks, with its name or place
abbrev pub first_broken : Program → Option TypeError
first_broken P = refusal (program_rule P)

-- no rule is broken
abbrev pub WellTyped : Program → Type 0
WellTyped P = first_broken P ≡ None
