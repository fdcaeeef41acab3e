-- The first rule that a statement breaks.
use Rattle.std.specs.Prelude.{Bool, true, false, List, [], ◌∷◌, map, Option, Some, None, Result, Ok, Err, if◌then◌else◌}
use Rattle.sd_base.specs.declared.sort.Sort.{Sort}
use Rattle.sd_base.specs.declared.sort.Place.{Place}
use Rattle.sd_base.specs.Value.{Text}
use Rattle.sd_ast.specs.declared.tree.Expr.{Expr}
use Rattle.sd_ast.specs.declared.tree.Left.{Left}
use Rattle.sd_ast.specs.declared.tree.Invariant.{Invariant}
use Rattle.sd_ast.specs.declared.tree.Stmt.{Stmt}
use Rattle.sd_ast.specs.declared.tree.StmtKind.{StmtKind, Assert, Assume, Assign, Call, If', While', Break, Return, Row_of-Stmt, end_of-Stmt, more_of-Stmt}
use Rattle.sd_types.specs.declared.refusal.TypeError.{TypeError}
use Rattle.sd_types.specs.declared.refusal.TypeError.TheVariants.{ReadOnly, NotModified, NoBody, NoLoop}
use Rattle.sd_types.specs.declared.scope.Nature.{Nature}
use Rattle.sd_types.specs.declared.scope.Nature.TheVariants.{Constant, Global, Input, Output, Local}
use Rattle.sd_types.specs.declared.scope.Site.TheVariants as site
use Rattle.sd_types.specs.declared.scope.Variable.{Variable}
use Rattle.sd_types.specs.declared.scope.Callee.{Callee}
use Rattle.sd_types.specs.declared.scope.Scope.{Scope}
use Rattle.sd_types.specs.declared.scope.Frame.{Frame}
use Rattle.sd_types.specs.declared.scope.Given.{Given}
use Rattle.sd_types.specs.Names.{is_among}
use Rattle.sd_types.specs.Answer.{and_then, both, each, all_of}
use Rattle.sd_types.specs.Tables.{named, with_names}
use Rattle.sd_types.specs.Scopes.{Context, context, declared_as}
use Rattle.sd_types.specs.Phrases.{at_place, sort_in, all_given, is_truth, agree, same_number, selected}

-- what the statements of a body see: the text, the names in expressions, and the `modifies` of the procedure
pub record Routine : Type 0 where
  pub scope : Scope
  pub context : Context
  pub modifies : Text → Bool

abbrev pub routine : Scope → List (Text × Variable) → List Text → Routine
routine G locals M = record { scope = G; context = context G locals site.Body; modifies = is_among M }

abbrev pub routine_of : Frame → Routine
routine_of f = routine f.scope.now f.locals.now f.modifies.now

-- ---- names that are assigned

-- no name stands twice
abbrev pub distinct : List Text → Result (Unit {0}) TypeError
distinct xs = and_then (with_names [] xs) (λ _. Ok tt)

-- the type of a variable, as that of a phrase at the statement's place
abbrev pub target : Context → Place → Text → Result Given TypeError
target C p x = and_then (sort_in x (C.variable x)) (λ s. Ok (at_place p s))

abbrev pub targets : Context → Place → List Text → Result (List Given) TypeError
targets C p xs = all_of (target C p) xs

-- in-parameters and constants aren't assigned, and globals are in `modifies`
abbrev pub assigned_as : (Text → Bool) → Text → Nature → Result (Unit {0}) TypeError
assigned_as M x Constant = Err (ReadOnly x)
assigned_as M x Input = Err (ReadOnly x)
assigned_as M x Global = if M x then Ok tt else Err (NotModified x)
assigned_as M x Output = Ok tt
assigned_as M x Local = Ok tt

abbrev pub assignable : Routine → Text → Result (Unit {0}) TypeError
assignable R x = and_then (declared_as x (R.context.variable x)) (λ v. assigned_as R.modifies x v.nature)

-- ---- assignments

-- the type of what stands in a variable of this type at these indices
abbrev pub indexed : Place → Sort → List Given → Result Sort TypeError
indexed p s [] = Ok s
indexed p s (g ∷ gs) = and_then (selected p s g) (λ t. indexed p t gs)

abbrev pub left_sort : Context → Place → Left → Result Sort TypeError
left_sort C p l =
    and_then (sort_in l.name (C.variable l.name)) (λ s. and_then (all_given C l.indices) (λ gs. indexed p s gs))

abbrev pub left_names : List Left → List Text
left_names ls = map (λ l. l.name) ls

abbrev pub typed_indices : Context → Left → Result (Unit {0}) TypeError
typed_indices C l = and_then (all_given C l.indices) (λ _. Ok tt)

-- the rules by number, once all phrases inside have types
abbrev pub assignment : Routine → Place → List Left → List Given → Result (Unit {0}) TypeError
assignment R p ls gs =
    both (distinct (left_names ls))
    (and_then (targets R.context p (left_names ls)) (λ _.
    and_then (all_of (left_sort R.context p) ls) (λ ss.
    both (agree ss gs)
    (both (same_number p ss gs)
    (each (assignable R) (left_names ls))))))

abbrev pub assign_rule : Routine → Place → List Left → List Expr → Result (Unit {0}) TypeError
assign_rule R p ls es =
    both (each (typed_indices R.context) ls) (and_then (all_given R.context es) (λ gs. assignment R p ls gs))

-- ---- calls

abbrev pub is_global : Option Variable → Bool
is_global None = false
is_global (Some v) = elim v.nature [ Global ↦ true | _ ↦ false ]

-- a global that the callee modifies is in the caller's `modifies`
abbrev pub modified_rule : Routine → Text → Result (Unit {0}) TypeError
modified_rule R x =
    if is_global (named R.scope.globals x) then (if R.modifies x then Ok tt else Err (NotModified x)) else Ok tt

abbrev pub has_body : List Text → Text → Result (Unit {0}) TypeError
has_body bodies f = if is_among bodies f then Ok tt else Err (NoBody f)

-- the types and numbers of receivers and arguments
abbrev pub same_numbers : Place → Callee → List Given → List Given → Result (Unit {0}) TypeError
same_numbers p q ts gs = both (same_number p q.outs ts) (same_number p q.ins gs)

abbrev pub fits_callee : Place → Callee → List Given → List Given → Result (Unit {0}) TypeError
fits_callee p q ts gs = both (agree q.outs ts) (both (agree q.ins gs) (same_numbers p q ts gs))

-- the rules by number, once the arguments have types
abbrev pub callee_rule : Routine → Place → List Text → Text → List Given → Result (Unit {0}) TypeError
callee_rule R p xs f gs =
    both (distinct xs)
    (and_then (targets R.context p xs) (λ ts.
    and_then (declared_as f (named R.scope.procedures f)) (λ q.
    both (fits_callee p q ts gs)
    (both (each (assignable R) xs)
    (both (each (modified_rule R) q.modifies)
    (has_body R.scope.bodies f))))))

abbrev pub call_rule : Routine → Place → List Text → Text → List Expr → Result (Unit {0}) TypeError
call_rule R p xs f es = and_then (all_given R.context es) (λ gs. callee_rule R p xs f gs)

-- ---- statements

abbrev pub true_invariant : Context → Invariant → Result (Unit {0}) TypeError
true_invariant C i = is_truth C i.expr

-- `break` stands in a loop
abbrev pub break_rule : Bool → Place → Result (Unit {0}) TypeError
break_rule true p = Ok tt
break_rule false p = Err (NoLoop p)

abbrev mutual
  -- a statement at this place, inside a loop or not
  pub stmt_rule : Routine → Bool → Place → StmtKind → Result (Unit {0}) TypeError
  stmt_rule R loop p (Assert e) = is_truth R.context e
  stmt_rule R loop p (Assume e) = is_truth R.context e
  stmt_rule R loop p (Assign ls es) = assign_rule R p ls es
  stmt_rule R loop p (Call xs f es) = call_rule R p xs f es
  stmt_rule R loop p (If' e shape a shape' b) =
      both (is_truth R.context e) (both (row_rule R loop a) (row_rule R loop b))
  stmt_rule R loop p (While' e invs shape body) =
      both (is_truth R.context e) (both (each (true_invariant R.context) invs) (row_rule R true body))
  stmt_rule R loop p Break = break_rule loop p
  stmt_rule R loop p Return = Ok tt

  pub row_rule : Routine → Bool → {n : _} → Row_of-Stmt n → Result (Unit {0}) TypeError
  row_rule R loop end_of-Stmt = Ok tt
  row_rule R loop (more_of-Stmt p k ks) = both (stmt_rule R loop p k) (row_rule R loop ks)

-- the same of a list
abbrev pub each_stmt : Routine → Bool → List Stmt → Result (Unit {0}) TypeError
each_stmt R loop ss = each (λ s. stmt_rule R loop s.at s.kind) ss
