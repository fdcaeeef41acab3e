-- In the bodies of a well-typed program each expression has the type that it is used at.
use Rattle.std.proofs.Common.{◌≡◌, Bool as Test, true, false, List, [], ◌∷◌, Option, Some, None, Result, Ok, Err, refl, sym, ap, subst}
use Rattle.sd_base.specs.declared.sort.Sort.{Sort, Bool}
use Rattle.sd_base.specs.declared.sort.Place.{Place}
use Rattle.sd_base.specs.Value.{Text}
use Rattle.sd_ast.specs.declared.tree.Expr.{Expr}
use Rattle.sd_ast.specs.declared.tree.Left.{Left}
use Rattle.sd_ast.specs.declared.tree.Head.{Head}
use Rattle.sd_ast.specs.declared.tree.Body.{Body}
use Rattle.sd_ast.specs.declared.tree.Decl.{Decl}
use Rattle.sd_ast.specs.declared.tree.Decl.TheVariants.{Procedure, Implementation}
use Rattle.sd_ast.specs.declared.tree.Program.{Program}
use Rattle.sd_ast.specs.declared.tree.Invariant.{Invariant}
use Rattle.sd_ast.specs.declared.tree.Stmt.{Stmt}
use Rattle.sd_ast.specs.declared.tree.StmtKind.{StmtKind, Assert, Assume, Assign, Call, If', While', Break, Return, Row_of-Stmt, end_of-Stmt, more_of-Stmt}
use Rattle.sd_types.specs.declared.refusal.TypeError.{TypeError}
use Rattle.sd_types.specs.declared.scope.Scope.{Scope}
use Rattle.sd_types.specs.declared.scope.Given.{Given}
use Rattle.sd_types.specs.Answer.{and_then, both, each, all_of}
use Rattle.sd_types.specs.Tables.{named}
use Rattle.sd_types.specs.Scopes.{Context, declared_as}
use Rattle.sd_types.specs.Phrases.{is_of, agree, same_number, selected, sort_in, at_place, sort_of, given, all_given, is_truth}
use Rattle.sd_types.specs.Statements.{Routine, routine, distinct, target, targets, assignable, modified_rule, has_body, indexed, left_sort, left_names, typed_indices, assignment, assign_rule, same_numbers, fits_callee, callee_rule, call_rule, true_invariant, break_rule, stmt_rule, row_rule, each_stmt}
use Rattle.sd_types.specs.Declarations.{modifies_of, body_variables, nothing, enter_all, known_vars, head_rule, spec_rule, parameters, body_stmts_rule, body_rule, own_body_rule, same_types, decl_rule, scope_of, program_rule, refusal, WellTyped}
use Rattle.sd_types.specs.Typing.{HasType}
use Rattle.sd_types.specs.TypedBodies.{AllHave, IsVariableOf, AreVariablesOf, Leads, LeftHasType, Assigns, Calls, AllTruths, IsTypedStmt, AreTypedStmts, AllTypedStmts, IsTypedBody, IsTypedOwnBody, HasTypedBody, HaveTypedBodies, BodiesAreTyped}
use Rattle.sd_types.proofs.DeclaredLemmas.{entered-all}
use Rattle.sd_types.proofs.TypingLemmas.{ok_of, ok_is, parts, fits-same, selected-map, sorts_given, agree-sorts, numbers-same, named-as, has_type}

-- ---- expressions

pub truth-typed : (C : Context) (e : Expr) (u : Unit {0}) → is_truth C e ≡ Ok u → HasType C e.kind Bool
truth-typed C e u h =
    let k = parts (sort_of C e.at e.kind) (λ s. is_of Bool e.at s) u h in
    subst (HasType C e.kind) (sym (fits-same Bool e.at k.0 u k.2)) (has_type C e.at e.kind k.0 k.1)

given-typed : (C : Context) (e : Expr) (g : Given) → given C e ≡ Ok g → HasType C e.kind g.sort
given-typed C e g h =
    let k = parts (sort_of C e.at e.kind) (λ s. ok_of (at_place e.at s)) g h in
    subst (λ (x : Given). HasType C e.kind x.sort) (ok_is k.2) (has_type C e.at e.kind k.0 k.1)

all-typed : (C : Context) (es : List Expr) (gs : List Given) → all_given C es ≡ Ok gs → AllHave C es (sorts_given gs)
all-typed C [] gs h = subst (λ (l : List Given). AllHave C [] (sorts_given l)) (ok_is h) tt
all-typed C (e ∷ es) gs h =
    let k = parts (given C e) (λ b. and_then (all_given C es) (λ bs. ok_of (b ∷ bs))) gs h in
    let l = parts (all_given C es) (λ bs. ok_of (k.0 ∷ bs)) gs k.2 in
    subst (λ (x : List Given). AllHave C (e ∷ es) (sorts_given x)) (ok_is l.2) (given-typed C e k.0 k.1, all-typed C es l.0 l.1)

-- ---- assigned variables

target-typed : (C : Context) (p : Place) (x : Text) (g : Given) → target C p x ≡ Ok g → IsVariableOf C x g.sort
target-typed C p x g h =
    let k = parts (sort_in x (C.variable x)) (λ s. ok_of (at_place p s)) g h in
    subst (λ (z : Given). IsVariableOf C x z.sort) (ok_is k.2) (named-as x (C.variable x) k.0 k.1)

targets-typed : (C : Context) (p : Place) (xs : List Text) (gs : List Given) → targets C p xs ≡ Ok gs → AreVariablesOf C xs (sorts_given gs)
targets-typed C p [] gs h = subst (λ (l : List Given). AreVariablesOf C [] (sorts_given l)) (ok_is h) tt
targets-typed C p (x ∷ xs) gs h =
    let k = parts (target C p x) (λ b. and_then (targets C p xs) (λ bs. ok_of (b ∷ bs))) gs h in
    let l = parts (targets C p xs) (λ bs. ok_of (k.0 ∷ bs)) gs k.2 in
    subst (λ (z : List Given). AreVariablesOf C (x ∷ xs) (sorts_given z)) (ok_is l.2) (target-typed C p x k.0 k.1, targets-typed C p xs l.0 l.1)

indexed-leads : (C : Context) (p : Place) (es : List Expr) (gs : List Given) → AllHave C es (sorts_given gs) → (s r : Sort) → indexed p s gs ≡ Ok r → Leads C es s r
indexed-leads C p [] [] w s r h = ok_is h
indexed-leads C p [] (g ∷ gs) w s r h = absurd w
indexed-leads C p (e ∷ es) [] w s r h = absurd w
indexed-leads C p (e ∷ es) (g ∷ gs) w s r h =
    let k = parts (selected p s g) (λ t. indexed p t gs) r h in
    (g.sort, k.0, selected-map p s g k.0 k.1, w.0, indexed-leads C p es gs w.1 k.0 r k.2)

left-typed : (C : Context) (p : Place) (l : Left) (r : Sort) → left_sort C p l ≡ Ok r → LeftHasType C l r
left-typed C p l r h =
    let k = parts (sort_in l.name (C.variable l.name)) (λ s. and_then (all_given C l.indices) (λ gs. indexed p s gs)) r h in
    let j = parts (all_given C l.indices) (λ gs. indexed p k.0 gs) r k.2 in
    (k.0, named-as l.name (C.variable l.name) k.0 k.1, indexed-leads C p l.indices j.0 (all-typed C l.indices j.0 j.1) k.0 r j.2)

-- ---- statements

sides-typed : (C : Context) (p : Place) (ls : List Left) (es : List Expr) (ss : List Sort) → all_of (left_sort C p) ls ≡ Ok ss → AllHave C es ss → Assigns C ls es
sides-typed C p [] [] ss h w = tt
sides-typed C p [] (e ∷ es) ss h w = absurd (subst (AllHave C (e ∷ es)) (sym (ok_is h)) w)
sides-typed C p (l ∷ ls) es ss h w =
    let k = parts (left_sort C p l) (λ b. and_then (all_of (left_sort C p) ls) (λ bs. ok_of (b ∷ bs))) ss h in
    let j = parts (all_of (left_sort C p) ls) (λ bs. ok_of (k.0 ∷ bs)) ss k.2 in
    go k.0 j.0 es (subst (AllHave C es) (sym (ok_is j.2)) w) (λ r v. sides-typed C p ls r j.0 j.1 v) (left-typed C p l k.0 k.1)
  where
    go : (s : Sort) (ts : List Sort) (es : List Expr) → AllHave C es (s ∷ ts) → ((r : List Expr) → AllHave C r ts → Assigns C ls r) → LeftHasType C l s → Assigns C (l ∷ ls) es
    go s ts [] v rest t = absurd v
    go s ts (e ∷ r) v rest t = ((s, t, v.0), rest r v.1)

pub assign-typed : (R : Routine) (p : Place) (ls : List Left) (es : List Expr) (u : Unit {0}) → assign_rule R p ls es ≡ Ok u → Assigns R.context ls es
assign-typed R p ls es u h =
    let a = parts (each (typed_indices R.context) ls) (λ _. and_then (all_given R.context es) (λ gs. assignment R p ls gs)) u h in
    let b = parts (all_given R.context es) (λ gs. assignment R p ls gs) u a.2 in
    let c = parts (distinct (left_names ls)) (λ _. and_then (targets R.context p (left_names ls)) (λ _. and_then (all_of (left_sort R.context p) ls) (λ ss. both (agree ss b.0) (both (same_number p ss b.0) (each (assignable R) (left_names ls)))))) u b.2 in
    let d = parts (targets R.context p (left_names ls)) (λ _. and_then (all_of (left_sort R.context p) ls) (λ ss. both (agree ss b.0) (both (same_number p ss b.0) (each (assignable R) (left_names ls))))) u c.2 in
    let e = parts (all_of (left_sort R.context p) ls) (λ ss. both (agree ss b.0) (both (same_number p ss b.0) (each (assignable R) (left_names ls)))) u d.2 in
    let f = parts (agree e.0 b.0) (λ _. both (same_number p e.0 b.0) (each (assignable R) (left_names ls))) u e.2 in
    let g = parts (same_number p e.0 b.0) (λ _. each (assignable R) (left_names ls)) u f.2 in
    sides-typed R.context p ls es e.0 e.1
    (subst (AllHave R.context es) (sym (agree-sorts e.0 b.0 f.1 (numbers-same p e.0 b.0 g.0 g.1))) (all-typed R.context es b.0 b.1))

pub declared-as : {X : Type 0} (x : Text) (o : Option X) (v : X) → declared_as x o ≡ Ok v → o ≡ Some v
declared-as x None v h = absurd (cc)
declared-as x (Some w) v h = ap Some (ok_is h)

pub call-typed : (R : Routine) (p : Place) (xs : List Text) (f : Text) (es : List Expr) (u : Unit {0}) → call_rule R p xs f es ≡ Ok u → Calls R xs f es
call-typed R p xs f es u h =
    let a = parts (all_given R.context es) (λ gs. callee_rule R p xs f gs) u h in
    let b = parts (distinct xs) (λ _. and_then (targets R.context p xs) (λ ts. and_then (declared_as f (named R.scope.procedures f)) (λ q. both (fits_callee p q ts a.0) (both (each (assignable R) xs) (both (each (modified_rule R) q.modifies) (has_body R.scope.bodies f)))))) u a.2 in
    let c = parts (targets R.context p xs) (λ ts. and_then (declared_as f (named R.scope.procedures f)) (λ q. both (fits_callee p q ts a.0) (both (each (assignable R) xs) (both (each (modified_rule R) q.modifies) (has_body R.scope.bodies f))))) u b.2 in
    let d = parts (declared_as f (named R.scope.procedures f)) (λ q. both (fits_callee p q c.0 a.0) (both (each (assignable R) xs) (both (each (modified_rule R) q.modifies) (has_body R.scope.bodies f)))) u c.2 in
    let e = parts (fits_callee p d.0 c.0 a.0) (λ _. both (each (assignable R) xs) (both (each (modified_rule R) d.0.modifies) (has_body R.scope.bodies f))) u d.2 in
    let i = parts (agree d.0.outs c.0) (λ _. both (agree d.0.ins a.0) (same_numbers p d.0 c.0 a.0)) e.0 e.1 in
    let j = parts (agree d.0.ins a.0) (λ _. same_numbers p d.0 c.0 a.0) e.0 i.2 in
    let k = parts (same_number p d.0.outs c.0) (λ _. same_number p d.0.ins a.0) e.0 j.2 in (
      d.0,
      declared-as f (named R.scope.procedures f) d.0 d.1,
      subst (AreVariablesOf R.context xs) (sym (agree-sorts d.0.outs c.0 i.1 (numbers-same p d.0.outs c.0 k.0 k.1))) (targets-typed R.context p xs c.0 c.1),
      subst (AllHave R.context es) (sym (agree-sorts d.0.ins a.0 j.1 (numbers-same p d.0.ins a.0 e.0 k.2))) (all-typed R.context es a.0 a.1),
    )

pub truths-typed : (C : Context) (invs : List Invariant) (u : Unit {0}) → each (true_invariant C) invs ≡ Ok u → AllTruths C invs
truths-typed C [] u h = tt
truths-typed C (i ∷ invs) u h =
    let k = parts (true_invariant C i) (λ _. each (true_invariant C) invs) u h in (truth-typed C i.expr k.0 k.1, truths-typed C invs u k.2)

pub in_loop : (loop : Test) (p : Place) (u : Unit {0}) → break_rule loop p ≡ Ok u → loop ≡ true
in_loop true p u h = refl
in_loop false p u h = absurd (cc)

mutual
  stmt-typed : (R : Routine) (loop : Test) (p : Place) (s : StmtKind) (u : Unit {0}) → stmt_rule R loop p s ≡ Ok u → IsTypedStmt R loop s
  stmt-typed R loop p (Assert e) u h = truth-typed R.context e u h
  stmt-typed R loop p (Assume e) u h = truth-typed R.context e u h
  stmt-typed R loop p (Assign ls es) u h = assign-typed R p ls es u h
  stmt-typed R loop p (Call xs f es) u h = call-typed R p xs f es u h
  stmt-typed R loop p (If' e shape a shape' b) u h =
      let k = parts (is_truth R.context e) (λ _. both (row_rule R loop a) (row_rule R loop b)) u h in
      let l = parts (row_rule R loop a) (λ _. row_rule R loop b) u k.2 in
      (truth-typed R.context e k.0 k.1, row-typed R loop a l.0 l.1, row-typed R loop b u l.2)
  stmt-typed R loop p (While' e invs shape body) u h =
      let k = parts (is_truth R.context e) (λ _. both (each (true_invariant R.context) invs) (row_rule R true body)) u h in
      let l = parts (each (true_invariant R.context) invs) (λ _. row_rule R true body) u k.2 in
      (truth-typed R.context e k.0 k.1, truths-typed R.context invs l.0 l.1, row-typed R true body u l.2)
  stmt-typed R loop p Break u h = in_loop loop p u h
  stmt-typed R loop p Return u h = tt

  row-typed : (R : Routine) (loop : Test) {n : _} (ks : Row_of-Stmt n) (u : Unit {0}) → row_rule R loop ks ≡ Ok u → AreTypedStmts R loop ks
  row-typed R loop end_of-Stmt u h = tt
  row-typed R loop (more_of-Stmt p k ks) u h =
      let j = parts (stmt_rule R loop p k) (λ _. row_rule R loop ks) u h in (stmt-typed R loop p k j.0 j.1, row-typed R loop ks u j.2)

stmts-typed : (R : Routine) (loop : Test) (ss : List Stmt) (u : Unit {0}) → each_stmt R loop ss ≡ Ok u → AllTypedStmts R loop ss
stmts-typed R loop [] u h = tt
stmts-typed R loop (s ∷ ss) u h =
    let k = parts (stmt_rule R loop s.at s.kind) (λ _. each_stmt R loop ss) u h in (stmt-typed R loop s.at s.kind k.0 k.1, stmts-typed R loop ss u k.2)

-- ---- declarations

body-typed : (G : Scope) (h : Head) (modifies : List Text) (b : Body) (u : Unit {0}) → body_rule G h modifies b ≡ Ok u → IsTypedBody G h modifies b
body-typed G h modifies b u e =
    let k = parts (known_vars G.types b.locals) (λ _. body_stmts_rule G h modifies b) u e in
    stmts-typed (routine G (body_variables h b) modifies) false b.stmts u k.2

own-typed : (G : Scope) (h : Head) (modifies : List Text) (b : Option Body) (u : Unit {0}) → own_body_rule G h modifies b ≡ Ok u → IsTypedOwnBody G h modifies b
own-typed G h modifies None u e = tt
own-typed G h modifies (Some b) u e = body-typed G h modifies b u e

decl-typed : (G : Scope) (d : Decl) (u : Unit {0}) → decl_rule G d ≡ Ok u → HasTypedBody G d
decl-typed G (Procedure p) u h =
    let k = parts (head_rule G.types p.head) (λ _. both (each (spec_rule G (parameters p.head)) p.specs) (own_body_rule G p.head (modifies_of p.specs) p.body)) u h in
    let l = parts (each (spec_rule G (parameters p.head)) p.specs) (λ _. own_body_rule G p.head (modifies_of p.specs) p.body) u k.2 in
    own-typed G p.head (modifies_of p.specs) p.body u l.2
decl-typed G (Implementation i) u h =
    let k = parts (head_rule G.types i.head) (λ _. and_then (declared_as i.head.name (named G.procedures i.head.name)) (λ q. both (same_types i.head q) (body_rule G i.head q.modifies i.body))) u h in
    let l = parts (declared_as i.head.name (named G.procedures i.head.name)) (λ q. both (same_types i.head q) (body_rule G i.head q.modifies i.body)) u k.2 in
    let m = parts (same_types i.head l.0) (λ _. body_rule G i.head l.0.modifies i.body) u l.2 in
    (l.0, declared-as i.head.name (named G.procedures i.head.name) l.0 l.1, body-typed G i.head l.0.modifies i.body u m.2)
decl-typed G _ u h = tt

decls-typed : (G : Scope) (ds : List Decl) (u : Unit {0}) → each (decl_rule G) ds ≡ Ok u → HaveTypedBodies G ds
decls-typed G [] u h = tt
decls-typed G (d ∷ ds) u h =
    let k = parts (decl_rule G d) (λ _. each (decl_rule G) ds) u h in (decl-typed G d k.0 k.1, decls-typed G ds u k.2)

pub none_broken : (d : Result (Unit {0}) TypeError) → refusal d ≡ None → d ≡ Ok tt
none_broken (Ok u) h = refl
none_broken (Err e) h = absurd (cc)

-- what a well-typed program declares, and its rules
pub typed_scope : (P : Program) → WellTyped P → (G : Scope) × (enter_all nothing P.decls ≡ Ok G) × (each (decl_rule G) P.decls ≡ Ok tt)
typed_scope P w =
    let k = parts (scope_of P.decls) (λ G. each (decl_rule G) P.decls) tt (none_broken (program_rule P) w) in
    (k.0, entered-all P.decls nothing k.0 refl k.1 (decls-typed k.0 P.decls tt k.2), k.2)

pub bodies_typed : BodiesAreTyped
bodies_typed P w = let k = typed_scope P w in (k.0, k.1, decls-typed k.0 P.decls tt k.2)
