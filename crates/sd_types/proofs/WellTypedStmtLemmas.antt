-- Statements break no rule exactly where they are well typed.
use Rattle.std.proofs.Common.{◌≡◌, Bool as Test, true, false, List, [], ◌∷◌, Option, Some, None, Result, Ok, Err, refl, sym, ap, ◌∙◌, subst, length}
use Rattle.std.specs.Prelude.{if◌then◌else◌}
use Rattle.std.specs.List.{AllByRecursion}
use Rattle.sd_base.specs.declared.sort.Sort.{Sort, Bool}
use Rattle.sd_base.specs.declared.sort.Place.{Place}
use Rattle.sd_base.specs.Value.{Text}
use Rattle.sd_ast.specs.declared.tree.Expr.{Expr}
use Rattle.sd_ast.specs.declared.tree.Left.{Left}
use Rattle.sd_ast.specs.declared.tree.Invariant.{Invariant}
use Rattle.sd_ast.specs.declared.tree.StmtKind.{StmtKind, Assert, Assume, Assign, Call, If', While', Break, Return, Row_of-Stmt, end_of-Stmt, more_of-Stmt}
use Rattle.sd_types.specs.declared.refusal.TypeError.{TypeError}
use Rattle.sd_types.specs.declared.refusal.TypeError.TheVariants.{NotModified, NoBody}
use Rattle.sd_types.specs.declared.scope.Nature.{Nature}
use Rattle.sd_types.specs.declared.scope.Nature.TheVariants.{Constant, Global, Input, Output, Local}
use Rattle.sd_types.specs.declared.scope.Variable.{Variable}
use Rattle.sd_types.specs.declared.scope.Callee.{Callee}
use Rattle.sd_types.specs.declared.scope.Given.{Given}
use Rattle.sd_types.specs.Names.{is_among}
use Rattle.sd_types.specs.Answer.{and_then, both, each, all_of}
use Rattle.sd_types.specs.Tables.{named, with_names}
use Rattle.sd_types.specs.Scopes.{Context, declared_as}
use Rattle.sd_types.specs.Phrases.{is_of, agree, same_number, selected, sort_in, at_place, given, all_given, is_truth}
use Rattle.sd_types.specs.Statements.{Routine, distinct, target, targets, assigned_as, assignable, is_global, modified_rule, has_body, indexed, left_sort, left_names, typed_indices, assignment, assign_rule, same_numbers, fits_callee, callee_rule, call_rule, true_invariant, break_rule, stmt_rule, row_rule}
use Rattle.sd_types.specs.Typing.{HasType}
use Rattle.sd_types.specs.TypedBodies.{AllHave, IsVariableOf, AreVariablesOf, Leads, LeftHasType, Assigns, AllTruths}
use Rattle.sd_types.specs.WellTypedStatements.{AreDistinct, MayChange, IsChangeable, IsGlobal, MayModify, IsWellTypedAssign, IsWellTypedCall, IsWellTypedStmt, AreWellTypedStmts, StatementsAreExact}
use Rattle.sd_types.proofs.DistinctLemmas.{is-distinct, is-fresh, names-fresh, fresh-names}
use Rattle.sd_types.proofs.TypingLemmas.{ok_of, parts, joined, same-fits, map-selected, sorts_given, sorts-agree, sorts-length, same-numbers, gets_type}
use Rattle.sd_types.proofs.TypedBodyLemmas.{truth-typed, assign-typed, call-typed, truths-typed, in_loop, declared-as}

-- ---- checks that pass

abbrev pub done : Result (Unit {0}) TypeError
done = Ok tt

pub passed : (b : Test) (e : TypeError) → (if b then done else Err e) ≡ done → b ≡ true
passed true e h = refl
passed false e h = absurd (cc)

-- ---- checks of each

pub each-holds : {A : Type 0} (f : A → Result (Unit {0}) TypeError) (P : A → Type 0) → ((x : A) → f x ≡ Ok tt → P x) → (xs : List A) → each f xs ≡ Ok tt → AllByRecursion P xs
each-holds f P h [] e = tt
each-holds f P h (x ∷ xs) e = let k = parts (f x) (λ _. each f xs) tt e in (h x k.1, each-holds f P h xs k.2)

pub each-passes : {A : Type 0} (f : A → Result (Unit {0}) TypeError) (P : A → Type 0) → ((x : A) → P x → f x ≡ Ok tt) → (xs : List A) → AllByRecursion P xs → each f xs ≡ Ok tt
each-passes f P h [] a = refl
each-passes f P h (x ∷ xs) a = joined (λ _. each f xs) (h x a.0) (each-passes f P h xs a.1)

-- ---- expressions

pub truth-passes : (C : Context) (e : Expr) → HasType C e.kind Bool → is_truth C e ≡ Ok tt
truth-passes C e h = joined (λ s. is_of Bool e.at s) (gets_type C e.at e.kind Bool h) (same-fits Bool e.at Bool refl)

given-has : (C : Context) (e : Expr) (s : Sort) → HasType C e.kind s → given C e ≡ Ok (at_place e.at s)
given-has C e s h = joined (λ s. ok_of (at_place e.at s)) (gets_type C e.at e.kind s h) refl

all-have : (C : Context) (es : List Expr) (ss : List Sort) → AllHave C es ss → (gs : List Given) × (all_given C es ≡ Ok gs) × (ss ≡ sorts_given gs)
all-have C [] [] h = ([], refl, refl)
all-have C [] (s ∷ ss) h = absurd h
all-have C (e ∷ es) [] h = absurd h
all-have C (e ∷ es) (s ∷ ss) h =
    let k = all-have C es ss h.1 in
    (at_place e.at s ∷ k.0, joined (λ b. and_then (all_given C es) (λ bs. ok_of (b ∷ bs))) (given-has C e s h.0) (joined (λ bs. ok_of (at_place e.at s ∷ bs)) k.1 refl), ap (λ (l : List Sort). s ∷ l) k.2)

-- as many phrases of these types stand there
fits : (p : Place) (ss : List Sort) (gs : List Given) → ss ≡ sorts_given gs → (agree ss gs ≡ Ok tt) × (same_number p ss gs ≡ Ok tt)
fits p ss gs e = (subst (λ (l : List Sort). agree l gs ≡ Ok tt) (sym e) (sorts-agree gs), same-numbers p ss gs (ap length e ∙ sorts-length gs))

-- ---- assigned variables

target-has : (C : Context) (p : Place) (x : Text) (s : Sort) → IsVariableOf C x s → target C p x ≡ Ok (at_place p s)
target-has C p x s h = joined (λ t. ok_of (at_place p t)) (ap (sort_in x) h.1 ∙ ap ok_of h.2) refl

targets-have : (C : Context) (p : Place) (xs : List Text) (ss : List Sort) → AreVariablesOf C xs ss → (gs : List Given) × (targets C p xs ≡ Ok gs) × (ss ≡ sorts_given gs)
targets-have C p [] [] h = ([], refl, refl)
targets-have C p [] (s ∷ ss) h = absurd h
targets-have C p (x ∷ xs) [] h = absurd h
targets-have C p (x ∷ xs) (s ∷ ss) h =
    let k = targets-have C p xs ss h.1 in
    (at_place p s ∷ k.0, joined (λ b. and_then (targets C p xs) (λ bs. ok_of (b ∷ bs))) (target-has C p x s h.0) (joined (λ bs. ok_of (at_place p s ∷ bs)) k.1 refl), ap (λ (l : List Sort). s ∷ l) k.2)

distinct-holds : (xs : List Text) → distinct xs ≡ Ok tt → AreDistinct xs
distinct-holds xs h = let k = parts (with_names [] xs) (λ _. ok_of tt) tt h in is-distinct xs (names-fresh [] xs k.0 k.1).0

distinct-passes : (xs : List Text) → AreDistinct xs → distinct xs ≡ Ok tt
distinct-passes xs d = joined (λ _. ok_of tt) (fresh-names [] xs (is-fresh xs d)) refl

may-change : (M : Text → Test) (x : Text) (n : Nature) → assigned_as M x n ≡ Ok tt → MayChange M x n
may-change M x Constant h = absurd (cc)
may-change M x Input h = absurd (cc)
may-change M x Global h = passed (M x) (NotModified x) h
may-change M x Output h = tt
may-change M x Local h = tt

changes : (M : Text → Test) (x : Text) (n : Nature) → MayChange M x n → assigned_as M x n ≡ Ok tt
changes M x Constant h = absurd h
changes M x Input h = absurd h
changes M x Global h = rw h refl
changes M x Output h = refl
changes M x Local h = refl

changeable : (R : Routine) (x : Text) → assignable R x ≡ Ok tt → IsChangeable R x
changeable R x h =
    let k = parts (declared_as x (R.context.variable x)) (λ v. assigned_as R.modifies x v.nature) tt h in
    (k.0, declared-as x (R.context.variable x) k.0 k.1, may-change R.modifies x k.0.nature k.2)

assigns : (R : Routine) (x : Text) → IsChangeable R x → assignable R x ≡ Ok tt
assigns R x h = joined (λ v. assigned_as R.modifies x v.nature) (ap (declared_as x) h.1) (changes R.modifies x h.0.nature h.2)

-- ---- assignments

leads-indexed : (C : Context) (p : Place) (es : List Expr) (s r : Sort) → Leads C es s r → (gs : List Given) × (all_given C es ≡ Ok gs) × (indexed p s gs ≡ Ok r)
leads-indexed C p [] s r h = ([], refl, ap ok_of h)
leads-indexed C p (e ∷ es) s r h =
    let k = leads-indexed C p es h.1 r h.4 in
    let g = at_place e.at h.0 in (
      g ∷ k.0,
      joined (λ b. and_then (all_given C es) (λ bs. ok_of (b ∷ bs))) (given-has C e h.0 h.3) (joined (λ bs. ok_of (g ∷ bs)) k.1 refl),
      joined (λ t. indexed p t k.0) (ap (λ (m : Sort). selected p m g) h.2 ∙ map-selected p g h.1) k.2,
    )

left-has : (C : Context) (p : Place) (l : Left) (r : Sort) → LeftHasType C l r → left_sort C p l ≡ Ok r
left-has C p l r h =
    let k = leads-indexed C p l.indices h.0 r h.2 in
    joined (λ s. and_then (all_given C l.indices) (λ gs. indexed p s gs)) (ap (sort_in l.name) h.1.1 ∙ ap ok_of h.1.2) (joined (λ gs. indexed p h.0 gs) k.1 k.2)

-- the left sides have types, and each right side has that of its own
record Sides (C : Context) (p : Place) (ls : List Left) (es : List Expr) : Type 0 where
  sorts : List Sort
  lefts : all_of (left_sort C p) ls ≡ Ok sorts
  rights : AllHave C es sorts
  variables : (gs : List Given) × (targets C p (left_names ls) ≡ Ok gs)
  indices : each (typed_indices C) ls ≡ Ok tt

sides : (C : Context) (p : Place) (ls : List Left) (es : List Expr) → Assigns C ls es → Sides C p ls es
sides C p [] [] h = record { sorts = []; lefts = refl; rights = tt; variables = ([], refl); indices = refl }
sides C p [] (e ∷ es) h = absurd h
sides C p (l ∷ ls) [] h = absurd h
sides C p (l ∷ ls) (e ∷ es) h =
    let k = sides C p ls es h.1 in
    let s = h.0.0 in
    let left = h.0.1 in
    let at = leads-indexed C p l.indices left.0 s left.2 in
    record {
      sorts = s ∷ k.sorts;
      lefts = joined (λ b. and_then (all_of (left_sort C p) ls) (λ bs. ok_of (b ∷ bs))) (left-has C p l s left) (joined (λ bs. ok_of (s ∷ bs)) k.lefts refl);
      rights = (h.0.2, k.rights);
      variables = (at_place p left.0 ∷ k.variables.0, joined (λ b. and_then (targets C p (left_names ls)) (λ bs. ok_of (b ∷ bs))) (target-has C p l.name left.0 left.1) (joined (λ bs. ok_of (at_place p left.0 ∷ bs)) k.variables.1 refl));
      indices = joined (λ _. each (typed_indices C) ls) (joined (λ _. ok_of tt) at.1 refl) k.indices;
    }

assign-holds : (R : Routine) (p : Place) (ls : List Left) (es : List Expr) → assign_rule R p ls es ≡ Ok tt → IsWellTypedAssign R ls es
assign-holds R p ls es h =
    let a = parts (each (typed_indices R.context) ls) (λ _. and_then (all_given R.context es) (λ gs. assignment R p ls gs)) tt h in
    let b = parts (all_given R.context es) (λ gs. assignment R p ls gs) tt a.2 in
    let c = parts (distinct (left_names ls)) (λ _. and_then (targets R.context p (left_names ls)) (λ _. and_then (all_of (left_sort R.context p) ls) (λ ss. both (agree ss b.0) (both (same_number p ss b.0) (each (assignable R) (left_names ls)))))) tt b.2 in
    let d = parts (targets R.context p (left_names ls)) (λ _. and_then (all_of (left_sort R.context p) ls) (λ ss. both (agree ss b.0) (both (same_number p ss b.0) (each (assignable R) (left_names ls))))) tt c.2 in
    let e = parts (all_of (left_sort R.context p) ls) (λ ss. both (agree ss b.0) (both (same_number p ss b.0) (each (assignable R) (left_names ls)))) tt d.2 in
    let f = parts (agree e.0 b.0) (λ _. both (same_number p e.0 b.0) (each (assignable R) (left_names ls))) tt e.2 in
    let g = parts (same_number p e.0 b.0) (λ _. each (assignable R) (left_names ls)) tt f.2 in
    (distinct-holds (left_names ls) c.1, assign-typed R p ls es tt h, each-holds (assignable R) (IsChangeable R) (changeable R) (left_names ls) g.2)

assign-passes : (R : Routine) (p : Place) (ls : List Left) (es : List Expr) → IsWellTypedAssign R ls es → assign_rule R p ls es ≡ Ok tt
assign-passes R p ls es h =
    let k = sides R.context p ls es h.1 in
    let gs = all-have R.context es k.sorts k.rights in
    let f = fits p k.sorts gs.0 gs.2 in
    joined (λ _. and_then (all_given R.context es) (λ gs. assignment R p ls gs)) k.indices
    (joined (λ gs. assignment R p ls gs) gs.1
    (joined (λ _. and_then (targets R.context p (left_names ls)) (λ _. and_then (all_of (left_sort R.context p) ls) (λ ss. both (agree ss gs.0) (both (same_number p ss gs.0) (each (assignable R) (left_names ls)))))) (distinct-passes (left_names ls) h.0)
    (joined (λ _. and_then (all_of (left_sort R.context p) ls) (λ ss. both (agree ss gs.0) (both (same_number p ss gs.0) (each (assignable R) (left_names ls))))) k.variables.1
    (joined (λ ss. both (agree ss gs.0) (both (same_number p ss gs.0) (each (assignable R) (left_names ls)))) k.lefts
    (joined (λ _. both (same_number p k.sorts gs.0) (each (assignable R) (left_names ls))) f.0
    (joined (λ _. each (assignable R) (left_names ls)) f.1
    (each-passes (assignable R) (IsChangeable R) (assigns R) (left_names ls) h.2)))))))

-- ---- calls

pub global-named : (o : Option Variable) → is_global o ≡ true → (v : Variable) × (o ≡ Some v) × (v.nature ≡ Global)
global-named None h = absurd (cc)
global-named (Some v) h = (v, refl, go v.nature h)
  where
    go : (n : Nature) → elim n [ Global ↦ true | _ ↦ false ] ≡ true → n ≡ Global
    go Global k = refl
    go Constant k = absurd (cc)
    go Input k = absurd (cc)
    go Output k = absurd (cc)
    go Local k = absurd (cc)

pub named-global : (o : Option Variable) (v : Variable) → o ≡ Some v → v.nature ≡ Global → is_global o ≡ true
named-global o v e g = ap is_global e ∙ ap (λ (n : Nature). elim n [ Global ↦ true | _ ↦ false ]) g

modified-holds : (R : Routine) (x : Text) → modified_rule R x ≡ Ok tt → IsGlobal R.scope x → R.modifies x ≡ true
modified-holds R x h g = go (is_global (named R.scope.globals x)) (named-global (named R.scope.globals x) g.0 g.1 g.2) h
  where
    go : (b : Test) → b ≡ true → (if b then (if R.modifies x then done else Err (NotModified x)) else done) ≡ done → R.modifies x ≡ true
    go true e k = passed (R.modifies x) (NotModified x) k
    go false e k = absurd (cc)

modified-passes : (R : Routine) (x : Text) → (IsGlobal R.scope x → R.modifies x ≡ true) → modified_rule R x ≡ Ok tt
modified-passes R x h = go (is_global (named R.scope.globals x)) refl
  where
    go : (b : Test) → is_global (named R.scope.globals x) ≡ b → (if b then (if R.modifies x then done else Err (NotModified x)) else done) ≡ done
    go true e = rw (h (global-named (named R.scope.globals x) e)) refl
    go false e = refl

body-holds : (bodies : List Text) (f : Text) → has_body bodies f ≡ Ok tt → is_among bodies f ≡ true
body-holds bodies f h = passed (is_among bodies f) (NoBody f) h

call-holds : (R : Routine) (p : Place) (xs : List Text) (f : Text) (es : List Expr) → call_rule R p xs f es ≡ Ok tt → IsWellTypedCall R xs f es
call-holds R p xs f es h =
    let t = call-typed R p xs f es tt h in
    let a = parts (all_given R.context es) (λ gs. callee_rule R p xs f gs) tt h in
    let b = parts (distinct xs) (λ _. and_then (targets R.context p xs) (λ ts. and_then (declared_as f (named R.scope.procedures f)) (λ q. both (fits_callee p q ts a.0) (both (each (assignable R) xs) (both (each (modified_rule R) q.modifies) (has_body R.scope.bodies f)))))) tt a.2 in
    let c = parts (targets R.context p xs) (λ ts. and_then (declared_as f (named R.scope.procedures f)) (λ q. both (fits_callee p q ts a.0) (both (each (assignable R) xs) (both (each (modified_rule R) q.modifies) (has_body R.scope.bodies f))))) tt b.2 in
    let d = parts (declared_as f (named R.scope.procedures f)) (λ q. both (fits_callee p q c.0 a.0) (both (each (assignable R) xs) (both (each (modified_rule R) q.modifies) (has_body R.scope.bodies f)))) tt c.2 in
    let e = parts (fits_callee p d.0 c.0 a.0) (λ _. both (each (assignable R) xs) (both (each (modified_rule R) d.0.modifies) (has_body R.scope.bodies f))) tt d.2 in
    let i = parts (each (assignable R) xs) (λ _. both (each (modified_rule R) d.0.modifies) (has_body R.scope.bodies f)) tt e.2 in
    let j = parts (each (modified_rule R) d.0.modifies) (λ _. has_body R.scope.bodies f) tt i.2 in
    let same : ◌≡◌ {A = Callee} d.0 t.0 = same_callee (named R.scope.procedures f) d.0 t.0 (declared-as f (named R.scope.procedures f) d.0 d.1) t.1 in (
      t.0,
      t.1,
      body-holds R.scope.bodies f j.2,
      distinct-holds xs b.1,
      t.2,
      t.3,
      each-holds (assignable R) (IsChangeable R) (changeable R) xs i.1,
      subst (MayModify R) same (each-holds (modified_rule R) (λ x. IsGlobal R.scope x → R.modifies x ≡ true) (modified-holds R) d.0.modifies j.1),
    )
  where
    same_callee : (o : Option Callee) (q r : Callee) → o ≡ Some q → o ≡ Some r → q ≡ r
    same_callee o q r h k = let s : ◌≡◌ {A = Option Callee} (Some q) (Some r) = sym h ∙ k in cc

call-passes : (R : Routine) (p : Place) (xs : List Text) (f : Text) (es : List Expr) → IsWellTypedCall R xs f es → call_rule R p xs f es ≡ Ok tt
call-passes R p xs f es h =
    let q = h.0 in
    let ts = targets-have R.context p xs q.outs h.4 in
    let gs = all-have R.context es q.ins h.5 in
    let outs = fits p q.outs ts.0 ts.2 in
    let ins = fits p q.ins gs.0 gs.2 in
    joined (λ gs. callee_rule R p xs f gs) gs.1
    (joined (λ _. and_then (targets R.context p xs) (λ ts. and_then (declared_as f (named R.scope.procedures f)) (λ q. both (fits_callee p q ts gs.0) (both (each (assignable R) xs) (both (each (modified_rule R) q.modifies) (has_body R.scope.bodies f)))))) (distinct-passes xs h.3)
    (joined (λ ts. and_then (declared_as f (named R.scope.procedures f)) (λ q. both (fits_callee p q ts gs.0) (both (each (assignable R) xs) (both (each (modified_rule R) q.modifies) (has_body R.scope.bodies f))))) ts.1
    (joined (λ q. both (fits_callee p q ts.0 gs.0) (both (each (assignable R) xs) (both (each (modified_rule R) q.modifies) (has_body R.scope.bodies f)))) (ap (declared_as f) h.1)
    (joined (λ _. both (each (assignable R) xs) (both (each (modified_rule R) q.modifies) (has_body R.scope.bodies f))) (joined (λ _. both (agree q.ins gs.0) (same_numbers p q ts.0 gs.0)) outs.0 (joined (λ _. same_numbers p q ts.0 gs.0) ins.0 (joined (λ _. same_number p q.ins gs.0) outs.1 ins.1)))
    (joined (λ _. both (each (modified_rule R) q.modifies) (has_body R.scope.bodies f)) (each-passes (assignable R) (IsChangeable R) (assigns R) xs h.6)
    (joined (λ _. has_body R.scope.bodies f) (each-passes (modified_rule R) (λ x. IsGlobal R.scope x → R.modifies x ≡ true) (modified-passes R) q.modifies h.7)
    (rw h.2 refl)))))))

-- ---- statements

truths-pass : (C : Context) (invs : List Invariant) → AllTruths C invs → each (true_invariant C) invs ≡ Ok tt
truths-pass C [] h = refl
truths-pass C (i ∷ invs) h = joined (λ _. each (true_invariant C) invs) (truth-passes C i.expr h.0) (truths-pass C invs h.1)

mutual
  stmt-holds : (R : Routine) (loop : Test) (p : Place) (s : StmtKind) → stmt_rule R loop p s ≡ Ok tt → IsWellTypedStmt R loop s
  stmt-holds R loop p (Assert e) h = truth-typed R.context e tt h
  stmt-holds R loop p (Assume e) h = truth-typed R.context e tt h
  stmt-holds R loop p (Assign ls es) h = assign-holds R p ls es h
  stmt-holds R loop p (Call xs f es) h = call-holds R p xs f es h
  stmt-holds R loop p (If' e shape a shape' b) h =
      let k = parts (is_truth R.context e) (λ _. both (row_rule R loop a) (row_rule R loop b)) tt h in
      let l = parts (row_rule R loop a) (λ _. row_rule R loop b) tt k.2 in
      (truth-typed R.context e tt k.1, row-holds R loop a l.1, row-holds R loop b l.2)
  stmt-holds R loop p (While' e invs shape body) h =
      let k = parts (is_truth R.context e) (λ _. both (each (true_invariant R.context) invs) (row_rule R true body)) tt h in
      let l = parts (each (true_invariant R.context) invs) (λ _. row_rule R true body) tt k.2 in
      (truth-typed R.context e tt k.1, truths-typed R.context invs tt l.1, row-holds R true body l.2)
  stmt-holds R loop p Break h = in_loop loop p tt h
  stmt-holds R loop p Return h = tt

  row-holds : (R : Routine) (loop : Test) {n : _} (ks : Row_of-Stmt n) → row_rule R loop ks ≡ Ok tt → AreWellTypedStmts R loop ks
  row-holds R loop end_of-Stmt h = tt
  row-holds R loop (more_of-Stmt p k ks) h =
      let j = parts (stmt_rule R loop p k) (λ _. row_rule R loop ks) tt h in (stmt-holds R loop p k j.1, row-holds R loop ks j.2)

mutual
  stmt-passes : (R : Routine) (loop : Test) (p : Place) (s : StmtKind) → IsWellTypedStmt R loop s → stmt_rule R loop p s ≡ Ok tt
  stmt-passes R loop p (Assert e) h = truth-passes R.context e h
  stmt-passes R loop p (Assume e) h = truth-passes R.context e h
  stmt-passes R loop p (Assign ls es) h = assign-passes R p ls es h
  stmt-passes R loop p (Call xs f es) h = call-passes R p xs f es h
  stmt-passes R loop p (If' e shape a shape' b) h =
      joined (λ _. both (row_rule R loop a) (row_rule R loop b)) (truth-passes R.context e h.0) (joined (λ _. row_rule R loop b) (row-passes R loop a h.1) (row-passes R loop b h.2))
  stmt-passes R loop p (While' e invs shape body) h =
      joined (λ _. both (each (true_invariant R.context) invs) (row_rule R true body)) (truth-passes R.context e h.0) (joined (λ _. row_rule R true body) (truths-pass R.context invs h.1) (row-passes R true body h.2))
  stmt-passes R loop p Break h = subst (λ (b : Test). break_rule b p ≡ Ok tt) (sym h) refl
  stmt-passes R loop p Return h = refl

  row-passes : (R : Routine) (loop : Test) {n : _} (ks : Row_of-Stmt n) → AreWellTypedStmts R loop ks → row_rule R loop ks ≡ Ok tt
  row-passes R loop end_of-Stmt h = refl
  row-passes R loop (more_of-Stmt p k ks) h = joined (λ _. row_rule R loop ks) (stmt-passes R loop p k h.0) (row-passes R loop ks h.1)

pub statements_exact : StatementsAreExact
statements_exact R loop ss = (
  each-holds (λ s. stmt_rule R loop s.at s.kind) (λ s. IsWellTypedStmt R loop s.kind) (λ s h. stmt-holds R loop s.at s.kind h) ss,
  each-passes (λ s. stmt_rule R loop s.at s.kind) (λ s. IsWellTypedStmt R loop s.kind) (λ s h. stmt-passes R loop s.at s.kind h) ss,
)
