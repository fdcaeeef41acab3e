-- What the rules on statements say besides types: assigned variables differ and may be assigned, and callees modify no more.
use Rattle.std.proofs.Common.{◌≡◌, List, [], ◌∷◌, ◌++◌, Option, None, Some, Ok, Err, refl, sym, ◌∙◌, ap, subst, append_assoc}
use Rattle.std.specs.Prelude.{Bool, true, false, ◌||◌, Result, if◌then◌else◌}
use Rattle.std.specs.List.{AllByRecursion, IsDistinct}
use Rattle.std.specs.Cmp.Lexicographic.{bytes_decides}
use Rattle.std.proofs.lemmas.List.{append-nil}
use Rattle.std.proofs.lemmas.Bool.{false_from_ne_true}
use Rattle.std.proofs.lemmas.List.Folds.{list_any-append}
use Rattle.sd_extract.proofs.SourceWords.{Text, same_text, Expr, Left, Stmt, StmtKind, Assign, Call, If', While', Row_of-Stmt, end_of-Stmt, more_of-Stmt, kinds_of, kinds_in, TypeError, Twice, Callee, is_among, and_then, both, named, with_name, with_names, declared_as, is_truth, assignable, modified_rule, has_body, left_names, IsTypedStmt, AreTypedStmts}
use Rattle.sd_base.specs.declared.Place.{Place}
use Rattle.sd_base.proofs.Texts.{same_text-refl}
use Rattle.sd_types.specs.Answer.{each, all_of}
use Rattle.sd_types.specs.Phrases.{agree, same_number, all_given}
use Rattle.sd_types.specs.Statements.{Routine, distinct, targets, left_sort, typed_indices, assignment, assign_rule, fits_callee, callee_rule, call_rule, true_invariant, stmt_rule, row_rule, each_stmt}
use Rattle.sd_types.specs.TypedBodies.{AllTypedStmts}
use Rattle.sd_types.proofs.TypingLemmas.{parts, ok_is}

-- ---- names that are declared one after another

name_new : (seen : List Text) (x : Text) (all : List Text) → with_name seen x ≡ Ok all → (is_among seen x ≡ false) × (seen ++ (x ∷ []) ≡ all)
name_new seen x all = go (is_among seen x) refl
  where
    go : (b : Bool) → is_among seen x ≡ b → (if b then Err (Twice x) else Ok (seen ++ (x ∷ []))) ≡ Ok all → (is_among seen x ≡ false) × (seen ++ (x ∷ []) ≡ all)
    go true e h = absurd (cc)
    go false e h = (e, ok_is h)

or_last : (a b : Bool) → b ≡ true → (a || (b || false)) ≡ true
or_last true b e = refl
or_last false b e = ap (λ (c : Bool). c || false) e

among_last : (seen : List Text) (x : Text) → is_among (seen ++ (x ∷ [])) x ≡ true
among_last seen x = list_any-append (same_text x) seen (x ∷ []) ∙ or_last (is_among seen x) (same_text x x) (same_text-refl x)

among_more : (seen : List Text) (x y : Text) → is_among seen y ≡ true → is_among (seen ++ (x ∷ [])) y ≡ true
among_more seen x y h = list_any-append (same_text y) seen (x ∷ []) ∙ ap (λ (b : Bool). b || is_among (x ∷ []) y) h

not_same : (seen : List Text) (x y : Text) → is_among seen x ≡ false → is_among seen y ≡ true → same_text y x ≡ false
not_same seen x y n a = false_from_ne_true (same_text y x) (λ e.
    let f : is_among seen x ≡ true = subst (λ (z : Text). is_among seen z ≡ true) ((bytes_decides y x).0 e) a in cc)

pub distinct_new : (xs seen all : List Text) → with_names seen xs ≡ Ok all → IsDistinct same_text xs × ((y : Text) → is_among seen y ≡ true → AllByRecursion (λ x. same_text y x ≡ false) xs) × (seen ++ xs ≡ all)
unfolding IsDistinct
distinct_new [] seen all h = (tt, (λ y k. tt), append-nil seen ∙ ok_is h)
distinct_new (x ∷ xs) seen all h =
    let k = parts (with_name seen x) (λ more. with_names more xs) all h in
    let n = name_new seen x k.0 k.1 in
    let rest = distinct_new xs k.0 all k.2 in
    let grown : (y : Text) → is_among (seen ++ (x ∷ [])) y ≡ true → is_among k.0 y ≡ true = λ y. subst (λ (l : List Text). is_among l y ≡ true) n.1 in (
      (rest.1 x (grown x (among_last seen x)), rest.0),
      (λ y a. (not_same seen x y n.0 a, rest.1 y (grown y (among_more seen x y a)))),
      sym (append_assoc seen (x ∷ []) xs) ∙ ap (λ (l : List Text). l ++ xs) n.1 ∙ rest.2,
    )

pub are_distinct : (xs : List Text) (u : Unit {0}) → distinct xs ≡ Ok u → IsDistinct same_text xs
are_distinct xs u h = let k = parts (with_names [] xs) (λ _. Ok tt) u h in (distinct_new xs [] k.0 k.1).0

pub each_all : {A : Type 0} (f : A → Result (Unit {0}) TypeError) (xs : List A) (u : Unit {0}) → each f xs ≡ Ok u → AllByRecursion (λ x. f x ≡ Ok tt) xs
each_all f [] u h = tt
each_all f (x ∷ xs) u h = let k = parts (f x) (λ _. each f xs) u h in (k.1, each_all f xs u k.2)

-- ---- statements

abbrev pub AreAssignable : Routine → List Text → Type 0
AreAssignable R xs = IsDistinct same_text xs × AllByRecursion (λ x. assignable R x ≡ Ok tt) xs

pub record IsCallable (R : Routine) (xs : List Text) (f : Text) : Type 0 where
  pub callee : Callee
  pub found : named R.scope.procedures f ≡ Some callee
  pub receivers : AreAssignable R xs
  pub modifies : AllByRecursion (λ x. modified_rule R x ≡ Ok tt) callee.modifies
  pub has_body : has_body R.scope.bodies f ≡ Ok tt

abbrev mutual
  pub IsChecked : Routine → StmtKind → Type 0
  IsChecked R (Assign ls es) = AreAssignable R (left_names ls)
  IsChecked R (Call xs f es) = IsCallable R xs f
  IsChecked R (If' e shape a shape' b) = AreChecked R a × AreChecked R b
  IsChecked R (While' e invs shape body) = AreChecked R body
  IsChecked R _ = Unit {0}

  pub AreChecked : Routine → {n : _} → Row_of-Stmt n → Type 0
  AreChecked R end_of-Stmt = Unit {0}
  AreChecked R (more_of-Stmt p k ks) = IsChecked R k × AreChecked R ks

abbrev pub EachChecked : Routine → List StmtKind → Type 0
EachChecked R [] = Unit {0}
EachChecked R (k ∷ ks) = IsChecked R k × EachChecked R ks

abbrev pub EachTyped : Routine → Bool → List StmtKind → Type 0
EachTyped R loop [] = Unit {0}
EachTyped R loop (k ∷ ks) = IsTypedStmt R loop k × EachTyped R loop ks

-- ---- the rules give them

assign_checked : (R : Routine) (p : Place) (ls : List Left) (es : List Expr) (u : Unit {0}) → assign_rule R p ls es ≡ Ok u → AreAssignable R (left_names ls)
assign_checked R p ls es u h =
    let xs = left_names ls in
    let a = parts (each (typed_indices R.context) ls) (λ _. and_then (all_given R.context es) (λ gs. assignment R p ls gs)) u h in
    let b = parts (all_given R.context es) (λ gs. assignment R p ls gs) u a.2 in
    let c = parts (distinct xs) (λ _. and_then (targets R.context p xs) (λ _. and_then (all_of (left_sort R.context p) ls) (λ ss. both (agree ss b.0) (both (same_number p ss b.0) (each (assignable R) xs))))) u b.2 in
    let d = parts (targets R.context p xs) (λ _. and_then (all_of (left_sort R.context p) ls) (λ ss. both (agree ss b.0) (both (same_number p ss b.0) (each (assignable R) xs)))) u c.2 in
    let e = parts (all_of (left_sort R.context p) ls) (λ ss. both (agree ss b.0) (both (same_number p ss b.0) (each (assignable R) xs))) u d.2 in
    let f = parts (agree e.0 b.0) (λ _. both (same_number p e.0 b.0) (each (assignable R) xs)) u e.2 in
    let g = parts (same_number p e.0 b.0) (λ _. each (assignable R) xs) u f.2 in
    (are_distinct xs c.0 c.1, each_all (assignable R) xs u g.2)

-- what a name is declared as is found
pub is_declared : {X : Type 0} (x : Text) (o : Option X) (v : X) → declared_as x o ≡ Ok v → o ≡ Some v
is_declared x None v h = absurd (cc)
is_declared x (Some w) v h = ap Some (ok_is h)

call_checked : (R : Routine) (p : Place) (xs : List Text) (f : Text) (es : List Expr) (u : Unit {0}) → call_rule R p xs f es ≡ Ok u → IsCallable R xs f
call_checked R p xs f es u h =
    let a = parts (all_given R.context es) (λ gs. callee_rule R p xs f gs) u h in
    let b = parts (distinct xs) (λ _. and_then (targets R.context p xs) (λ ts. and_then (declared_as f (named R.scope.procedures f)) (λ q. both (fits_callee p q ts a.0) (both (each (assignable R) xs) (both (each (modified_rule R) q.modifies) (has_body R.scope.bodies f)))))) u a.2 in
    let c = parts (targets R.context p xs) (λ ts. and_then (declared_as f (named R.scope.procedures f)) (λ q. both (fits_callee p q ts a.0) (both (each (assignable R) xs) (both (each (modified_rule R) q.modifies) (has_body R.scope.bodies f))))) u b.2 in
    let d = parts (declared_as f (named R.scope.procedures f)) (λ q. both (fits_callee p q c.0 a.0) (both (each (assignable R) xs) (both (each (modified_rule R) q.modifies) (has_body R.scope.bodies f)))) u c.2 in
    let e = parts (fits_callee p d.0 c.0 a.0) (λ _. both (each (assignable R) xs) (both (each (modified_rule R) d.0.modifies) (has_body R.scope.bodies f))) u d.2 in
    let g = parts (each (assignable R) xs) (λ _. both (each (modified_rule R) d.0.modifies) (has_body R.scope.bodies f)) u e.2 in
    let i = parts (each (modified_rule R) d.0.modifies) (λ _. has_body R.scope.bodies f) u g.2 in
    record {
      callee = d.0;
      found = is_declared f (named R.scope.procedures f) d.0 d.1;
      receivers = (are_distinct xs b.0 b.1, each_all (assignable R) xs g.0 g.1);
      modifies = each_all (modified_rule R) d.0.modifies i.0 i.1;
      has_body = i.2;
    }

mutual
  stmt_checked : (R : Routine) (loop : Bool) (p : Place) (s : StmtKind) (u : Unit {0}) → stmt_rule R loop p s ≡ Ok u → IsChecked R s
  stmt_checked R loop p (Assign ls es) u h = assign_checked R p ls es u h
  stmt_checked R loop p (Call xs f es) u h = call_checked R p xs f es u h
  stmt_checked R loop p (If' e shape a shape' b) u h =
      let k = parts (is_truth R.context e) (λ _. both (row_rule R loop a) (row_rule R loop b)) u h in
      let l = parts (row_rule R loop a) (λ _. row_rule R loop b) u k.2 in
      (row_checked R loop a l.0 l.1, row_checked R loop b u l.2)
  stmt_checked R loop p (While' e invs shape body) u h =
      let k = parts (is_truth R.context e) (λ _. both (each (true_invariant R.context) invs) (row_rule R true body)) u h in
      let l = parts (each (true_invariant R.context) invs) (λ _. row_rule R true body) u k.2 in
      row_checked R true body u l.2
  stmt_checked R loop p _ u h = tt

  row_checked : (R : Routine) (loop : Bool) {n : _} (ks : Row_of-Stmt n) (u : Unit {0}) → row_rule R loop ks ≡ Ok u → AreChecked R ks
  row_checked R loop end_of-Stmt u h = tt
  row_checked R loop (more_of-Stmt p k ks) u h =
      let j = parts (stmt_rule R loop p k) (λ _. row_rule R loop ks) u h in (stmt_checked R loop p k j.0 j.1, row_checked R loop ks u j.2)

pub stmts_checked : (R : Routine) (loop : Bool) (ss : List Stmt) (u : Unit {0}) → each_stmt R loop ss ≡ Ok u → EachChecked R (kinds_of ss)
stmts_checked R loop [] u h = tt
stmts_checked R loop (s ∷ ss) u h =
    let k = parts (stmt_rule R loop s.at s.kind) (λ _. each_stmt R loop ss) u h in
    (stmt_checked R loop s.at s.kind k.0 k.1, stmts_checked R loop ss u k.2)

pub all_typed : (R : Routine) (loop : Bool) (ss : List Stmt) → AllTypedStmts R loop ss → EachTyped R loop (kinds_of ss)
all_typed R loop [] h = tt
all_typed R loop (s ∷ ss) h = (h.0, all_typed R loop ss h.1)

-- rows as lists
pub row_each_checked : (R : Routine) {n : _} (ks : Row_of-Stmt n) → AreChecked R ks → EachChecked R (kinds_in ks)
row_each_checked R end_of-Stmt h = tt
row_each_checked R (more_of-Stmt p k ks) h = (h.0, row_each_checked R ks h.1)

pub row_each_typed : (R : Routine) (loop : Bool) {n : _} (ks : Row_of-Stmt n) → AreTypedStmts R loop ks → EachTyped R loop (kinds_in ks)
row_each_typed R loop end_of-Stmt h = tt
row_each_typed R loop (more_of-Stmt p k ks) h = (h.0, row_each_typed R loop ks h.1)
