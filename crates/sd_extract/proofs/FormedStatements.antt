-- Statements become well formed statements of the core.
use Rattle.std.proofs.Common.{◌≡◌, ◌≢◌, ℕ, suc, ◌+◌, ◌≤◌, List, [], ◌∷◌, ◌++◌, map, length, Option, Some, Ok, refl, sym, ◌∙◌, ap, subst, arith, length-append}
use Rattle.std.specs.Prelude.{Bool, true, false, slice_get, Contains, unwrap_or, if◌then◌else◌}
use Rattle.std.specs.List.{AllByRecursion, IsDistinct}
use Rattle.std.specs.Cmp.Lexicographic.{bytes_decides}
use Rattle.sd_extract.proofs.SourceWords.{Sort, BoolSort, Text, same_text, MapOf, Program, Proc, Expr, Left, StmtKind, Assert, Assume, Assign, Call, If', While', Break, Return, Row_of-Stmt, end_of-Stmt, more_of-Stmt, Clause, procedure_in, routine_named, requires_of, SourceRoutine, globals_in, Variable, Callee, Scope, and_then, named, Context, context, assigned_as, assignable, modified_rule, has_body, left_names, parameters, HasType, AllHave, Calls, IsTypedStmt, AreTypedStmts}
use Rattle.sd_extract.proofs.CoreWords.{Spot, Slot, CoreExpr, At, CoreStmt, If, Row_of-CoreStmt, end_of-CoreStmt, more_of-CoreStmt, items-the_row-CoreStmt, items_hidden-the_row-CoreStmt-0, hidden-the_row-CoreStmt-0, CoreProc, CoreProgram, Store, slots_from, sorts_of, state_sorts, sort_at, IsSort, AllHaveTypes, AreSpotsOf, AreApart, Within, AreTargets, IsFormed, AllFormed, HasCoreType, Names, place_of, at_place, negated, both, core_of, Counts, plus, counts, counts_all, counts_each, has_return, has_returns, Frame, put, checked, check, assume, spot_of, stored, cores, all_stored, on_args, call_of, loop_call, leave_if, extracted, all_extracted, each_extracted, ins_of, source_of, has_return_among}
use Rattle.sd_types.specs.declared.scope.Site.TheVariants as site
use Rattle.sd_types.specs.Scopes.{declared_as as declared_in}
use Rattle.sd_types.specs.Statements.{Routine}
use Rattle.sd_types.specs.TypedBodies.{IsVariableOf, AreVariablesOf, Leads, Assigns}
use Rattle.sd_core.specs.declared.CoreOp.TheVariants as op
use Rattle.sd_core.specs.declared.CoreStmt as core
use Rattle.sd_core.specs.Formed.{IsCall, AreFormed}
use Rattle.sd_base.proofs.Lists.{all-append}
use Rattle.sd_extract.proofs.CodeLists.{all_map}
use Rattle.sd_extract.proofs.FormedExpressions.{Sees, core_typed, list_cores_typed, negated_typed, read_typed, write_typed}
use Rattle.sd_extract.proofs.FormedChecks.{AreAssignable, IsCallable, IsChecked, AreChecked, EachChecked, EachTyped}
use Rattle.sd_extract.proofs.FormedSpots.{Holds, holds_left, holds_right, spots_append, spots_typed, slots_targets, apart_last, within_append, within_cons, contains_all}
use Rattle.std.proofs.lemmas.Bool.{or_left, or_right}
use Rattle.std.proofs.lemmas.Option.{same_Some}

-- ---- statements of the core

module _ (K : CoreProgram) (p : CoreProc) where
  abbrev S : Store Sort
  S = state_sorts K p

  row_formed : {n : _} (ss : Row_of-CoreStmt n) → AllFormed K p (items-the_row-CoreStmt n ss) → AreFormed K p ss
  row_formed end_of-CoreStmt h = tt
  row_formed (more_of-CoreStmt s ss) h = (h.0, row_formed ss h.1)

  list_formed : (ss : List CoreStmt) → AllFormed K p ss → AreFormed K p (hidden-the_row-CoreStmt-0 ss)
  list_formed ss h =
      row_formed (hidden-the_row-CoreStmt-0 ss) (subst (AllFormed K p) (sym (items_hidden-the_row-CoreStmt-0 ss)) h)

  pub if_formed : (c : CoreExpr) (xs ys : List CoreStmt) → HasCoreType K.functions S c BoolSort → AllFormed K p xs → AllFormed K p ys → IsFormed K p (If c xs ys)
  if_formed c xs ys h a b = (h, list_formed xs a, list_formed ys b)

  pub put_formed : (ps : List Spot) (es : List CoreExpr) (ss : List Sort) → AllHaveTypes K.functions S es ss → AreTargets S p.modifies ps ss → AllFormed K p (put ps es)
  put_formed [] es ss h k = tt
  put_formed (q ∷ ps) es ss h k = ((ss, h, k), tt)

  pub checked_formed : (free : Bool) (e : CoreExpr) → HasCoreType K.functions S e BoolSort → IsFormed K p (checked free e)
  checked_formed true e h = h
  checked_formed false e h = if_formed (negated e) (core.Fail ∷ []) [] (negated_typed K.functions S e h) (tt, tt) tt

  -- clauses that are truth values where they stand
  pub checks_formed : (C : Context) (N : Names) → Sees K.functions S C N → (cs : List Clause) → AllByRecursion (λ c. HasType C c.holds.kind BoolSort) cs → AllFormed K p (map (check N) cs)
  checks_formed C N k = all_map (λ c. HasType C c.holds.kind BoolSort) (IsFormed K p) (check N) (λ c h. checked_formed c.free (core_of N c.holds.kind) (core_typed K.functions S C N k c.holds.kind BoolSort h))

  pub assumes_formed : (C : Context) (N : Names) → Sees K.functions S C N → (cs : List Clause) → AllByRecursion (λ c. HasType C c.holds.kind BoolSort) cs → AllFormed K p (map (assume N) cs)
  assumes_formed C N k = all_map (λ c. HasType C c.holds.kind BoolSort) (IsFormed K p) (assume N) (λ c h. core_typed K.functions S C N k c.holds.kind BoolSort h)

-- ---- what a frame has

-- the procedure that a call of f runs
pub record CalleeAt (P : Program) (number : Text → ℕ) (K : CoreProgram) (p : CoreProc) (G : Scope) (f : Text) (q : Callee) : Type 0 where
  pub routine : SourceRoutine
  pub is_routine : routine_named P f ≡ Some routine
  pub declared : Proc
  pub is_declared : procedure_in P.decls f ≡ Some declared
  pub ins : sorts_of declared.head.ins ≡ q.ins
  pub known_ins : AllByRecursion IsSort (sorts_of declared.head.ins)
  pub known_outs : AllByRecursion IsSort (sorts_of declared.head.outs)
  pub requires : AllByRecursion (λ c. HasType (context G (parameters declared.head) site.Requires) c.holds.kind BoolSort) (requires_of declared.specs)
  pub proc : CoreProc
  pub found : slice_get K.procs (number f) ≡ Some proc
  pub proc_ins : sorts_of proc.ins ≡ q.ins
  pub proc_outs : sorts_of proc.outs ≡ q.outs
  pub modifies : AllByRecursion (Contains p.modifies) proc.modifies
  pub own_modifies : AllByRecursion (Contains p.modifies) (source_of (globals_in P.decls) (number f) routine).modifies

abbrev pub left_sort_if : Bool → List Sort
left_sort_if returns = if returns then BoolSort ∷ [] else []

-- a frame of a body: what its names stand for is at its spots
pub record Fits (P : Program) (number : Text → ℕ) (K : CoreProgram) (p : CoreProc) (R : Routine) (F : Frame) (first : ℕ) (ins state copies : List Sort) : Type 0 where
  pub sees : Sees K.functions (state_sorts K p) R.context F.names
  pub assigned : (x : Text) (v : Variable) → R.context.variable x ≡ Some v → assigned_as R.modifies x v.nature ≡ Ok tt → (q : Spot) × (place_of F.names x ≡ Some q) × (sort_at (state_sorts K p) q ≡ Some v.sort) × Within p.modifies (q ∷ [])
  pub one : (x y : Text) (q : Spot) → place_of F.names x ≡ Some q → place_of F.names y ≡ Some q → x ≡ y
  pub ins_at : AreSpotsOf (state_sorts K p) F.ins ins
  pub state_at : AreTargets (state_sorts K p) p.modifies F.state state
  pub copies_at : AreSpotsOf (state_sorts K p) F.copies copies
  -- slots from the first hidden one on are none of the state
  pub hidden : (l : ℕ) → first ≤ l → AllByRecursion (λ q. q ≢ Slot l) F.state
  pub requires : (d : Proc) (spots : List Spot) → AllByRecursion IsSort (sorts_of d.head.ins) → AllByRecursion IsSort (sorts_of d.head.outs) → AreSpotsOf (state_sorts K p) spots (sorts_of d.head.ins) → Sees K.functions (state_sorts K p) (context R.scope (parameters d.head) site.Requires) (on_args F.names d spots)
  pub callees : (f : Text) (q : Callee) → named R.scope.procedures f ≡ Some q → has_body R.scope.bodies f ≡ Ok tt → AllByRecursion (λ x. modified_rule R x ≡ Ok tt) q.modifies → CalleeAt P number K p R.scope f q

-- the procedure of a loop
pub record LoopProcAt (K : CoreProgram) (ms : List ℕ) (ins state copies : List Sort) (n : ℕ) (returns : Bool) : Type 0 where
  pub proc : CoreProc
  pub found : slice_get K.procs n ≡ Some proc
  pub proc_ins : sorts_of proc.ins ≡ ins ++ (state ++ copies)
  pub proc_outs : sorts_of proc.outs ≡ state ++ left_sort_if returns
  pub modifies : proc.modifies ≡ ms

-- each loop with its number
abbrev mutual
  pub LoopsAt : (ℕ → StmtKind → Type 0) → ℕ → StmtKind → Type 0
  LoopsAt Q n (While' e invs shape body) = Q n (While' e invs shape body) × AllLoopsAt Q (suc n) body
  LoopsAt Q n (If' e shape a shape' b) = AllLoopsAt Q n a × AllLoopsAt Q (n + (counts_all a).loops) b
  LoopsAt Q n _ = Unit {0}

  pub AllLoopsAt : (ℕ → StmtKind → Type 0) → ℕ → {m : _} → Row_of-Stmt m → Type 0
  AllLoopsAt Q n end_of-Stmt = Unit {0}
  AllLoopsAt Q n (more_of-Stmt p s ss) = LoopsAt Q n s × AllLoopsAt Q (n + (counts s).loops) ss

abbrev pub EachLoopsAt : (ℕ → StmtKind → Type 0) → ℕ → List StmtKind → Type 0
EachLoopsAt Q n [] = Unit {0}
EachLoopsAt Q n (s ∷ ss) = LoopsAt Q n s × EachLoopsAt Q (n + (counts s).loops) ss

abbrev pub LoopHas : CoreProgram → List ℕ → (ins state copies : List Sort) → ℕ → StmtKind → Type 0
LoopHas K ms ins state copies n (While' e invs shape body) = LoopProcAt K ms ins state copies n (has_returns body)
LoopHas K ms ins state copies n _ = ⊥

-- ---- hidden locals

-- the types of the argument locals, and of those of loops
abbrev mutual
  pub arg_sorts : Program → StmtKind → List Sort
  arg_sorts P (Call xs f es) = sorts_of (ins_of (procedure_in P.decls f))
  arg_sorts P (If' e shape a shape' b) = all_arg_sorts P a ++ all_arg_sorts P b
  arg_sorts P _ = []

  pub all_arg_sorts : Program → {m : _} → Row_of-Stmt m → List Sort
  all_arg_sorts P end_of-Stmt = []
  all_arg_sorts P (more_of-Stmt p k ks) = arg_sorts P k ++ all_arg_sorts P ks

abbrev pub each_arg_sorts : Program → List StmtKind → List Sort
each_arg_sorts P [] = []
each_arg_sorts P (k ∷ ks) = arg_sorts P k ++ each_arg_sorts P ks

abbrev mutual
  pub left_sorts : StmtKind → List Sort
  left_sorts (While' e invs shape body) = left_sort_if (has_returns body)
  left_sorts (If' e shape a shape' b) = all_left_sorts a ++ all_left_sorts b
  left_sorts _ = []

  pub all_left_sorts : {m : _} → Row_of-Stmt m → List Sort
  all_left_sorts end_of-Stmt = []
  all_left_sorts (more_of-Stmt p k ks) = left_sorts k ++ all_left_sorts ks

abbrev pub each_left_sorts : List StmtKind → List Sort
each_left_sorts [] = []
each_left_sorts (k ∷ ks) = left_sorts k ++ each_left_sorts ks

left_if-length : (r : Bool) → length (left_sort_if r) ≡ (if r then 1 else 0)
left_if-length true = refl
left_if-length false = refl

mutual
  pub lefts_counted : (k : StmtKind) → length (left_sorts k) ≡ (counts k).lefts
  lefts_counted (While' e invs shape body) = left_if-length (has_returns body)
  lefts_counted (If' e shape a shape' b) =
      let i = all_lefts_counted a in let j = all_lefts_counted b in let l = length-append (all_left_sorts a) (all_left_sorts b) in omega (arith, i, j, l)
  lefts_counted _ = refl

  pub all_lefts_counted : {m : _} (ks : Row_of-Stmt m) → length (all_left_sorts ks) ≡ (counts_all ks).lefts
  all_lefts_counted end_of-Stmt = refl
  all_lefts_counted (more_of-Stmt p k ks) =
      let i = lefts_counted k in let j = all_lefts_counted ks in let l = length-append (left_sorts k) (all_left_sorts ks) in omega (arith, i, j, l)

-- where hidden locals stand
pub record HiddenAt (slots : List Sort) (first : ℕ) (at : Counts) (arg_types left_types : List Sort) : Type 0 where
  pub args : Holds slots at.args arg_types
  pub lefts : Holds slots at.lefts left_types
  pub after : first ≤ at.lefts

hidden_here : (slots : List Sort) (first : ℕ) (at : Counts) (xs ys us vs : List Sort) → HiddenAt slots first at (xs ++ ys) (us ++ vs) → HiddenAt slots first at xs us
hidden_here slots first at xs ys us vs h =
    record { args = holds_left slots at.args xs ys h.args; lefts = holds_left slots at.lefts us vs h.lefts; after = h.after }

hidden_next : (slots : List Sort) (first : ℕ) (at n : Counts) (xs ys us vs : List Sort) → length xs ≡ n.args → length us ≡ n.lefts → HiddenAt slots first at (xs ++ ys) (us ++ vs) → HiddenAt slots first (plus at n) ys vs
hidden_next slots first at n xs ys us vs e f h = let g = h.after in record {
  args = subst (λ (m : ℕ). Holds slots (at.args + m) ys) e (holds_right slots at.args xs ys h.args);
  lefts = subst (λ (m : ℕ). Holds slots (at.lefts + m) vs) f (holds_right slots at.lefts us vs h.lefts);
  after = omega (arith, g);
}

pub have_length : (C : Context) (es : List Expr) (ss : List Sort) → AllHave C es ss → length es ≡ length ss
have_length C [] [] h = refl
have_length C [] (s ∷ ss) h = absurd h
have_length C (e ∷ es) [] h = absurd h
have_length C (e ∷ es) (s ∷ ss) h = ap (λ (n : ℕ). suc n) (have_length C es ss h.1)

pub each_lefts_counted : (ks : List StmtKind) → length (each_left_sorts ks) ≡ (counts_each ks).lefts
each_lefts_counted [] = refl
each_lefts_counted (k ∷ ks) =
    let i = lefts_counted k in let j = each_lefts_counted ks in let l = length-append (left_sorts k) (each_left_sorts ks) in omega (arith, i, j, l)

-- ---- statements

module _ (P : Program) (number : Text → ℕ) (K : CoreProgram) (p : CoreProc) (R : Routine) (F : Frame) (first : ℕ) (ins state copies : List Sort) (fits : Fits P number K p R F first ins state copies) where
  abbrev N : Names
  N = F.names

  abbrev T : Store Sort
  T = state_sorts K p

  abbrev ms : List ℕ
  ms = p.modifies

  abbrev C : Context
  C = R.context

  -- ---- assigned variables

  record Placed (x : Text) (s : Sort) : Type 0 where
    place : place_of N x ≡ Some (spot_of N x)
    sort : sort_at T (spot_of N x) ≡ Some s
    within : Within ms (spot_of N x ∷ [])

  placed : (x : Text) (s : Sort) → IsVariableOf C x s → assignable R x ≡ Ok tt → Placed x s
  placed x s h a =
      let ready : assigned_as R.modifies x h.0.nature ≡ Ok tt = subst (λ (o : Option Variable). and_then (declared_in x o) (λ v. assigned_as R.modifies x v.nature) ≡ Ok tt) h.1 a in
      let k = fits.assigned x h.0 h.1 ready in
      let here : k.0 ≡ spot_of N x = sym (ap (λ (o : Option Spot). unwrap_or o (Slot 0)) k.1) in
      record { place = k.1 ∙ ap Some here; sort = ap (sort_at T) (sym here) ∙ k.2 ∙ ap Some h.2; within = subst (λ (q : Spot). Within ms (q ∷ [])) here k.3 }

  apart_from : (x : Text) (xs : List Text) → place_of N x ≡ Some (spot_of N x) → AllByRecursion (λ y. place_of N y ≡ Some (spot_of N y)) xs → AllByRecursion (λ y. same_text x y ≡ false) xs → AllByRecursion (λ q. spot_of N x ≢ q) (map (spot_of N) xs)
  apart_from x [] h k d = tt
  apart_from x (y ∷ xs) h k d = ((λ e. different e), apart_from x xs h k.1 d.1)
    where
      different : spot_of N x ≡ spot_of N y → ⊥
      different e =
          let same : x ≡ y = fits.one x y (spot_of N y) (h ∙ ap Some e) k.0 in
          let f : same_text x y ≡ true = (bytes_decides x y).1 same in
          let g = d.0 in
          absurd (cc)

  all_apart : (xs : List Text) → AllByRecursion (λ y. place_of N y ≡ Some (spot_of N y)) xs → IsDistinct same_text xs → AreApart (map (spot_of N) xs)
  unfolding IsDistinct
  all_apart [] k d = tt
  all_apart (x ∷ xs) k d = (apart_from x xs k.0 k.1 d.0, all_apart xs k.1 d.1)

  record AllPlaced (xs : List Text) (ss : List Sort) : Type 0 where
    places : AllByRecursion (λ y. place_of N y ≡ Some (spot_of N y)) xs
    sorts : AreSpotsOf T (map (spot_of N) xs) ss
    within : Within ms (map (spot_of N) xs)

  all_placed : (xs : List Text) (ss : List Sort) → AreVariablesOf C xs ss → AllByRecursion (λ x. assignable R x ≡ Ok tt) xs → AllPlaced xs ss
  all_placed [] [] h a = record { places = tt; sorts = refl; within = tt }
  all_placed [] (s ∷ ss) h a = absurd h
  all_placed (x ∷ xs) [] h a = absurd h
  all_placed (x ∷ xs) (s ∷ ss) h a =
      let one = placed x s h.0 a.0 in let rest = all_placed xs ss h.1 a.1 in
      record { places = (one.place, rest.places); sorts = (one.sort, rest.sorts); within = within_cons ms (spot_of N x) (map (spot_of N) xs) one.within rest.within }

  receivers : (xs : List Text) (ss : List Sort) → AreVariablesOf C xs ss → AreAssignable R xs → AreTargets T ms (map (spot_of N) xs) ss
  receivers xs ss h a =
      let k = all_placed xs ss h a.1 in record { sorts = k.sorts; apart = all_apart xs k.places a.0; within = k.within }

  -- ---- assignments

  stored_typed : (m : CoreExpr) (is : List Expr) (e : CoreExpr) (s r : Sort) → IsSort s → HasCoreType K.functions T m s → Leads C is s r → HasCoreType K.functions T e r → HasCoreType K.functions T (stored m (cores N is) e) s
  stored_typed m [] e s r fit h l k = subst (HasCoreType K.functions T e) (sym l) k
  stored_typed m (i ∷ is) e s r fit h l k =
      let fits_map : IsSort (MapOf l.0 l.1) = subst IsSort l.2 fit in
      let map_typed : HasCoreType K.functions T m (MapOf l.0 l.1) = subst (HasCoreType K.functions T m) l.2 h in
      let index = core_typed K.functions T C N fits.sees i.kind l.0 l.3 in
      let inner = stored_typed (both op.Read m (core_of N i.kind)) is e l.1 r fits_map.1 (read_typed K.functions T m (core_of N i.kind) l.0 l.1 map_typed index) l.4 k in
      subst (HasCoreType K.functions T (stored m (cores N (i ∷ is)) e)) (sym l.2) (write_typed K.functions T m (core_of N i.kind) (stored (both op.Read m (core_of N i.kind)) (cores N is) e) l.0 l.1 fits_map.0 map_typed index inner)

  assigned_typed : (ls : List Left) (es : List Expr) → Assigns C ls es → (ss : List Sort) × AreVariablesOf C (left_names ls) ss × AllHaveTypes K.functions T (all_stored N ls es) ss
  assigned_typed [] [] h = ([], tt, refl)
  assigned_typed [] (e ∷ es) h = absurd h
  assigned_typed (l ∷ ls) [] h = absurd h
  assigned_typed (l ∷ ls) (e ∷ es) h =
      let rest = assigned_typed ls es h.1 in
      let left = h.0.1 in
      let v = left.1 in
      let m = at_place (place_of N l.name) l.name in
      let here : HasCoreType K.functions T m left.0 = subst (HasCoreType K.functions T m) v.2 (fits.sees.variables l.name v.0 v.1) in
      let fit : IsSort left.0 = subst IsSort v.2 (fits.sees.sorts l.name v.0 v.1) in
      (left.0 ∷ rest.0, (v, rest.1), (stored_typed m l.indices (core_of N e.kind) left.0 h.0.0 fit here left.2 (core_typed K.functions T C N fits.sees e.kind h.0.0 h.0.2), rest.2))

  name_spots : (ls : List Left) → map (spot_of N) (left_names ls) ≡ map (λ l. spot_of N l.name) ls
  name_spots [] = refl
  name_spots (l ∷ ls) = ap (λ (ps : List Spot). spot_of N l.name ∷ ps) (name_spots ls)

  assign_formed : (ls : List Left) (es : List Expr) → Assigns C ls es → AreAssignable R (left_names ls) → IsFormed K p (core.Assign (map (λ l. spot_of N l.name) ls) (all_stored N ls es))
  assign_formed ls es h a =
      let k = assigned_typed ls es h in
      (k.0, k.2, subst (λ (ps : List Spot). AreTargets T ms ps k.0) (name_spots ls) (receivers (left_names ls) k.0 k.1 a))

  -- ---- calls

  call_at : (xs : List Text) (f : Text) (es : List Expr) → (h : Calls R xs f es) → IsCallable R xs f → CalleeAt P number K p R.scope f h.0
  call_at xs f es h c =
      let e = same_Some _ _ (sym c.found ∙ h.1) in
      fits.callees f h.0 h.1 c.has_body (subst (λ (q : Callee). AllByRecursion (λ x. modified_rule R x ≡ Ok tt) q.modifies) e c.modifies)

  arg_sorts_are : (xs : List Text) (f : Text) (es : List Expr) → (h : Calls R xs f es) → IsCallable R xs f → arg_sorts P (Call xs f es) ≡ h.0.ins
  arg_sorts_are xs f es h c =
      let k = call_at xs f es h c in
      ap (λ (o : Option Proc). sorts_of (ins_of o)) k.is_declared ∙ k.ins

  call_formed : (l : ℕ) (xs : List Text) (f : Text) (es : List Expr) → Calls R xs f es → IsCallable R xs f → Holds T.slots l (arg_sorts P (Call xs f es)) → AllFormed K p (call_of N number (slots_from l es) xs f es (procedure_in P.decls f))
  call_formed l xs f es h c slots_at =
      let k = call_at xs f es h c in
      let q = h.0 in
      let d = k.declared in
      let spots = slots_from l es in
      let long = have_length C es q.ins h.3 in
      let args = slots_targets T ms l es q.ins long (subst (Holds T.slots l) (arg_sorts_are xs f es h c) slots_at) in
      let stored_args = put_formed K p spots (cores N es) q.ins (list_cores_typed K.functions T C N fits.sees es q.ins h.3) args in
      let sees = fits.requires d spots k.known_ins k.known_outs (subst (AreSpotsOf T spots) (sym k.ins) args.sorts) in
      let checks = checks_formed K p (context R.scope (parameters d.head) site.Requires) (on_args N d spots) sees (requires_of d.specs) k.requires in
      let call : IsCall K p (map (spot_of N) xs) (number f) (map (λ q. At q) spots) = record {
        callee = k.proc;
        found = k.found;
        ins = subst (AllHaveTypes K.functions T (map (λ q. At q) spots)) (sym k.proc_ins) (spots_typed K.functions T spots q.ins args.sorts);
        outs = subst (AreTargets T ms (map (spot_of N) xs)) (sym k.proc_outs) (receivers xs q.outs h.2 c.receivers);
        modifies = k.modifies;
      } in
      subst (λ (o : Option Proc). AllFormed K p (call_of N number spots xs f es o)) (sym k.is_declared) (all-append (IsFormed K p) (put spots (cores N es)) (map (check (on_args N d spots)) (requires_of d.specs) ++ (core.Call (map (spot_of N) xs) (number f) (map (λ q. At q) spots) ∷ [])) stored_args (all-append (IsFormed K p) (map (check (on_args N d spots)) (requires_of d.specs)) (core.Call (map (spot_of N) xs) (number f) (map (λ q. At q) spots) ∷ []) checks (call, tt)))

  -- ---- loops

  pub loop_formed : (n : ℕ) (returns : Bool) (left : List Spot) → LoopProcAt K ms ins state copies n returns → AreTargets T ms (F.state ++ left) (state ++ left_sort_if returns) → IsFormed K p (loop_call F n left)
  loop_formed n returns left h outs = record {
    callee = h.proc;
    found = h.found;
    ins = subst (AllHaveTypes K.functions T (map (λ q. At q) (F.ins ++ (F.state ++ F.copies)))) (sym h.proc_ins) (spots_typed K.functions T (F.ins ++ (F.state ++ F.copies)) (ins ++ (state ++ copies)) (spots_append T F.ins (F.state ++ F.copies) ins (state ++ copies) fits.ins_at (spots_append T F.state F.copies state copies fits.state_at.sorts fits.copies_at)));
    outs = subst (AreTargets T ms (F.state ++ left)) (sym h.proc_outs) outs;
    modifies = subst (AllByRecursion (Contains ms)) (sym h.modifies) (contains_all ms);
  }

  -- the spots that a loop's results go to
  pub with_left : (returns : Bool) (l : ℕ) → first ≤ l → Holds T.slots l (left_sort_if returns) → AreTargets T ms (F.state ++ (if returns then Slot l ∷ [] else [])) (state ++ left_sort_if returns)
  with_left true l h slots_at = record {
    sorts = spots_append T F.state (Slot l ∷ []) state (BoolSort ∷ []) fits.state_at.sorts (slots_at.0, refl);
    apart = apart_last F.state (Slot l) fits.state_at.apart (fits.hidden l h);
    within = within_append ms F.state (Slot l ∷ []) fits.state_at.within tt;
  }
  with_left false l h slots_at = record {
    sorts = spots_append T F.state [] state [] fits.state_at.sorts refl;
    apart = no_more F.state fits.state_at.apart;
    within = within_append ms F.state [] fits.state_at.within tt;
  }
    where
      no_more : (ps : List Spot) → AreApart ps → AreApart (ps ++ [])
      no_more [] a = tt
      no_more (q ∷ ps) a = (all-append (λ r. q ≢ r) ps [] a.0 tt, no_more ps a.1)

  leave_formed : (returns : Bool) (l : ℕ) → (returns ≡ true → AllFormed K p F.leave) → Holds T.slots l (left_sort_if returns) → AllFormed K p (leave_if (if returns then Slot l ∷ [] else []) F.leave)
  leave_formed true l leave slots_at = (if_formed K p (At (Slot l)) F.leave [] slots_at.0 (leave refl) tt, tt)
  leave_formed false l leave slots_at = tt

  -- ---- all of them

  mutual
    pub args_counted : (b : Bool) (k : StmtKind) → IsTypedStmt R b k → IsChecked R k → length (arg_sorts P k) ≡ (counts k).args
    args_counted b (Call xs f es) h c = ap length (arg_sorts_are xs f es h c) ∙ sym (have_length C es h.0.ins h.3)
    args_counted b (If' e shape x shape' y) h c =
        let i = all_args_counted b x h.1 c.0 in let j = all_args_counted b y h.2 c.1 in
        let l = length-append (all_arg_sorts P x) (all_arg_sorts P y) in
        omega (arith, i, j, l)
    args_counted b _ h c = refl

    pub all_args_counted : (b : Bool) {m : _} (ks : Row_of-Stmt m) → AreTypedStmts R b ks → AreChecked R ks → length (all_arg_sorts P ks) ≡ (counts_all ks).args
    all_args_counted b end_of-Stmt h c = refl
    all_args_counted b (more_of-Stmt q k ks) h c =
        let i = args_counted b k h.0 c.0 in let j = all_args_counted b ks h.1 c.1 in
        let l = length-append (arg_sorts P k) (all_arg_sorts P ks) in
        omega (arith, i, j, l)

  mutual
    pub stmt_formed : (b : Bool) (at : Counts) (k : StmtKind) → IsTypedStmt R b k → IsChecked R k → (has_return k ≡ true → AllFormed K p F.leave) → HiddenAt T.slots first at (arg_sorts P k) (left_sorts k) → LoopsAt (LoopHas K ms ins state copies) at.loops k → AllFormed K p (extracted P number F at k)
    stmt_formed b at (Assert e) h c leave hide loops =
        (checked_formed K p false (core_of N e.kind) (core_typed K.functions T C N fits.sees e.kind BoolSort h), tt)
    stmt_formed b at (Assume e) h c leave hide loops =
        (checked_formed K p true (core_of N e.kind) (core_typed K.functions T C N fits.sees e.kind BoolSort h), tt)
    stmt_formed b at (Assign ls es) h c leave hide loops = (assign_formed ls es h c, tt)
    stmt_formed b at (Call xs f es) h c leave hide loops = call_formed at.args xs f es h c hide.args
    stmt_formed b at (If' e shape x shape' y) h c leave hide loops =
        let xs = all_extracted P number F at x in
        let ys = all_extracted P number F (plus at (counts_all x)) y in
        (if_formed K p (core_of N e.kind) xs ys (core_typed K.functions T C N fits.sees e.kind BoolSort h.0) (stmts_formed b at x h.1 c.0 (λ r. leave (or_left (has_returns x) (has_returns y) r)) (hidden_here T.slots first at (all_arg_sorts P x) (all_arg_sorts P y) (all_left_sorts x) (all_left_sorts y) hide) loops.0) (stmts_formed b (plus at (counts_all x)) y h.2 c.1 (λ r. leave (or_right (has_returns x) (has_returns y) r)) (hidden_next T.slots first at (counts_all x) (all_arg_sorts P x) (all_arg_sorts P y) (all_left_sorts x) (all_left_sorts y) (all_args_counted b x h.1 c.0) (all_lefts_counted x) hide) loops.1), tt)
    stmt_formed b at (While' e invs shape body) h c leave hide loops =
        let returns = has_returns body in
        (loop_formed at.loops returns (if returns then Slot at.lefts ∷ [] else []) loops.0 (with_left returns at.lefts hide.after hide.lefts), leave_formed returns at.lefts leave hide.lefts)
    stmt_formed b at Break h c leave hide loops = (tt, tt)
    stmt_formed b at Return h c leave hide loops = leave refl

    pub stmts_formed : (b : Bool) (at : Counts) {m : _} (ks : Row_of-Stmt m) → AreTypedStmts R b ks → AreChecked R ks → (has_returns ks ≡ true → AllFormed K p F.leave) → HiddenAt T.slots first at (all_arg_sorts P ks) (all_left_sorts ks) → AllLoopsAt (LoopHas K ms ins state copies) at.loops ks → AllFormed K p (all_extracted P number F at ks)
    stmts_formed b at end_of-Stmt h c leave hide loops = tt
    stmts_formed b at (more_of-Stmt q k ks) h c leave hide loops =
        all-append (IsFormed K p) (extracted P number F at k) (all_extracted P number F (plus at (counts k)) ks) (stmt_formed b at k h.0 c.0 (λ r. leave (or_left (has_return k) (has_returns ks) r)) (hidden_here T.slots first at (arg_sorts P k) (all_arg_sorts P ks) (left_sorts k) (all_left_sorts ks) hide) loops.0) (stmts_formed b (plus at (counts k)) ks h.1 c.1 (λ r. leave (or_right (has_return k) (has_returns ks) r)) (hidden_next T.slots first at (counts k) (arg_sorts P k) (all_arg_sorts P ks) (left_sorts k) (all_left_sorts ks) (args_counted b k h.0 c.0) (lefts_counted k) hide) loops.1)

  pub each_formed : (b : Bool) (at : Counts) (ks : List StmtKind) → EachTyped R b ks → EachChecked R ks → (has_return_among ks ≡ true → AllFormed K p F.leave) → HiddenAt T.slots first at (each_arg_sorts P ks) (each_left_sorts ks) → EachLoopsAt (LoopHas K ms ins state copies) at.loops ks → AllFormed K p (each_extracted P number F at ks)
  each_formed b at [] h c leave hide loops = tt
  each_formed b at (k ∷ ks) h c leave hide loops =
      all-append (IsFormed K p) (extracted P number F at k) (each_extracted P number F (plus at (counts k)) ks) (stmt_formed b at k h.0 c.0 (λ r. leave (or_left (has_return k) (has_return_among ks) r)) (hidden_here T.slots first at (arg_sorts P k) (each_arg_sorts P ks) (left_sorts k) (each_left_sorts ks) hide) loops.0) (each_formed b (plus at (counts k)) ks h.1 c.1 (λ r. leave (or_right (has_return k) (has_return_among ks) r)) (hidden_next T.slots first at (counts k) (arg_sorts P k) (each_arg_sorts P ks) (left_sorts k) (each_left_sorts ks) (args_counted b k h.0 c.0) (lefts_counted k) hide) loops.1)
