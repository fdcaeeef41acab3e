-- What the rules on declarations say of a program, its procedures and their bodies.
use Rattle.std.proofs.Common.{◌≡◌, List, [], ◌∷◌, ◌++◌, Option, Some, None, Ok, Err, refl, sym, ◌∙◌, ap, subst}
use Rattle.std.specs.Prelude.{true, false, ◌&&◌, option_map, if◌then◌else◌}
use Rattle.std.specs.List.{AllByRecursion, IsDistinct}
use Rattle.std.proofs.lemmas.Option.{same_Some, none-some}
use Rattle.std.proofs.lemmas.Bool.{and_parts}
use Rattle.sd_extract.proofs.SourceWords.{Sort, Var, Text, same_text, MapOf, names_of, Decl, Const, Function, Globals, Proc, Impl, Body, Head, Expr, Spec, Requires, Ensures, Program, Routine, procedure_in, implementation_in, with_body, routine_named, requires_of, ensures_of, kinds_of, Callee, Scope, Variable, and_then, both, named, Context, context, declared_as, known_sort, is_truth, routine, variables_as, constants_of, parameters, modifies_of, callee_of, locals_of, own_names, known_sorts, body_variables, decl_rule, WellTyped, HasType}
use Rattle.sd_extract.proofs.CoreWords.{sorts_of, IsIndexSort, IsSort}
use Rattle.sd_base.specs.declared.Sort.{Int, Bool, Named}
use Rattle.sd_base.specs.Sorts.{same_sort}
use Rattle.sd_types.specs.declared.refusal.TypeError.TheVariants.{Kind}
use Rattle.sd_types.specs.declared.scope.Nature.TheVariants as nature
use Rattle.sd_types.specs.declared.scope.Site.TheVariants as site
use Rattle.sd_types.specs.Answer.{each}
use Rattle.sd_types.specs.Phrases.{is_of, sort_of, index_sort}
use Rattle.sd_types.specs.Declarations.{nothing, known_vars, head_rule, spec_rule, body_stmts_rule, body_rule, own_body_rule, procedure_rule, have_sorts, same_types}
use Rattle.sd_types.specs.TypedBodies.{IsTypedBody, IsTypedOwnBody, HasTypedBody, HaveTypedBodies}
use Rattle.sd_types.proofs.TypingLemmas.{parts, ok_is, fits-same, types_exact}
use Rattle.sd_base.proofs.SortLemmas.{same_sort-is}
use Rattle.sd_types.proofs.TypedBodyLemmas.{typed_scope, bodies_typed}
use Rattle.sd_extract.proofs.FormedChecks.{is_declared, each_all, EachChecked, EachTyped, stmts_checked, all_typed}
use Rattle.sd_extract.proofs.FormedTables.{OnceEach, entries_names, entries_once, global_entries, function_entries, procedure_entries, OwnNames, Entered, entered, own_distinct}
use Rattle.sd_extract.proofs.FormedLookups.{procedure_named, procedure_has, implementation_has}
use Rattle.sd_extract.proofs.FormedPlaces.{IsScope}

-- ---- types

index_fit : (s : Sort) (u : Unit {0}) → index_sort s ≡ Ok u → IsIndexSort s
index_fit Int u h = tt
index_fit Bool u h = absurd (cc)
index_fit (Named t) u h = tt
index_fit (MapOf i v) u h = absurd (cc)

pub known_fit : (types : List Text) (s : Sort) (u : Unit {0}) → known_sort types s ≡ Ok u → IsSort s
known_fit types Int u h = tt
known_fit types Bool u h = tt
known_fit types (Named t) u h = tt
known_fit types (MapOf i v) u h =
    let k = parts (known_sort types i) (λ _. both (known_sort types v) (index_sort i)) u h in
    let l = parts (known_sort types v) (λ _. index_sort i) u k.2 in
    (index_fit i u l.2, known_fit types v l.0 l.1)

pub sorts_fit : (types : List Text) (ss : List Sort) (u : Unit {0}) → known_sorts types ss ≡ Ok u → AllByRecursion IsSort ss
sorts_fit types [] u h = tt
sorts_fit types (s ∷ ss) u h =
    let k = parts (known_sort types s) (λ _. known_sorts types ss) u h in (known_fit types s k.0 k.1, sorts_fit types ss u k.2)

pub vars_fit : (types : List Text) (vs : List Var) (u : Unit {0}) → known_vars types vs ≡ Ok u → AllByRecursion IsSort (sorts_of vs)
vars_fit types [] u h = tt
vars_fit types (v ∷ vs) u h =
    let k = parts (known_sort types v.sort) (λ _. known_vars types vs) u h in (known_fit types v.sort k.0 k.1, vars_fit types vs u k.2)

-- ---- a program and its tables

pub record IsTyped (P : Program) (G : Scope) : Type 0 where
  pub entered : Entered nothing G P.decls
  pub rules : AllByRecursion (λ d. decl_rule G d ≡ Ok tt) P.decls
  pub bodies : AllByRecursion (HasTypedBody G) P.decls

all_bodies : (G : Scope) (ds : List Decl) → HaveTypedBodies G ds → AllByRecursion (HasTypedBody G) ds
all_bodies G [] h = tt
all_bodies G (d ∷ ds) h = (h.0, all_bodies G ds h.1)

pub is_typed : (P : Program) → WellTyped P → (G : Scope) × IsTyped P G
is_typed P w =
    let b = bodies_typed P w in
    let k = typed_scope P w in
    let same : k.0 ≡ b.0 = ok_is (sym k.1 ∙ b.1) in
    let rules = each_all (decl_rule b.0) P.decls tt (subst (λ (G : Scope). each (decl_rule G) P.decls ≡ Ok tt) same k.2) in
    (b.0, record { entered = entered P.decls nothing b.0 b.1; rules = rules; bodies = all_bodies b.0 P.decls b.2 })

-- ---- the types of what is declared

constant_sorts : (s : Sort) (names : List Text) (es : List (Text × Variable)) → IsSort s → AllByRecursion (λ e. IsSort e.1.sort) es → AllByRecursion (λ e. IsSort e.1.sort) (constants_of s names ++ es)
constant_sorts s [] es h k = k
constant_sorts s (c ∷ names) es h k = (h, constant_sorts s names es h k)

variable_sorts : (vs : List Var) (es : List (Text × Variable)) → AllByRecursion IsSort (sorts_of vs) → AllByRecursion (λ e. IsSort e.1.sort) es → AllByRecursion (λ e. IsSort e.1.sort) (variables_as nature.Global vs ++ es)
variable_sorts [] es h k = k
variable_sorts (v ∷ vs) es h k = (h.0, variable_sorts vs es h.1 k)

entry_sorts : (G : Scope) (ds : List Decl) → AllByRecursion (λ d. decl_rule G d ≡ Ok tt) ds → AllByRecursion (λ e. IsSort e.1.sort) (global_entries ds)
entry_sorts G [] h = tt
entry_sorts G (Const u xs s ∷ ds) h = constant_sorts s xs (global_entries ds) (known_fit G.types s tt h.0) (entry_sorts G ds h.1)
entry_sorts G (Globals vs ∷ ds) h = variable_sorts vs (global_entries ds) (vars_fit G.types vs tt h.0) (entry_sorts G ds h.1)
entry_sorts G (_ ∷ ds) h = entry_sorts G ds h.1

result_sorts : (G : Scope) (ds : List Decl) → AllByRecursion (λ d. decl_rule G d ≡ Ok tt) ds → AllByRecursion (λ e. IsSort e.1.result) (function_entries ds)
result_sorts G [] h = tt
result_sorts G (Function g args r ∷ ds) h =
    let k = parts (known_sorts G.types args) (λ _. known_sort G.types r) tt h.0 in
    (known_fit G.types r tt k.2, result_sorts G ds h.1)
result_sorts G (_ ∷ ds) h = result_sorts G ds h.1

module _ (P : Program) (G : Scope) (typed : IsTyped P G) where
  pub is_scope : IsScope P G
  is_scope = record {
    globals = (entries_names (global_entries P.decls) [] G.globals typed.entered.globals).1;
    once = entries_once (global_entries P.decls) [] G.globals typed.entered.globals;
    functions = (entries_names (function_entries P.decls) [] G.functions typed.entered.functions).1;
    global_sorts = entry_sorts G P.decls typed.rules;
    function_sorts = result_sorts G P.decls typed.rules;
  }

  pub procedures_are : procedure_entries P.decls ≡ G.procedures
  procedures_are = (entries_names (procedure_entries P.decls) [] G.procedures typed.entered.procedures).1

  pub procedures_once : OnceEach (procedure_entries P.decls)
  procedures_once = entries_once (procedure_entries P.decls) [] G.procedures typed.entered.procedures

-- ---- procedures

pub truth_typed : (C : Context) (e : Expr) (u : Unit {0}) → is_truth C e ≡ Ok u → HasType C e.kind Bool
truth_typed C e u h =
    let k = parts (sort_of C e.at e.kind) (λ s. is_of Bool e.at s) u h in
    subst (HasType C e.kind) (sym (fits-same Bool e.at k.0 u k.2)) ((types_exact C e.at e.kind k.0).0 k.1)

requires_typed : (G : Scope) (locals : List (Text × Variable)) (specs : List Spec) (u : Unit {0}) → each (spec_rule G locals) specs ≡ Ok u → AllByRecursion (λ c. HasType (context G locals site.Requires) c.holds.kind Bool) (requires_of specs)
requires_typed G locals [] u h = tt
requires_typed G locals (Requires free e ∷ specs) u h =
    let k = parts (spec_rule G locals (Requires free e)) (λ _. each (spec_rule G locals) specs) u h in
    (truth_typed (context G locals site.Requires) e k.0 k.1, requires_typed G locals specs u k.2)
requires_typed G locals (d ∷ specs) u h =
    let k = parts (spec_rule G locals d) (λ _. each (spec_rule G locals) specs) u h in requires_typed G locals specs u k.2

ensures_typed : (G : Scope) (locals : List (Text × Variable)) (specs : List Spec) (u : Unit {0}) → each (spec_rule G locals) specs ≡ Ok u → AllByRecursion (λ c. HasType (context G locals site.Ensures) c.holds.kind Bool) (ensures_of specs)
ensures_typed G locals [] u h = tt
ensures_typed G locals (Ensures free e ∷ specs) u h =
    let k = parts (spec_rule G locals (Ensures free e)) (λ _. each (spec_rule G locals) specs) u h in
    (truth_typed (context G locals site.Ensures) e k.0 k.1, ensures_typed G locals specs u k.2)
ensures_typed G locals (d ∷ specs) u h =
    let k = parts (spec_rule G locals d) (λ _. each (spec_rule G locals) specs) u h in ensures_typed G locals specs u k.2

-- what the rules say of a declaration alone
pub record ProcFine (G : Scope) (p : Proc) : Type 0 where
  pub ins : AllByRecursion IsSort (sorts_of p.head.ins)
  pub outs : AllByRecursion IsSort (sorts_of p.head.outs)
  pub requires : AllByRecursion (λ c. HasType (context G (parameters p.head) site.Requires) c.holds.kind Bool) (requires_of p.specs)
  pub ensures : AllByRecursion (λ c. HasType (context G (parameters p.head) site.Ensures) c.holds.kind Bool) (ensures_of p.specs)
  pub body : own_body_rule G p.head (modifies_of p.specs) p.body ≡ Ok tt

proc_fine : (G : Scope) (p : Proc) → procedure_rule G p ≡ Ok tt → ProcFine G p
proc_fine G p h =
    let k = parts (head_rule G.types p.head) (λ _. both (each (spec_rule G (parameters p.head)) p.specs) (own_body_rule G p.head (modifies_of p.specs) p.body)) tt h in
    let l = parts (each (spec_rule G (parameters p.head)) p.specs) (λ _. own_body_rule G p.head (modifies_of p.specs) p.body) tt k.2 in
    let m = parts (known_vars G.types p.head.ins) (λ _. known_vars G.types p.head.outs) k.0 k.1 in
    record {
      ins = vars_fit G.types p.head.ins m.0 m.1;
      outs = vars_fit G.types p.head.outs k.0 m.2;
      requires = requires_typed G (parameters p.head) p.specs l.0 l.1;
      ensures = ensures_typed G (parameters p.head) p.specs l.0 l.1;
      body = l.2;
    }

-- what the rules say of a procedure with a body
pub record RoutineFine (G : Scope) (f : Text) (r : Routine) : Type 0 where
  pub name : f ≡ r.head.name
  pub ins_sorts : sorts_of r.head.ins ≡ sorts_of r.declared.head.ins
  pub outs_sorts : sorts_of r.head.outs ≡ sorts_of r.declared.head.outs
  pub declared : ProcFine G r.declared
  pub ins : AllByRecursion IsSort (sorts_of r.head.ins)
  pub outs : AllByRecursion IsSort (sorts_of r.head.outs)
  pub locals : AllByRecursion IsSort (sorts_of r.body.locals)
  pub own : IsDistinct same_text (names_of r.head.ins ++ (names_of r.head.outs ++ names_of r.body.locals))
  pub typed : EachTyped (routine G (body_variables r.head r.body) (modifies_of r.declared.specs)) false (kinds_of r.body.stmts)
  pub checked : EachChecked (routine G (body_variables r.head r.body) (modifies_of r.declared.specs)) (kinds_of r.body.stmts)

record BodyFine (G : Scope) (h : Head) (modifies : List Text) (b : Body) : Type 0 where
  locals : AllByRecursion IsSort (sorts_of b.locals)
  checked : EachChecked (routine G (body_variables h b) modifies) (kinds_of b.stmts)

body_fine : (G : Scope) (h : Head) (modifies : List Text) (b : Body) → body_rule G h modifies b ≡ Ok tt → BodyFine G h modifies b
body_fine G h modifies b e =
    let k = parts (known_vars G.types b.locals) (λ _. body_stmts_rule G h modifies b) tt e in
    record { locals = vars_fit G.types b.locals k.0 k.1; checked = stmts_checked (routine G (body_variables h b) modifies) false b.stmts tt k.2 }

same_sorts : (ss : List Sort) (vs : List Var) → have_sorts ss vs ≡ true → sorts_of vs ≡ ss
same_sorts [] [] h = refl
same_sorts [] (v ∷ vs) h = absurd (cc)
same_sorts (s ∷ ss) [] h = absurd (cc)
same_sorts (s ∷ ss) (v ∷ vs) h =
    let k = and_parts (same_sort s v.sort) (have_sorts ss vs) h in
    let e = same_sort-is s v.sort k.0 in let f = same_sorts ss vs k.1 in
    λ i. sym e i ∷ f i

types_same : (h : Head) (q : Callee) (u : Unit {0}) → same_types h q ≡ Ok u → (sorts_of h.ins ≡ q.ins) × (sorts_of h.outs ≡ q.outs)
types_same h q u = elim (have_sorts q.ins h.ins && have_sorts q.outs h.outs) as (λ b. (have_sorts q.ins h.ins && have_sorts q.outs h.outs) ≡ b → (if b then Ok tt else Err (Kind h.at)) ≡ Ok u → (sorts_of h.ins ≡ q.ins) × (sorts_of h.outs ≡ q.outs)) [
  | true ↦ λ e k. let t = and_parts (have_sorts q.ins h.ins) (have_sorts q.outs h.outs) e in (same_sorts q.ins h.ins t.0, same_sorts q.outs h.outs t.1)
  | false ↦ λ e k. absurd (cc)
] refl

module _ (P : Program) (G : Scope) (typed : IsTyped P G) where
  pub proc_is_fine : (f : Text) (p : Proc) → procedure_in P.decls f ≡ Some p → ProcFine G p
  proc_is_fine f p e = proc_fine G p (procedure_has (λ d. decl_rule G d ≡ Ok tt) P.decls f p typed.rules e).0

  -- a procedure with a body of its own
  own_fine : (f : Text) (p : Proc) (b : Body) → procedure_in P.decls f ≡ Some p → p.body ≡ Some b → RoutineFine G f (record { declared = p; head = p.head; body = b })
  own_fine f p b e is =
      let fine = proc_is_fine f p e in
      let body = body_fine G p.head (modifies_of p.specs) b (ap (own_body_rule G p.head (modifies_of p.specs)) (sym is) ∙ fine.body) in
      let bodies = procedure_has (HasTypedBody G) P.decls f p typed.bodies e in
      let own = (procedure_has OwnNames P.decls f p typed.entered.own e).0 in
      let stmts : IsTypedBody G p.head (modifies_of p.specs) b = subst (IsTypedOwnBody G p.head (modifies_of p.specs)) is bodies.0 in
      record {
        name = bodies.1;
        ins_sorts = refl;
        outs_sorts = refl;
        declared = fine;
        ins = fine.ins;
        outs = fine.outs;
        locals = body.locals;
        own = own_distinct p.head b.locals own.0 (ap (λ (o : Option Body). own_names p.head (locals_of o)) (sym is) ∙ own.1);
        typed = all_typed (routine G (body_variables p.head b) (modifies_of p.specs)) false b.stmts stmts;
        checked = body.checked;
      }

  -- a procedure with an implementation
  impl_fine : (f : Text) (p : Proc) (i : Impl) → procedure_in P.decls f ≡ Some p → implementation_in P.decls f ≡ Some i → RoutineFine G f (record { declared = p; head = i.head; body = i.body })
  impl_fine f p i e is =
      let h = implementation_has (λ d. decl_rule G d ≡ Ok tt) P.decls f i typed.rules is in
      let bodies = (implementation_has (HasTypedBody G) P.decls f i typed.bodies is).0 in
      let own = (implementation_has OwnNames P.decls f i typed.entered.own is).0 in
      let k = parts (head_rule G.types i.head) (λ _. and_then (declared_as i.head.name (named G.procedures i.head.name)) (λ q. both (same_types i.head q) (body_rule G i.head q.modifies i.body))) tt h.0 in
      let l = parts (declared_as i.head.name (named G.procedures i.head.name)) (λ q. both (same_types i.head q) (body_rule G i.head q.modifies i.body)) tt k.2 in
      let m = parts (same_types i.head l.0) (λ _. body_rule G i.head l.0.modifies i.body) tt l.2 in
      let n = parts (known_vars G.types i.head.ins) (λ _. known_vars G.types i.head.outs) k.0 k.1 in
      let found : named G.procedures i.head.name ≡ Some (callee_of p) = ap (λ (x : Text). named G.procedures x) (sym h.1) ∙ ap (λ (l : List (Text × Callee)). named l f) (sym (procedures_are P G typed)) ∙ procedure_named P.decls f p e in
      let checked_as : l.0 ≡ callee_of p = same_Some l.0 (callee_of p) (sym (is_declared i.head.name (named G.procedures i.head.name) l.0 l.1) ∙ found) in
      let typed_as : bodies.0 ≡ callee_of p = same_Some bodies.0 (callee_of p) (sym bodies.1 ∙ found) in
      let body : BodyFine G i.head (modifies_of p.specs) i.body = subst (λ (q : Callee). BodyFine G i.head q.modifies i.body) checked_as (body_fine G i.head l.0.modifies i.body m.2) in
      let stmts : IsTypedBody G i.head (modifies_of p.specs) i.body = subst (λ (q : Callee). IsTypedBody G i.head q.modifies i.body) typed_as bodies.2 in
      let sorts = types_same i.head l.0 m.0 m.1 in
      record {
        name = h.1;
        ins_sorts = sorts.0 ∙ ap (λ (q : Callee). q.ins) checked_as;
        outs_sorts = sorts.1 ∙ ap (λ (q : Callee). q.outs) checked_as;
        declared = proc_is_fine f p e;
        ins = vars_fit G.types i.head.ins n.0 n.1;
        outs = vars_fit G.types i.head.outs k.0 n.2;
        locals = body.locals;
        own = own_distinct i.head i.body.locals own.0 own.1;
        typed = all_typed (routine G (body_variables i.head i.body) (modifies_of p.specs)) false i.body.stmts stmts;
        checked = body.checked;
      }

  pub routine_fine : (f : Text) (r : Routine) → routine_named P f ≡ Some r → RoutineFine G f r
  routine_fine f r h = go (procedure_in P.decls f) (implementation_in P.decls f) refl refl h
    where
      body : (p : Proc) → procedure_in P.decls f ≡ Some p → (o : Option Body) → p.body ≡ o → option_map (λ b. record { declared = p; head = p.head; body = b }) o ≡ Some r → RoutineFine G f r
      body p e None is k = absurd (none-some r k)
      body p e (Some b) is k = subst (RoutineFine G f) (same_Some _ _ k) (own_fine f p b e is)

      go : (o : Option Proc) (i : Option Impl) → procedure_in P.decls f ≡ o → implementation_in P.decls f ≡ i → with_body o i ≡ Some r → RoutineFine G f r
      go None i e is k = absurd (none-some r k)
      go (Some p) (Some i) e is k = subst (RoutineFine G f) (same_Some _ _ k) (impl_fine f p i e is)
      go (Some p) None e is k = body p e p.body refl k
