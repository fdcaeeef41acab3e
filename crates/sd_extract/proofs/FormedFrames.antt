-- The frames of a typed procedure, and what its calls run.
use Rattle.std.proofs.Common.{◌≡◌, ◌≢◌, ℕ, suc, ◌+◌, ◌≤◌, List, [], ◌∷◌, ◌++◌, length, Option, Some, None, Ok, Err, refl, sym, ◌∙◌, ap, subst, ⊎_elim, arith, append_assoc, length-append}
use Rattle.std.specs.Prelude.{Bool, true, false, Result, slice_get, Contains, option_map, if◌then◌else◌}
use Rattle.std.specs.List.{AllByRecursion, filter_map}
use Rattle.sd_base.proofs.Lists.{slice_get-between, all-append, all-weaker}
use Rattle.std.proofs.lemmas.List.{length-map}
use Rattle.std.proofs.lemmas.Option.{same_Some, none-some}
use Rattle.sd_extract.proofs.SourceWords.{Sort, Var, Text, names_of, Program, Proc, Impl, Spec, Body, procedure_in, implementation_in, with_body, routine_named, SourceRoutine, globals_in, TypeError, Variable, Callee, Nature, Scope, is_among, named, or_global, routine, assigned_as, modified_rule, has_body, variables_as, parameters, modifies_of, callee_of, body_variables}
use Rattle.sd_extract.proofs.CoreWords.{Spot, Slot, Global, CoreStmt, CoreProc, CoreProgram, Store, set_all, slots_from, sorts_of, state_sorts, sort_at, IsSort, AreApart, Within, Names, place_in, either_place, place_of, Source, state_of, globals_from, names_at, frame_at, on_args, index_in, modified_names, source_of, number_from, core_procs, body_proc, each_loop_in, kinds, core_program}
use Rattle.sd_types.specs.declared.refusal.TypeError.TheVariants.{NoBody, NotModified}
use Rattle.sd_types.specs.declared.scope.Nature.TheVariants as nature
use Rattle.sd_types.specs.declared.scope.Site.TheVariants as site
use Rattle.sd_types.specs.Statements.{Routine, is_global}
use Rattle.sd_extract.proofs.FormedTables.{global_entries, procedure_entries, body_names}
use Rattle.sd_extract.proofs.FormedChecks.{distinct_new}
use Rattle.sd_extract.proofs.FormedLookups.{globals_as, global_found, no_global, constant_no_global, is_outer, procedure_found, HasBody, has_a_body}
use Rattle.sd_extract.proofs.FormedPlaces.{Laid, laid_append, laid_vars, laid_two, laid_found, laid_none, place_has, IsSlot, Separate, place_one, global_spots, globals_apart, all_global, set_spots, IsScope, sorts_as, LocalsAt, if_named-some, sees, args_at}
use Rattle.sd_extract.proofs.FormedDeclarations.{IsTyped, is_scope, procedures_are, procedures_once, RoutineFine, routine_fine}
use Rattle.sd_extract.proofs.FormedModifies.{unnumbered, numbers_match, modifies_there, all_modified, numbers_have, global_spot}
use Rattle.sd_extract.proofs.FormedSpots.{Holds, spots_hold, slot_below, slots_apart, slots_before, slots_targets}
use Rattle.sd_extract.proofs.FormedNumbers.{LoopIs, each_loop_placed, StandsIn, stands_in}
use Rattle.sd_extract.proofs.FormedStatements.{CalleeAt, Fits, EachLoopsAt}

pub sorts_length : (vs : List Var) → length vs ≡ length (sorts_of vs)
sorts_length vs = sym (length-map vs (λ v. v.sort))

-- ---- a routine with its declaration

declared_first : (o : Option Proc) (i : Option Impl) (r : SourceRoutine) → with_body o i ≡ Some r → o ≡ Some r.declared
declared_first None i r e = absurd (none-some r e)
declared_first (Some p) (Some i) r e = ap (λ (x : SourceRoutine). Some x.declared) (same_Some _ _ e)
declared_first (Some p) None r e = elim p.body as (λ b. option_map (λ b. record { declared = p; head = p.head; body = b }) b ≡ Some r → Some p ≡ Some r.declared) [
  | None ↦ λ k. absurd (none-some r k)
  | Some b ↦ λ k. ap (λ (x : SourceRoutine). Some x.declared) (same_Some _ _ k)
] e

pub declared_of : (P : Program) (f : Text) (r : SourceRoutine) → routine_named P f ≡ Some r → procedure_in P.decls f ≡ Some r.declared
declared_of P f r e = declared_first (procedure_in P.decls f) (implementation_in P.decls f) r e

-- a declared procedure that has a body is a routine
has_routine : (P : Program) (f : Text) (d : Proc) → procedure_in P.decls f ≡ Some d → HasBody P.decls f → (r : SourceRoutine) × (routine_named P f ≡ Some r)
has_routine P f d e h = go (implementation_in P.decls f) refl
  where
    own : (p : Proc) (b : Body) → procedure_in P.decls f ≡ Some p → p.body ≡ Some b → implementation_in P.decls f ≡ None → (r : SourceRoutine) × (routine_named P f ≡ Some r)
    own p b k is none =
        (record { declared = p; head = p.head; body = b }, (λ j. with_body (k j) (none j)) ∙ ap (option_map (λ b. record { declared = p; head = p.head; body = b })) is)

    go : (o : Option Impl) → implementation_in P.decls f ≡ o → (r : SourceRoutine) × (routine_named P f ≡ Some r)
    go (Some i) k = (record { declared = d; head = i.head; body = i.body }, λ j. with_body (e j) (k j))
    go None k = ⊎_elim
        (λ (l : (i : Impl) × (implementation_in P.decls f ≡ Some i)). absurd (none-some l.0 (sym k ∙ l.1)))
        (λ (r : (p : Proc) × (b : Body) × (procedure_in P.decls f ≡ Some p) × (p.body ≡ Some b)). own r.0 r.1 r.2 r.3 k)
        h

-- its procedures stand at their numbers
pub routine_stands : (P : Program) (f : Text) (r : SourceRoutine) → routine_named P f ≡ Some r → StandsIn P (core_procs P) r (number_from P 0 P.decls f)
routine_stands P f r e = stands_in P f r.declared r e P.decls 0 [] refl (declared_of P f r e)

abbrev pub source_at : Program → Text → SourceRoutine → Source
source_at P f r = source_of (globals_in P.decls) (number_from P 0 P.decls f) r

pub body_stands : (P : Program) (f : Text) (r : SourceRoutine) → routine_named P f ≡ Some r → slice_get (core_procs P) (number_from P 0 P.decls f) ≡ Some (body_proc P (number_from P 0 P.decls) (source_at P f r))
body_stands P f r e =
    let at = routine_stands P f r e in
    let S = source_at P f r in
    let number = number_from P 0 P.decls in
    ap (λ (all : List CoreProc). slice_get all (number f)) at.parts ∙ slice_get-between at.front (body_proc P number S) (each_loop_in P number S (suc S.number) (kinds S) ++ at.back) (number f) at.number

-- and so do those of its loops
pub loops_stand : (P : Program) (f : Text) (r : SourceRoutine) → routine_named P f ≡ Some r → EachLoopsAt (LoopIs P (number_from P 0 P.decls) (source_at P f r) (core_procs P)) (suc (number_from P 0 P.decls f)) (kinds (source_at P f r))
loops_stand P f r e =
    let at = routine_stands P f r e in
    let S = source_at P f r in
    let body = body_proc P (number_from P 0 P.decls) S in
    let loops = each_loop_in P (number_from P 0 P.decls) S (suc S.number) (kinds S) in
    let l = length-append at.front (body ∷ []) in let m = at.number in
    each_loop_placed P (number_from P 0 P.decls) S (core_procs P) (at.front ++ (body ∷ [])) at.back (suc S.number) (kinds S) (at.parts ∙ sym (append_assoc at.front (body ∷ []) (loops ++ at.back))) (omega (arith, l, m))

-- ---- the frames of a routine

all_slots : {A : Type 0} (k : ℕ) (xs : List A) → AllByRecursion IsSlot (slots_from k xs)
all_slots k [] = tt
all_slots k (x ∷ xs) = (tt, all_slots (suc k) xs)

pub two_apart : {A B : Type 0} (k l : ℕ) (xs : List A) (ys : List B) → k + length xs ≤ l → AreApart (slots_from k xs ++ slots_from l ys)
two_apart k l [] ys h = slots_apart l ys
two_apart k l (x ∷ xs) ys h =
    (all-append (λ q. Slot k ≢ q) (slots_from (suc k) xs) (slots_from l ys) (slot_below k (suc k) xs (omega arith)) (slot_below k l ys (omega (arith, h))), two_apart (suc k) l xs ys (omega (arith, h)))

slot_is_within : (ms : List ℕ) (q : Spot) → IsSlot q → Within ms (q ∷ [])
slot_is_within ms (Slot i) h = tt
slot_is_within ms (Global i) h = absurd h

pub in_modifies : (x : Text) (b : Bool) (u : Unit {0}) → (if b then Ok tt else Err (NotModified x)) ≡ Ok u → b ≡ true
in_modifies x true u h = refl
in_modifies x false u h = absurd (cc)

module _ (P : Program) (G : Scope) (typed : IsTyped P G) where
  abbrev number : Text → ℕ
  number = number_from P 0 P.decls

  abbrev K : CoreProgram
  K = core_program P

  abbrev globals : List Var
  globals = globals_in P.decls

  abbrev scope : IsScope P G
  scope = is_scope P G typed

  -- a name with a number is a global
  index_named : (vs : List Var) (x : Text) (i : ℕ) → index_in vs x ≡ Some i → named (variables_as nature.Global vs) x ≡ None → ⊥
  index_named vs x i e h = none-some i (sym (unnumbered nature.Global vs x h) ∙ e)

  index_global : (x : Text) (i : ℕ) → index_in globals x ≡ Some i → is_global (named G.globals x) ≡ true
  index_global x i e = ap (λ (l : List (Text × Variable)). is_global (named l x)) (sym scope.globals) ∙ go (named (global_entries P.decls) x) refl
    where
      go : (o : Option Variable) → named (global_entries P.decls) x ≡ o → is_global o ≡ true
      go None h = absurd (index_named globals x i e (no_global P.decls x h))
      go (Some v) h = ⊎_elim
          (λ (g : v.nature ≡ nature.Global). ap (λ (n : Nature). is_global (Some (record { sort = v.sort; nature = n }))) g)
          (λ (c : v.nature ≡ nature.Constant). absurd (index_named globals x i e (constant_no_global P.decls x v scope.once h c)))
          (is_outer P.decls x v h)

  abbrev passed : Result (Unit {0}) TypeError
  passed = Ok tt

  abbrev if_modified : List Spec → Text → Result (Unit {0}) TypeError
  if_modified specs x = if is_among (modifies_of specs) x then Ok tt else Err (NotModified x)

  -- a global that typing lets a routine modify is in its list
  modified_number : (locals : List (Text × Variable)) (specs : List Spec) (x : Text) (i : ℕ) → modified_rule (routine G locals (modifies_of specs)) x ≡ Ok tt → index_in globals x ≡ Some i → Contains (filter_map (index_in globals) (modified_names specs [])) i
  modified_number locals specs x i h e =
      modifies_there globals specs x i e (in_modifies x (is_among (modifies_of specs) x) tt (ap (λ (b : Bool). if b then if_modified specs x else passed) (sym (index_global x i e)) ∙ h))

  -- ---- calls

  is_with_body : (bodies : List Text) (f : Text) (u : Unit {0}) → has_body bodies f ≡ Ok u → is_among bodies f ≡ true
  is_with_body bodies f u = elim (is_among bodies f) as (λ b. (if b then Ok tt else Err (NoBody f)) ≡ Ok u → b ≡ true) [ true ↦ λ h. refl | false ↦ λ h. absurd (cc) ]

  pub callee_at : (p : CoreProc) (locals : List (Text × Variable)) (specs : List Spec) → p.modifies ≡ filter_map (index_in globals) (modified_names specs []) → (f : Text) (q : Callee) → named G.procedures f ≡ Some q → has_body G.bodies f ≡ Ok tt → AllByRecursion (λ x. modified_rule (routine G locals (modifies_of specs)) x ≡ Ok tt) q.modifies → CalleeAt P number K p G f q
  callee_at p locals specs same f q found body mods =
      let here : named (procedure_entries P.decls) f ≡ Some q = ap (λ (l : List (Text × Callee)). named l f) (procedures_are P G typed) ∙ found in
      let k = procedure_found P.decls f q here in
      let bodies : body_names P.decls ≡ G.bodies = (distinct_new (body_names P.decls) [] G.bodies typed.entered.bodies).2 in
      let among : is_among (body_names P.decls) f ≡ true = ap (λ (l : List Text). is_among l f) bodies ∙ is_with_body G.bodies f tt body in
      let o = has_routine P f k.procedure k.found (has_a_body P.decls f (procedures_once P G typed) among) in
      let r = o.0 in
      let is_first : k.procedure ≡ r.declared = same_Some k.procedure r.declared (sym k.found ∙ declared_of P f r o.1) in
      let fine = routine_fine P G typed f r o.1 in
      let as_callee : callee_of r.declared ≡ q = ap callee_of (sym is_first) ∙ k.callee in
      let theirs : AllByRecursion (λ x. modified_rule (routine G locals (modifies_of specs)) x ≡ Ok tt) (modifies_of r.declared.specs) = subst (λ (c : Callee). AllByRecursion (λ x. modified_rule (routine G locals (modifies_of specs)) x ≡ Ok tt) c.modifies) (sym as_callee) mods in
      let mine = filter_map (index_in globals) (modified_names specs []) in
      let numbers : AllByRecursion (λ x. (i : ℕ) → index_in globals x ≡ Some i → Contains mine i) (modified_names r.declared.specs []) = all_modified (λ x. (i : ℕ) → index_in globals x ≡ Some i → Contains mine i) r.declared.specs [] (all-weaker (λ x. modified_rule (routine G locals (modifies_of specs)) x ≡ Ok tt) (λ x. (i : ℕ) → index_in globals x ≡ Some i → Contains mine i) (λ x h i e. modified_number locals specs x i h e) (modifies_of r.declared.specs) theirs) in
      let allowed : AllByRecursion (Contains p.modifies) (source_at P f r).modifies = subst (λ (ms : List ℕ). AllByRecursion (Contains ms) (source_at P f r).modifies) (sym same) (numbers_have globals (Contains mine) (modified_names r.declared.specs []) numbers) in
      record {
        routine = r;
        is_routine = o.1;
        declared = r.declared;
        is_declared = declared_of P f r o.1;
        ins = ap (λ (c : Callee). c.ins) as_callee;
        known_ins = fine.declared.ins;
        known_outs = fine.declared.outs;
        requires = fine.declared.requires;
        proc = body_proc P number (source_at P f r);
        found = body_stands P f r o.1;
        proc_ins = fine.ins_sorts ∙ ap (λ (c : Callee). c.ins) as_callee;
        proc_outs = fine.outs_sorts ∙ ap (λ (c : Callee). c.outs) as_callee;
        modifies = allowed;
        own_modifies = allowed;
      }

  -- ---- frames

  module _ (f : Text) (r : SourceRoutine) (is : routine_named P f ≡ Some r) where
    abbrev S : Source
    S = source_at P f r

    abbrev fine : RoutineFine G f r
    fine = routine_fine P G typed f r is

    abbrev locals : List (Text × Variable)
    locals = body_variables r.head r.body

    abbrev R : Routine
    R = routine G locals (modifies_of r.declared.specs)

    -- the globals at the entry
    pub entry_laid : (T : Store Sort) (c : ℕ) → T.globals ≡ sorts_of globals → Holds T.slots c (sorts_of S.copied) → Laid T (globals_as P.decls) (names_of globals) (set_all (globals_from 0 globals) S.modifies (slots_from c S.copied))
    entry_laid T c e h =
        let copies = spots_hold T c S.copied (sorts_of S.copied) (sorts_length S.copied) h in
        laid_vars T nature.Global globals (set_all (globals_from 0 globals) S.modifies (slots_from c S.copied)) (set_spots T (globals_from 0 globals) (sorts_of globals) S.modifies (slots_from c S.copied) (sorts_of S.copied) (global_spots T globals e) (numbers_match globals (modified_names r.declared.specs [])) copies)

    pub now_laid : (T : Store Sort) → T.globals ≡ sorts_of globals → Laid T (globals_as P.decls) (names_of globals) (globals_from 0 globals)
    now_laid T e = laid_vars T nature.Global globals (globals_from 0 globals) (global_spots T globals e)

    locals_laid : (T : Store Sort) (a c : ℕ) → Holds T.slots 0 (sorts_of r.head.ins) → Holds T.slots a (sorts_of (state_of S)) → Laid T locals (names_at S a c).local_names (names_at S a c).locals
    locals_laid T a c h k =
        let ins = variables_as nature.Input r.head.ins in
        let outs = variables_as nature.Output r.head.outs in
        let own = variables_as nature.Local r.body.locals in
        let ins_at = spots_hold T 0 r.head.ins (sorts_of r.head.ins) (sorts_length r.head.ins) h in
        let state_at = spots_hold T a (state_of S) (sorts_of (state_of S)) (sorts_length (state_of S)) k in
        subst (λ (es : List (Text × Variable)). Laid T es (names_at S a c).local_names (names_at S a c).locals) (sym (append_assoc ins outs own)) (laid_append T ins (outs ++ own) (names_of r.head.ins) (names_of (state_of S)) (slots_from 0 r.head.ins) (slots_from a (state_of S)) (laid_vars T nature.Input r.head.ins (slots_from 0 r.head.ins) ins_at) (laid_two T nature.Output nature.Local r.head.outs r.body.locals (slots_from a (state_of S)) state_at))

    locals_at : (T : Store Sort) (a c : ℕ) → Laid T locals (names_at S a c).local_names (names_at S a c).locals → LocalsAt T site.Body locals (names_at S a c)
    locals_at T a c laid = record {
      found = λ x v e m. laid_found T locals (names_at S a c).local_names (names_at S a c).locals x v laid e;
      absent = λ x e. laid_none T locals (names_at S a c).local_names (names_at S a c).locals x laid e;
      sorts = all-append (λ e. IsSort e.1.sort) (parameters r.head) (variables_as nature.Local r.body.locals) (all-append (λ e. IsSort e.1.sort) (variables_as nature.Input r.head.ins) (variables_as nature.Output r.head.outs) (sorts_as nature.Input r.head.ins fine.ins) (sorts_as nature.Output r.head.outs fine.outs)) (sorts_as nature.Local r.body.locals fine.locals);
    }

    separate : (a c : ℕ) → length r.head.ins ≤ a → Separate (names_at S a c)
    separate a c h = record {
      locals_apart = two_apart 0 a r.head.ins (state_of S) (omega (arith, h));
      globals_apart = globals_apart 0 globals;
      locals = all-append IsSlot (slots_from 0 r.head.ins) (slots_from a (state_of S)) (all_slots 0 r.head.ins) (all_slots a (state_of S));
      globals = all_global 0 globals;
    }

    abbrev Assigned : CoreProc → Names → Text → Variable → Type 0
    Assigned p N x v = (q : Spot) × (place_of N x ≡ Some q) × (sort_at (state_sorts K p) q ≡ Some v.sort) × Within p.modifies (q ∷ [])

    assigned_global : (p : CoreProc) (a c : ℕ) → p.modifies ≡ S.modifies → (x : Text) (v : Variable) → place_in (names_at S a c).local_names (names_at S a c).locals x ≡ None → named G.globals x ≡ Some v → assigned_as R.modifies x v.nature ≡ Ok tt → Assigned p (names_at S a c) x v
    assigned_global p a c same x v none h ok =
        let T = state_sorts K p in
        let N = names_at S a c in
        let e : named (global_entries P.decls) x ≡ Some v = ap (λ (l : List (Text × Variable)). named l x) scope.globals ∙ h in
        ⊎_elim
        (λ (g : v.nature ≡ nature.Global). let at = laid_found T (globals_as P.decls) N.global_names N.globals x v (now_laid T refl) (global_found P.decls x v e g) in
        let i = global_spot globals x at.spot at.found in
        let allowed : assigned_as R.modifies x nature.Global ≡ Ok tt = subst (λ (n : Nature). assigned_as R.modifies x n ≡ Ok tt) g ok in
        let there = modifies_there globals r.declared.specs x i.0 i.1 (in_modifies x (is_among (modifies_of r.declared.specs) x) tt allowed) in
        (at.spot, ap (λ (o : Option Spot). either_place o (place_in N.global_names N.globals x)) none ∙ at.found, at.sort, subst (λ (q : Spot). Within p.modifies (q ∷ [])) (sym i.2) (subst (λ (ms : List ℕ). Contains ms i.0) (sym same) there, tt)))
        (λ (k : v.nature ≡ nature.Constant). let refused : assigned_as R.modifies x nature.Constant ≡ Ok tt = subst (λ (n : Nature). assigned_as R.modifies x n ≡ Ok tt) k ok in
        absurd (not_read_only x tt refused))
        (is_outer P.decls x v e)
      where
        not_read_only : (x : Text) (u : Unit {0}) → assigned_as R.modifies x nature.Constant ≡ Ok u → ⊥
        not_read_only x u h = cc

    assigned : (p : CoreProc) (a c : ℕ) → p.modifies ≡ S.modifies → Laid (state_sorts K p) locals (names_at S a c).local_names (names_at S a c).locals → (x : Text) (v : Variable) → R.context.variable x ≡ Some v → assigned_as R.modifies x v.nature ≡ Ok tt → Assigned p (names_at S a c) x v
    assigned p a c same laid x v h ok =
        go (named locals x) refl (if_named-some site.Body (or_global (named locals x) (named G.globals x)) v h).0
      where
        go : (o : Option Variable) → named locals x ≡ o → or_global o (named G.globals x) ≡ Some v → Assigned p (names_at S a c) x v
        go (Some w) e j =
            let N = names_at S a c in
            let at = laid_found (state_sorts K p) locals N.local_names N.locals x v laid (e ∙ j) in
            let slot = place_has IsSlot N.local_names N.locals x at.spot (all-append IsSlot (slots_from 0 r.head.ins) (slots_from a (state_of S)) (all_slots 0 r.head.ins) (all_slots a (state_of S))) at.found in
            (at.spot, ap (λ (o : Option Spot). either_place o (place_in N.global_names N.globals x)) at.found, at.sort, slot_is_within p.modifies at.spot slot)
        go None e j =
            assigned_global p a c same x v (laid_none (state_sorts K p) locals (names_at S a c).local_names (names_at S a c).locals x laid e) j ok

    -- a frame whose slots hold the ins, the state and the copies
    pub frame_fits : (p : CoreProc) (a c first : ℕ) (leave : List CoreStmt) → p.modifies ≡ S.modifies → Holds (state_sorts K p).slots 0 (sorts_of r.head.ins) → Holds (state_sorts K p).slots a (sorts_of (state_of S)) → Holds (state_sorts K p).slots c (sorts_of S.copied) → length r.head.ins ≤ a → a + length (state_of S) ≤ first → Fits P number K p R (frame_at S a c leave) first (sorts_of r.head.ins) (sorts_of (state_of S)) (sorts_of S.copied)
    frame_fits p a c first leave same ins state copies before after =
        let T = state_sorts K p in
        let N = names_at S a c in
        let laid = locals_laid T a c ins state in
        record {
          sees = sees P G scope T site.Body locals N (locals_at T a c laid) (now_laid T refl) (λ e. entry_laid T c refl copies);
          assigned = assigned p a c same laid;
          one = place_one N (separate a c before);
          ins_at = spots_hold T 0 r.head.ins (sorts_of r.head.ins) (sorts_length r.head.ins) ins;
          state_at = slots_targets T p.modifies a (state_of S) (sorts_of (state_of S)) (sorts_length (state_of S)) state;
          copies_at = spots_hold T c S.copied (sorts_of S.copied) (sorts_length S.copied) copies;
          hidden = λ l h. slots_before l a (state_of S) (omega (arith, after, h));
          requires = λ d spots known_ins known_outs h. sees P G scope T site.Requires (parameters d.head) (on_args N d spots) (args_at P G scope T N d spots known_ins known_outs h) (now_laid T refl) (λ e. absurd (cc));
          callees = callee_at p locals r.declared.specs same;
        }
