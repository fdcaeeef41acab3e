-- The core program of a program over truth values, without calls and loops, is one too.
use Rattle.std.proofs.Common.{◌≡◌, ℕ, suc, ◌+◌, Bool, true, false, List, [], ◌∷◌, ◌++◌, map, Option, Some, None, refl}
use Rattle.std.specs.Prelude.{option_map, if◌then◌else◌}
use Rattle.std.specs.List.{AllByRecursion, filter_map, cons_option}
use Rattle.sd_extract.proofs.SourceWords.{BoolSort, Var, Text, same_text, Body, Proc, Impl, Spec, Requires, Ensures, Decl, Globals, Procedure, Implementation, Program, Routine, requires_of, ensures_of, procedure_in, implementation_in, with_body, routine_named, globals_in, uniques_in}
use Rattle.sd_extract.proofs.CoreWords.{arg_vars, ins_of, Global, At, Source, source_of, var_in, copies_of, kinds, none, put, check, assume, on_args, contract, leave, body_frame, body_start, body_proc, hidden, each_extracted, procs_of, size_of, number_from, routine_procs, procs_from, functions_in, axioms_in, core_axiom, AreTruths, IsPropositional}
use Rattle.sd_base.proofs.Lists.{all-append}
use Rattle.sd_core.specs.Propositional as propositional
use Rattle.sd_extract.specs.Propositional.{IsPropositionalSpec, IsPropositionalHead, IsPropositionalBody, MaybePropositionalBody, IsPropositionalDecl}
use Rattle.sd_extract.specs.Laws.{PropositionalIsKept}
use Rattle.sd_extract.proofs.PropositionalLemmas.{AllPropositional, IsNumberless, checks-propositional, assumes-propositional, put-propositional, each_extracted-propositional, each_loops-none}
use Rattle.sd_extract.proofs.CodeLists.{all_map, map_all}
use Rattle.sd_extract.proofs.Parts.{hidden_have}

abbrev pub IsTruth : Var → Type 0
IsTruth x = x.sort ≡ BoolSort

abbrev pub AllDecls : List Decl → Type 0
AllDecls = AllByRecursion IsPropositionalDecl

either : {A : Type 0} (M : A → Type 0) (b : Bool) (x y : A) → M x → M y → M (if b then x else y)
either M true x y h k = h
either M false x y h k = k

-- ---- routines

pub record IsPropositionalRoutine (r : Routine) : Type 0 where
  pub head : IsPropositionalHead r.head
  pub specs : AllByRecursion IsPropositionalSpec r.declared.specs
  pub body : IsPropositionalBody r.body

abbrev MaybeRoutine : Option Routine → Type 0
MaybeRoutine None = Unit {0}
MaybeRoutine (Some r) = IsPropositionalRoutine r

abbrev MaybeProc : Option Proc → Type 0
MaybeProc None = Unit {0}
MaybeProc (Some p) = IsPropositionalDecl (Procedure p)

abbrev MaybeImpl : Option Impl → Type 0
MaybeImpl None = Unit {0}
MaybeImpl (Some i) = IsPropositionalDecl (Implementation i)

found-proc : (ds : List Decl) (f : Text) → AllDecls ds → MaybeProc (procedure_in ds f)
found-proc [] f h = tt
found-proc (Globals vs ∷ ds) f h = found-proc ds f h.1
found-proc (Procedure p ∷ ds) f h = either MaybeProc (same_text f p.head.name) (Some p) (procedure_in ds f) h.0 (found-proc ds f h.1)
found-proc (Implementation i ∷ ds) f h = found-proc ds f h.1
found-proc (_ ∷ ds) f h = absurd h.0

found-impl : (ds : List Decl) (f : Text) → AllDecls ds → MaybeImpl (implementation_in ds f)
found-impl [] f h = tt
found-impl (Globals vs ∷ ds) f h = found-impl ds f h.1
found-impl (Procedure p ∷ ds) f h = found-impl ds f h.1
found-impl (Implementation i ∷ ds) f h = either MaybeImpl (same_text f i.head.name) (Some i) (implementation_in ds f) h.0 (found-impl ds f h.1)
found-impl (_ ∷ ds) f h = absurd h.0

own-body : (p : Proc) (b : Option Body) → IsPropositionalHead p.head → AllByRecursion IsPropositionalSpec p.specs → MaybePropositionalBody b → MaybeRoutine (option_map (λ b. record { declared = p; head = p.head; body = b }) b)
own-body p None h s k = tt
own-body p (Some b) h s k = record { head = h; specs = s; body = k }

with_body-propositional : (p : Option Proc) (i : Option Impl) → MaybeProc p → MaybeImpl i → MaybeRoutine (with_body p i)
with_body-propositional None i h k = tt
with_body-propositional (Some p) (Some i) h k = record { head = k.0; specs = h.1; body = k.1 }
with_body-propositional (Some p) None h k = own-body p p.body h.0 h.1 h.2

pub routine-propositional : (P : Program) (f : Text) → AllDecls P.decls → MaybeRoutine (routine_named P f)
routine-propositional P f h = with_body-propositional (procedure_in P.decls f) (implementation_in P.decls f) (found-proc P.decls f h) (found-impl P.decls f h)

-- ---- clauses

requires-numberless : (specs : List Spec) → AllByRecursion IsPropositionalSpec specs → AllByRecursion IsNumberless (requires_of specs)
requires-numberless [] h = tt
requires-numberless (Requires free e ∷ specs) h = (h.0, requires-numberless specs h.1)
requires-numberless (_ ∷ specs) h = requires-numberless specs h.1

ensures-numberless : (specs : List Spec) → AllByRecursion IsPropositionalSpec specs → AllByRecursion IsNumberless (ensures_of specs)
ensures-numberless [] h = tt
ensures-numberless (Ensures free e ∷ specs) h = (h.0, ensures-numberless specs h.1)
ensures-numberless (_ ∷ specs) h = ensures-numberless specs h.1

-- ---- globals

pub globals-truths : (ds : List Decl) → AllDecls ds → AreTruths (globals_in ds)
globals-truths [] h = tt
globals-truths (Globals vs ∷ ds) h = all-append IsTruth vs (globals_in ds) h.0 (globals-truths ds h.1)
globals-truths (Procedure p ∷ ds) h = globals-truths ds h.1
globals-truths (Implementation i ∷ ds) h = globals-truths ds h.1
globals-truths (_ ∷ ds) h = absurd h.0

abbrev MaybeTruth : Option Var → Type 0
MaybeTruth None = Unit {0}
MaybeTruth (Some v) = IsTruth v

var-truth : (vs : List Var) (x : Text) → AreTruths vs → MaybeTruth (var_in vs x)
var-truth [] x h = tt
var-truth (v ∷ vs) x h = either MaybeTruth (same_text x v.name) (Some v) (var_in vs x) h.0 (var-truth vs x h.1)

cons-truths : (o : Option Var) (vs : List Var) → MaybeTruth o → AreTruths vs → AreTruths (cons_option o vs)
cons-truths None vs h k = k
cons-truths (Some v) vs h k = (h, k)

copied-truths : (vs : List Var) (names : List Text) → AreTruths vs → AreTruths (filter_map (var_in vs) names)
copied-truths vs [] h = tt
copied-truths vs (x ∷ names) h = cons-truths (var_in vs x) (filter_map (var_in vs) names) (var-truth vs x h) (copied-truths vs names h)

-- ---- procedures

args-truths : (call i : ℕ) (vs : List Var) → AreTruths vs → AreTruths (arg_vars call i vs)
args-truths call i [] h = tt
args-truths call i (v ∷ vs) h = (h.0, args-truths call (suc i) vs h.1)

ins-truths : (o : Option Proc) → MaybeProc o → AreTruths (ins_of o)
ins-truths None h = tt
ins-truths (Some p) h = h.0.0

module _ (P : Program) (decls : AllDecls P.decls) (number : Text → ℕ) (S : Source) (fine : IsPropositionalRoutine S.routine) (copied : AreTruths S.copied) where
  kinds-propositional : AllByRecursion IsPropositional (kinds S)
  kinds-propositional = all_map (λ s. IsPropositional s.kind) IsPropositional (λ s. s.kind) (λ s h. h) S.routine.body.stmts fine.body.1

  leave-propositional : AllPropositional (leave S)
  leave-propositional = all-append propositional.IsPropositional (map (check (contract S)) (ensures_of S.routine.declared.specs)) _ (checks-propositional (contract S) (ensures_of S.routine.declared.specs) (ensures-numberless S.routine.declared.specs fine.specs)) (tt, tt)

  copies-truths : AreTruths (copies_of S)
  copies-truths = all_map IsTruth IsTruth _ (λ v h. h) S.copied copied

  locals-truths : AreTruths (S.routine.body.locals ++ (copies_of S ++ hidden P none (kinds S)))
  locals-truths =
      all-append IsTruth S.routine.body.locals (copies_of S ++ hidden P none (kinds S)) fine.body.0
      (all-append IsTruth (copies_of S) (hidden P none (kinds S)) copies-truths (hidden_have P IsTruth (λ call f. args-truths call 1 _ (ins-truths (procedure_in P.decls f) (found-proc P.decls f decls))) (λ n. refl) none (kinds S)))

  body-propositional : AllPropositional (body_proc P number S).body
  body-propositional =
      let requires = requires_of S.routine.declared.specs in
      let N = on_args (body_frame S).names S.routine.declared (body_frame S).ins in
      all-append propositional.IsPropositional (put (body_frame S).copies (map (λ i. At (Global i)) S.modifies)) _
      (put-propositional (body_frame S).copies (map (λ i. At (Global i)) S.modifies) (map_all propositional.HasNoNumber (λ i. At (Global i)) (λ i. tt) S.modifies))
      (all-append propositional.IsPropositional (map (assume N) requires) _
      (assumes-propositional N requires (requires-numberless S.routine.declared.specs fine.specs))
      (all-append propositional.IsPropositional (each_extracted P number (body_frame S) (body_start S) (kinds S)) (leave S)
      (each_extracted-propositional P number (body_frame S) leave-propositional (body_start S) (kinds S) kinds-propositional)
      leave-propositional))

  proc-propositional : propositional.IsPropositionalProc (body_proc P number S)
  proc-propositional = record { root = refl; ins = fine.head.0; outs = fine.head.1; locals = locals-truths; body = body-propositional }

  pub procs_of-propositional : AllByRecursion propositional.IsPropositionalProc (procs_of P number S)
  procs_of-propositional = (proc-propositional, each_loops-none P number S propositional.IsPropositionalProc _ (kinds S) kinds-propositional)

maybe-procs : (P : Program) → AllDecls P.decls → (n : ℕ) (r : Option Routine) → MaybeRoutine r → AllByRecursion propositional.IsPropositionalProc (routine_procs P n r)
maybe-procs P h n None k = tt
maybe-procs P h n (Some r) k =
    procs_of-propositional P h (number_from P 0 P.decls) (source_of (globals_in P.decls) n r) k (copied-truths (globals_in P.decls) _ (globals-truths P.decls h))

procs-propositional : (P : Program) → AllDecls P.decls → (n : ℕ) (ds : List Decl) → AllByRecursion propositional.IsPropositionalProc (procs_from P n ds)
procs-propositional P h n [] = tt
procs-propositional P h n (Procedure p ∷ ds) =
    all-append propositional.IsPropositionalProc (routine_procs P n (routine_named P p.head.name)) _
    (maybe-procs P h n (routine_named P p.head.name) (routine-propositional P p.head.name h))
    (procs-propositional P h (n + size_of (routine_named P p.head.name)) ds)
procs-propositional P h n (_ ∷ ds) = procs-propositional P h n ds

-- ---- what there is none of

no_functions : (ds : List Decl) → AllDecls ds → functions_in ds ≡ []
no_functions [] h = refl
no_functions (Globals vs ∷ ds) h = no_functions ds h.1
no_functions (Procedure p ∷ ds) h = no_functions ds h.1
no_functions (Implementation i ∷ ds) h = no_functions ds h.1
no_functions (_ ∷ ds) h = absurd h.0

no_axioms : (ds : List Decl) → AllDecls ds → map core_axiom (axioms_in ds) ≡ []
no_axioms [] h = refl
no_axioms (Globals vs ∷ ds) h = no_axioms ds h.1
no_axioms (Procedure p ∷ ds) h = no_axioms ds h.1
no_axioms (Implementation i ∷ ds) h = no_axioms ds h.1
no_axioms (_ ∷ ds) h = absurd h.0

no_uniques : (ds : List Decl) → AllDecls ds → uniques_in ds ≡ []
no_uniques [] h = refl
no_uniques (Globals vs ∷ ds) h = no_uniques ds h.1
no_uniques (Procedure p ∷ ds) h = no_uniques ds h.1
no_uniques (Implementation i ∷ ds) h = no_uniques ds h.1
no_uniques (_ ∷ ds) h = absurd h.0

pub propositional_kept : PropositionalIsKept
propositional_kept P w h = record {
  globals = globals-truths P.decls h;
  functions = no_functions P.decls h;
  axioms = no_axioms P.decls h;
  uniques = no_uniques P.decls h;
  procs = procs-propositional P h 0 P.decls;
}
