-- A new failure of two programs is one of their core programs, and the other way round.
use Rattle.std.proofs.Common.{◌≡◌, ℕ, List, length, Some, sym, ap, ◌∙◌, subst}
use Rattle.std.specs.Prelude.{slice_get}
use Rattle.std.proofs.lemmas.List.{length-map}
use Rattle.std.proofs.lemmas.Option.{same_Some}
use Rattle.sd_extract.proofs.SourceWords.{Text, Value, Meaning, interpretation, Program, names_of, Store, value_of, Routine, procedure_in, routine_named, HasSorts, globals_in, run, WellTyped}
use Rattle.sd_extract.proofs.CoreWords.{CoreProc, flag_run, sorts_of, HaveSorts, Exact, core_program, number_of, RunsAreKept, ProceduresAreKept, AxiomsAreKept, ExtractedIsFormed}
use Rattle.sd_meaning.specs.Inputs.{in_sorts, IsInput, SameInput}
use Rattle.sd_meaning.specs.Run.{named}
use Rattle.sd_meaning.specs.NewFailure.{NewFailure}
use Rattle.sd_core.specs.Failure.{IsInputOf, AreEqualInputs, NewFailureOf}
use Rattle.sd_extract.specs.Laws.{FailuresAreKept}
use Rattle.sd_extract.proofs.FailureMeanings.{have_sorts, has_sorts, core_meaning, decls_true, uniques_distinct}
use Rattle.sd_extract.proofs.FormedDeclarations.{is_typed, routine_fine}
use Rattle.sd_extract.proofs.FormedFrames.{declared_of}
use Rattle.sd_extract.proofs.FailureGlobals.{values_in, store_named, store_sorts, is_store, as_many, by_place, by_name}

module _ (runs : RunsAreKept) (procedures : ProceduresAreKept) where
  -- ---- one program

  module _ (P : Program) (typed : WellTyped P) (f : Text) (r : Routine) (is : routine_named P f ≡ Some r) where
    abbrev names : List Text
    names = names_of (globals_in P.decls)

    abbrev core : CoreProc
    core = (procedures P f r typed is).0

    core_found : slice_get (core_program P).procs (number_of P f) ≡ Some core
    core_found = (procedures P f r typed is).1

    core_ins : core.ins ≡ r.head.ins
    core_ins = (procedures P f r typed is).4

    ins_same : in_sorts (procedure_in P.decls f) ≡ sorts_of core.ins
    ins_same = ap in_sorts (declared_of P f r is) ∙ sym (routine_fine P (is_typed P typed).0 (is_typed P typed).1 f r is).ins_sorts ∙ ap sorts_of (sym core_ins)

    input_of : (ins : List Value) (G : Store) → IsInput P f ins G → IsInputOf (core_program P) core ins (values_in G)
    input_of ins G w = record {
      ins_typed = have_sorts (sorts_of core.ins) ins (subst (λ ss. HasSorts ss ins) ins_same w.ins_typed);
      globals_typed = store_sorts (globals_in P.decls) G w.globals_typed;
    }

    -- the procedure that was found is the one that is kept
    input_is : (p : CoreProc) (ins globals : List Value) → slice_get (core_program P).procs (number_of P f) ≡ Some p → IsInputOf (core_program P) p ins globals → IsInput P f ins (named names globals)
    input_is p ins globals found w =
        let same : core ≡ p = same_Some core p (sym core_found ∙ found) in
        record {
          ins_typed = subst (λ ss. HasSorts ss ins) (ap (λ (q : CoreProc). sorts_of q.ins) (sym same) ∙ sym ins_same) (has_sorts (sorts_of p.ins) ins w.ins_typed);
          globals_typed = is_store (globals_in P.decls) globals w.globals_typed;
        }

    globals_fit : (globals : List Value) → HaveSorts (sorts_of (globals_in P.decls)) globals → length globals ≡ length (globals_in P.decls)
    globals_fit globals h = as_many (sorts_of (globals_in P.decls)) globals h ∙ length-map (globals_in P.decls) (λ x. x.sort)

    same_runs : (M : Meaning) (n : ℕ) (ins globals : List Value) → IsInput P f ins (named names globals) → HaveSorts (sorts_of (globals_in P.decls)) globals → Exact names (run P M n f ins (named names globals)) (flag_run (interpretation M) (core_program P).procs n (number_of P f) ins globals)
    same_runs M n ins globals w h =
        runs P typed M n f r.declared r (declared_of P f r is) is ins globals
        (as_many (sorts_of r.declared.head.ins) ins (have_sorts (sorts_of r.declared.head.ins) ins (subst (λ ss. HasSorts ss ins) (ap in_sorts (declared_of P f r is)) w.ins_typed)) ∙ length-map r.declared.head.ins (λ x. x.sort))
        (globals_fit globals h)

    exact_of : (M : Meaning) (n : ℕ) (ins : List Value) (G : Store) → IsInput P f ins G → Exact names (run P M n f ins G) (flag_run (interpretation M) (core_program P).procs n (number_of P f) ins (values_in G))
    exact_of M n ins G w =
        let same = store_named (globals_in P.decls) G w.globals_typed in
        subst (λ (S : Store). Exact names (run P M n f ins S) (flag_run (interpretation M) (core_program P).procs n (number_of P f) ins (values_in G))) same
        (same_runs M n ins (values_in G) (subst (λ (S : Store). IsInput P f ins S) (sym same) w) (store_sorts (globals_in P.decls) G w.globals_typed))

  -- ---- two programs

  module _ (axioms : AxiomsAreKept) (formed : ExtractedIsFormed) (P Q : Program) (f g : Text) (r s : Routine) (typed : WellTyped P) (typed' : WellTyped Q) (is : routine_named P f ≡ Some r) (is' : routine_named Q g ≡ Some s) where
    into_inputs : (ins ins' : List Value) (G G' : Store) → SameInput P Q f g ins G ins' G' → AreEqualInputs (core_program P) (core_program Q) ins (values_in G) ins' (values_in G')
    into_inputs ins ins' G G' w =
        let same = store_named (globals_in P.decls) G w.old_input.globals_typed in
        let same' = store_named (globals_in Q.decls) G' w.new_input.globals_typed in
        record {
          same_ins = w.same_ins;
          same_globals = by_place (globals_in P.decls) (globals_in Q.decls) (values_in G) (values_in G') (formed P typed).global_names (formed Q typed').global_names (globals_fit P typed f r is (values_in G) (store_sorts (globals_in P.decls) G w.old_input.globals_typed)) (globals_fit Q typed' g s is' (values_in G') (store_sorts (globals_in Q.decls) G' w.new_input.globals_typed)) (λ x a b. ap (λ (S : Store). value_of S x.name) same ∙ w.same_globals x a b ∙ sym (ap (λ (S : Store). value_of S x.name) same'));
        }

    into : NewFailure P Q f g → NewFailureOf (core_program P) (core_program Q) (number_of P f) (number_of Q g)
    into w =
        let ended = (exact_of P typed f r is w.M w.old_steps w.ins w.globals w.same_input.old_input).ends w.outs w.globals_after w.old_ends in
        let failed = (exact_of Q typed' g s is' w.M w.new_steps w.ins' w.globals' w.same_input.new_input).failed.0 w.new_fails in
        record {
          M = w.M;
          old_meaning = core_meaning P w.M axioms w.is_meaning.starts w.is_meaning.old_true w.is_meaning.old_unique;
          new_meaning = core_meaning Q w.M axioms w.is_meaning.starts w.is_meaning.new_true w.is_meaning.new_unique;
          old = core P typed f r is;
          new = core Q typed' g s is';
          old_found = core_found P typed f r is;
          new_found = core_found Q typed' g s is';
          ins = w.ins;
          globals = values_in w.globals;
          ins' = w.ins';
          globals' = values_in w.globals';
          old_input = input_of P typed f r is w.ins w.globals w.same_input.old_input;
          new_input = input_of Q typed' g s is' w.ins' w.globals' w.same_input.new_input;
          equal = into_inputs w.ins w.ins' w.globals w.globals' w.same_input;
          old_calls = w.old_steps;
          new_calls = w.new_steps;
          outs = w.outs;
          after = ended.0;
          outs' = failed.0;
          after' = failed.1;
          old_ends = ended.1;
          new_fails = failed.2;
        }

    out_inputs : (ins ins' globals globals' : List Value) (p q : CoreProc) → slice_get (core_program P).procs (number_of P f) ≡ Some p → slice_get (core_program Q).procs (number_of Q g) ≡ Some q → IsInputOf (core_program P) p ins globals → IsInputOf (core_program Q) q ins' globals' → AreEqualInputs (core_program P) (core_program Q) ins globals ins' globals' → SameInput P Q f g ins (named (names_of (globals_in P.decls)) globals) ins' (named (names_of (globals_in Q.decls)) globals')
    out_inputs ins ins' globals globals' p q found found' w w' equal = record {
      old_input = input_is P typed f r is p ins globals found w;
      new_input = input_is Q typed' g s is' q ins' globals' found' w';
      same_ins = equal.same_ins;
      same_globals = by_name (globals_in P.decls) (globals_in Q.decls) globals globals' (formed P typed).global_names (formed Q typed').global_names (globals_fit P typed f r is globals w.globals_typed) (globals_fit Q typed' g s is' globals' w'.globals_typed) equal.same_globals;
    }

    out : NewFailureOf (core_program P) (core_program Q) (number_of P f) (number_of Q g) → NewFailure P Q f g
    out w =
        let same = out_inputs w.ins w.ins' w.globals w.globals' w.old w.new w.old_found w.new_found w.old_input w.new_input w.equal in
        let exact = same_runs P typed f r is w.M w.old_calls w.ins w.globals same.old_input w.old_input.globals_typed in
        let exact' = same_runs Q typed' g s is' w.M w.new_calls w.ins' w.globals' same.new_input w.new_input.globals_typed in
        record {
          M = w.M;
          is_meaning = record {
            starts = w.old_meaning.starts;
            old_true = decls_true P w.M axioms w.old_meaning;
            new_true = decls_true Q w.M axioms w.new_meaning;
            old_unique = uniques_distinct P w.M axioms w.old_meaning;
            new_unique = uniques_distinct Q w.M axioms w.new_meaning;
          };
          ins = w.ins;
          ins' = w.ins';
          globals = named (names_of (globals_in P.decls)) w.globals;
          globals' = named (names_of (globals_in Q.decls)) w.globals';
          same_input = same;
          old_steps = w.old_calls;
          new_steps = w.new_calls;
          outs = w.outs;
          globals_after = named (names_of (globals_in P.decls)) w.after;
          old_ends = exact.ended w.outs w.after w.old_ends;
          new_fails = exact'.failed.1 (w.outs', w.after', w.new_fails);
        }

pub failures_kept : RunsAreKept → ProceduresAreKept → AxiomsAreKept → ExtractedIsFormed → FailuresAreKept
failures_kept runs procedures axioms formed P Q f g r s typed typed' is is' =
    (into runs procedures axioms formed P Q f g r s typed typed' is is', out runs procedures axioms formed P Q f g r s typed typed' is is')
