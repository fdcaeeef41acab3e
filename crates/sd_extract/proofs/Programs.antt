-- The core procedures of a typed program do what its procedures do.
use Rattle.std.proofs.Common.{◌≡◌, ℕ, suc, ◌+◌, List, [], ◌∷◌, Some, None, refl, sym, ◌∙◌, ap, subst, length}
use Rattle.std.specs.Prelude.{Bool, true, false, option_map, slice_get}
use Rattle.std.proofs.lemmas.List.{length-map}
use Rattle.std.proofs.lemmas.Option.{none-some, same_Some}
use Rattle.sd_extract.proofs.SourceWords.{Text, Value, Program, Proc, StmtKind, If', While', Row_of-Stmt, end_of-Stmt, more_of-Stmt, Meaning, interpretation, Routine, clauses_of, procedure_in, routine_named, names_of, globals_in, kinds_in, run}
use Rattle.sd_extract.proofs.CoreWords.{CoreProc, flag_run, sorts_of, counts, counts_all, Source, kinds, body_proc, has_returns, source_of, modified_names, number_from, core_procs, IsFine, AreFine, EachFine}
use Rattle.sd_meaning.specs.Run.{named}
pub use Rattle.sd_extract.specs.Laws.{source_named, modified_by, setting_of, ProgramFine, ExtractedRuns}
use Rattle.sd_extract.proofs.CallsAgree.{Setting, SameEnds}
use Rattle.sd_extract.proofs.Levels.{IsWhile, Stands, LoopProcReady, loop_proc_of, turn_in, extracted_runs}
use Rattle.sd_extract.proofs.LoopCalls.{loop_returns}
use Rattle.sd_extract.proofs.Procedures.{body_ready, loop_ready}
use Rattle.sd_extract.proofs.FormedStatements.{LoopsAt, AllLoopsAt, EachLoopsAt}
use Rattle.sd_extract.proofs.FormedNumbers.{LoopIs, row_loops}
use Rattle.sd_extract.proofs.FormedModifies.{numbers_match, matches_length}
use Rattle.sd_extract.proofs.FormedFrames.{source_at, declared_of, body_stands, loops_stand}

-- ---- a program as a setting

abbrev number : Program → Text → ℕ
number P = number_from P 0 P.decls

abbrev LoopFine : Program → Source → StmtKind → Type 0
LoopFine P S (While' e invs shape body) = AreFine (setting_of P) S true body
LoopFine P S _ = ⊥

-- the loops of a program's procedures, each with those inside it
pub record IsLoopOf (P : Program) (S : Source) (k : ℕ) (loop : StmtKind) : Type 0 where
  pub procedure : Text
  pub is_source : source_named P procedure ≡ Some S
  pub placed : LoopsAt (LoopIs P (number P) S (core_procs P)) k loop
  pub fine : LoopFine P S loop

-- what holds of the source of each routine holds of a source
pub of_source : (P : Program) (f : Text) (Q : Source → Type 0) → ((r : Routine) → routine_named P f ≡ Some r → Q (source_at P f r)) → (S : Source) → source_named P f ≡ Some S → Q S
of_source P f Q h S e = elim (routine_named P f) as (λ o. ((r : Routine) → o ≡ Some r → Q (source_at P f r)) → option_map (source_of (globals_in P.decls) (number P f)) o ≡ Some S → Q S) [
  | None ↦ λ k e. absurd (none-some S e)
  | Some r ↦ λ k e. subst Q (same_Some _ _ e) (k r refl)
] h e

module _ (P : Program) (fine : ProgramFine P) where
  abbrev T : Setting
  T = setting_of P

  pub body_at : (f : Text) (S : Source) → source_named P f ≡ Some S → slice_get (core_procs P) (number P f) ≡ Some (body_proc P (number P) S)
  body_at f = of_source P f (λ S. slice_get (core_procs P) (number P f) ≡ Some (body_proc P (number P) S)) (body_stands P f)

  copied_at : (f : Text) (S : Source) → source_named P f ≡ Some S → length S.copied ≡ length S.modifies
  copied_at f = of_source P f (λ S. length S.copied ≡ length S.modifies) (λ r e. let names = modified_names r.declared.specs [] in
      let S = source_at P f r in
      sym (length-map S.copied (λ v. v.sort)) ∙ sym (matches_length (sorts_of S.globals) S.modifies (sorts_of S.copied) (numbers_match S.globals names)))

  same_globals : (f : Text) (S : Source) → source_named P f ≡ Some S → names_of S.globals ≡ names_of (globals_in P.decls)
  same_globals f = of_source P f (λ S. names_of S.globals ≡ names_of (globals_in P.decls)) (λ r e. refl)

  -- ---- loops

  module _ (f : Text) (S : Source) (is : source_named P f ≡ Some S) where
    mutual
      loop_is : (b : Bool) (n : ℕ) (s : StmtKind) → IsFine T S b s → LoopsAt (LoopIs P (number P) S (core_procs P)) n s → LoopsAt (IsLoopOf P S) n s
      loop_is b n (While' e invs shape body) h at =
          (record { procedure = f; is_source = is; placed = at; fine = h }, loops_are true (suc n) body h at.1)
      loop_is b n (If' e shape x shape' y) h at = (loops_are b n x h.0 at.0, loops_are b (n + (counts_all x).loops) y h.1 at.1)
      loop_is b n _ h at = tt

      loops_are : (b : Bool) (n : ℕ) {m : _} (ss : Row_of-Stmt m) → AreFine T S b ss → AllLoopsAt (LoopIs P (number P) S (core_procs P)) n ss → AllLoopsAt (IsLoopOf P S) n ss
      loops_are b n end_of-Stmt h at = tt
      loops_are b n (more_of-Stmt p s ss) h at = (loop_is b n s h.0 at.0, loops_are b (n + (counts s).loops) ss h.1 at.1)

    each_loop_is : (b : Bool) (n : ℕ) (ss : List StmtKind) → EachFine T S b ss → EachLoopsAt (LoopIs P (number P) S (core_procs P)) n ss → EachLoopsAt (IsLoopOf P S) n ss
    each_loop_is b n [] h at = tt
    each_loop_is b n (s ∷ ss) h at = (loop_is b n s h.0 at.0, each_loop_is b (n + (counts s).loops) ss h.1 at.1)

  loop_at : (S : Source) (k : ℕ) (loop : StmtKind) → IsLoopOf P S k loop → slice_get (core_procs P) k ≡ loop_proc_of T S k loop
  loop_at S k (While' e invs shape body) h = h.placed.0
  loop_at S k _ h = absurd h.fine

  is_while : (S : Source) (k : ℕ) (loop : StmtKind) → IsLoopOf P S k loop → IsWhile loop
  is_while S k (While' e invs shape body) h = tt
  is_while S k _ h = h.fine

  loop_procs_ready : (S : Source) (k : ℕ) (loop : StmtKind) (p : CoreProc) → IsLoopOf P S k loop → loop_proc_of T S k loop ≡ Some p → (ins copies globals : List Value) → LoopProcReady T (IsLoopOf P S) S p k (loop_returns loop) (turn_in loop) ins copies globals
  loop_procs_ready S k (While' e invs shape body) p h eq ins copies globals =
      let inside = row_loops (IsLoopOf P S) (suc k) body (loops_are h.procedure S h.is_source true (suc k) body h.fine h.placed.1) in
      subst (λ (q : CoreProc). LoopProcReady T (IsLoopOf P S) S q k (has_returns body) (kinds_in body) ins copies globals) (same_Some _ _ eq) (loop_ready T (IsLoopOf P S) S (copied_at h.procedure S h.is_source) k e (clauses_of invs) body h.fine inside ins copies globals)
  loop_procs_ready S k _ p h eq ins copies globals = absurd h.fine

  -- ---- all of them

  pub program_stands : Stands T (core_procs P) (IsLoopOf P)
  program_stands = record {
    routine = λ f. of_source P f (λ S. routine_named P f ≡ Some S.routine) (λ r e. e);
    declared = λ f S d is e. of_source P f (λ S. d ≡ S.routine.declared) (λ r g. same_Some _ _ (sym e ∙ declared_of P f r g)) S is;
    globals = same_globals;
    modifies = λ f S is. ap modified_by is;
    body = body_at;
    body_ready = λ f S is. let loops = of_source P f (λ S. EachLoopsAt (LoopIs P (number P) S (core_procs P)) (suc S.number) (kinds S)) (loops_stand P f) S is in
        let source = fine.sources f S is in
        body_ready T (IsLoopOf P S) S source (copied_at f S is) (each_loop_is f S is false (suc S.number) (kinds S) source.stmts loops);
    is_while = is_while;
    loop_globals = λ S k loop h. same_globals h.procedure S h.is_source;
    loop = loop_at;
    loop_ready = loop_procs_ready;
  }

  -- A run of the source, and the flagged run of its core procedure, with every number of steps.
  pub program_runs : (M : Meaning) (n : ℕ) (f : Text) (d : Proc) (S : Source) → procedure_in P.decls f ≡ Some d → source_named P f ≡ Some S → (ins globals : List Value) → length ins ≡ length d.head.ins → length globals ≡ length (names_of (globals_in P.decls)) → SameEnds (names_of (globals_in P.decls)) S.modifies globals (run P M n f ins (named (names_of (globals_in P.decls)) globals)) (flag_run (interpretation M) (core_procs P) n (number P f) ins globals)
  program_runs M n f d S e is ins globals a b =
      subst (λ (ms : List ℕ). SameEnds (names_of (globals_in P.decls)) ms globals (run P M n f ins (named (names_of (globals_in P.decls)) globals)) (flag_run (interpretation M) (core_procs P) n (number P f) ins globals)) (ap modified_by is) (extracted_runs T (core_procs P) (IsLoopOf P) (interpretation M) program_stands n f d S e is ins globals a b)
