-- At every bound the core procedures do what the source procedures do.
use Rattle.std.proofs.Common.{◌≡◌, ℕ, zero, suc, ◌+◌, List, [], ◌∷◌, ◌++◌, Option, Some, None, refl, sym, ◌∙◌, ap, subst, get_or, length, arith, append_assoc, length-append}
use Rattle.std.specs.Prelude.{Bool, true, slice_get, codes}
use Rattle.std.proofs.Math.Seq.{get_or-append_seam}
use Rattle.std.proofs.lemmas.List.{length-map, map-append}
use Rattle.sd_extract.proofs.SourceWords.{Var, Text, Value, Program, Proc, Expr, Invariant, StmtKind, While', Row_of-Stmt, Interpretation, State, Routine, clauses_of, requires_of, ensures_of, procedure_in, routine_named, names_of, Outcome, Verdict, verdict, before, if_assumed, each, kinds_in, entered, outcome_of, reach, Level, step, level_by}
use Rattle.sd_extract.proofs.CoreWords.{CoreStmt, CoreProc, Store, nothing, Calls, run_all, slots_from, enter, out_spots, end_of, flag_run, Names, Counts, has_returns, Frame, Source, state_of, copies_of, frame_at, kinds, leave, body_frame, contract, hidden, none, body_copies, body_start, body_proc, loop_state, left_slot, left_of, loop_frame, loop_start, loop_proc, each_extracted}
use Rattle.sd_meaning.specs.Run.{named, body_run, level, root_run}
use Rattle.sd_core.specs.Run.{run_number, calls_within}
use Rattle.sd_extract.proofs.Expressions.{at_all}
use Rattle.sd_extract.proofs.Writes.{IsLaidOut}
use Rattle.sd_extract.proofs.Agree.{Room, TiedIn, Agrees, Leaves, EachReady, StmtAgrees, each_agrees}
use Rattle.sd_extract.proofs.CallsAgree.{Setting, Hidden, SameEnds, SameCalls, CallReady, call_agrees, HasGlobals}
use Rattle.sd_extract.proofs.LoopCalls.{IsState, SameLoopEnds, Spaced, loop_returns, SameLoops, spot_if-length, LoopReady, called_loop, loop_agrees}
use Rattle.sd_extract.proofs.LoopBodies.{base_room, turn_room, loop_ends}
use Rattle.sd_extract.proofs.Bodies.{starts, body_room, BodySpaced, leaves_after, body_ends}

-- ---- where a procedure begins

-- slots in the middle hold the values in the middle
pub read_middle : (pre ys post gs : List Value) {A : Type 0} (xs : List A) (k : ℕ) → k ≡ length pre → length xs ≡ length ys → at_all (record { slots = pre ++ (ys ++ post); globals = gs }) (slots_from k xs) ≡ ys
read_middle pre [] post gs [] k e h = refl
read_middle pre (y ∷ ys) post gs [] k e h = absurd (omega (arith, h))
read_middle pre [] post gs (x ∷ xs) k e h = absurd (omega (arith, h))
read_middle pre (y ∷ ys) post gs (x ∷ xs) k e h =
    let here : get_or (pre ++ (y ∷ (ys ++ post))) k nothing ≡ y = ap (λ n. get_or (pre ++ (y ∷ (ys ++ post))) n nothing) e ∙ get_or-append_seam pre y (ys ++ post) nothing in
    let longer : suc k ≡ length (pre ++ (y ∷ [])) = let l = length-append pre (y ∷ []) in omega (arith, e, l) in
    let shift : (pre ++ (y ∷ [])) ++ (ys ++ post) ≡ pre ++ (y ∷ (ys ++ post)) = append_assoc pre (y ∷ []) (ys ++ post) in
    let rest = ap (λ vs. at_all (record { slots = vs; globals = gs }) (slots_from (suc k) xs)) (sym shift) ∙ read_middle (pre ++ (y ∷ [])) ys post gs xs (suc k) longer (omega (arith, h)) in
    λ i. here i ∷ rest i

-- ---- what the induction stands on

-- a loop that stands in this frame
abbrev pub LoopAt : (ℕ → StmtKind → Type 0) → Source → Room → Frame → Counts → StmtKind → Type 0
LoopAt IsLoop S R F at (While' e invs shape body) = LoopReady IsLoop S R F at (While' e invs shape body)
LoopAt IsLoop S R F at _ = ⊥

abbrev pub StmtsReady : Setting → (ℕ → StmtKind → Type 0) → Source → Room → Frame → Counts → List StmtKind → Type 0
StmtsReady T IsLoop S R F at ks = EachReady R F (CallReady T R F) (LoopAt IsLoop S R F) at ks

-- statements in a frame of a source, where calls and loops agree
pub frame_agrees : (T : Setting) (IsLoop : ℕ → StmtKind → Type 0) (S : Source) (I : Interpretation) (lower : Option Level) (calls : Calls) → SameCalls T I lower calls → SameLoops IsLoop T S I lower calls → (a c : ℕ) (leave : List CoreStmt) (R : Room) → IsLaidOut (frame_at S a c leave).names → HasGlobals (names_of S.globals) R (frame_at S a c leave).names → HasGlobals T.globals R (frame_at S a c leave).names → Leaves I calls R (frame_at S a c leave) → (at : Counts) (ks : List StmtKind) → StmtsReady T IsLoop S R (frame_at S a c leave) at ks → (s : State) (st : Store Value) → TiedIn R (frame_at S a c leave) s st → Agrees I calls R (frame_at S a c leave) (each (step T.program I lower) ks s) (run_all I calls (each_extracted T.program T.number (frame_at S a c leave) at ks) st)
frame_agrees T IsLoop S I lower calls same_calls same_loops a c leave R laid G GT leaves at ks ready =
    each_agrees I calls R (frame_at S a c leave) T.program T.number lower laid leaves (CallReady T R (frame_at S a c leave)) (LoopAt IsLoop S R (frame_at S a c leave)) (call_agrees T I calls R (frame_at S a c leave) GT laid lower same_calls) of_loop at ks ready
  where
    of_loop : (at : Counts) (k : StmtKind) → LoopAt IsLoop S R (frame_at S a c leave) at k → StmtAgrees I calls R (frame_at S a c leave) T.program T.number lower laid leaves (CallReady T R (frame_at S a c leave)) (LoopAt IsLoop S R (frame_at S a c leave)) at k
    of_loop at (While' e invs shape body) r = loop_agrees IsLoop T S I lower calls same_loops a c leave R G at e invs shape body r
    of_loop at _ r = absurd r

abbrev pub slots_of : CoreProc → ℕ
slots_of p = length p.ins + (length p.outs + length p.locals)

-- the body of a source, in the room of any call
pub record BodyReady (T : Setting) (IsLoop : ℕ → StmtKind → Type 0) (S : Source) (ins globals : List Value) : Type 0 where
  pub laid : IsLaidOut (body_frame S).names
  pub names : HasGlobals (names_of S.globals) (body_room S (slots_of (body_proc T.program T.number S)) (length S.globals) ins globals) (body_frame S).names
  pub spaced : BodySpaced S (body_room S (slots_of (body_proc T.program T.number S)) (length S.globals) ins globals) (body_proc T.program T.number S)
  pub ready : StmtsReady T IsLoop S (body_room S (slots_of (body_proc T.program T.number S)) (length S.globals) ins globals) (body_frame S) (body_start S) (kinds S)

-- the procedure of a loop, in the room of any call
pub record LoopProcReady (T : Setting) (IsLoop : ℕ → StmtKind → Type 0) (S : Source) (p : CoreProc) (k : ℕ) (returns : Bool) (turn : List StmtKind) (ins copies globals : List Value) : Type 0 where
  pub laid : IsLaidOut (loop_frame S).names
  pub names : HasGlobals (names_of S.globals) (base_room S (slots_of p) (length S.globals) ins copies globals returns) (loop_frame S).names
  pub spaced : Spaced S (base_room S (slots_of p) (length S.globals) ins copies globals returns) (loop_frame S) (left_of S returns)
  pub left_hidden : returns ≡ true → Hidden (base_room S (slots_of p) (length S.globals) ins copies globals returns) (loop_frame S).names (left_slot S)
  pub outs : out_spots p ≡ (loop_frame S).state ++ left_of S returns
  pub ready : StmtsReady T IsLoop S (turn_room S (base_room S (slots_of p) (length S.globals) ins copies globals returns) returns) (loop_frame S) (loop_start S k returns turn) turn

abbrev pub IsWhile : StmtKind → Type 0
IsWhile (While' e invs shape body) = Unit {0}
IsWhile _ = ⊥

abbrev pub loop_proc_of : Setting → Source → ℕ → StmtKind → Option CoreProc
loop_proc_of T S k (While' e invs shape body) =
    Some (loop_proc T.program T.number S k e (clauses_of invs) (has_returns body) (kinds_in body))
loop_proc_of T S k _ = None

abbrev pub turn_in : StmtKind → List StmtKind
turn_in (While' e invs shape body) = kinds_in body
turn_in _ = []

-- Each source with its loops stands among the core procedures, at its number.
pub record Stands (T : Setting) (procs : List CoreProc) (IsLoop : Source → ℕ → StmtKind → Type 0) : Type 0 where
  pub routine : (f : Text) (S : Source) → T.source f ≡ Some S → routine_named T.program f ≡ Some S.routine
  pub declared : (f : Text) (S : Source) (d : Proc) → T.source f ≡ Some S → procedure_in T.program.decls f ≡ Some d → d ≡ S.routine.declared
  pub globals : (f : Text) (S : Source) → T.source f ≡ Some S → names_of S.globals ≡ T.globals
  pub modifies : (f : Text) (S : Source) → T.source f ≡ Some S → T.modifies f ≡ S.modifies
  pub body : (f : Text) (S : Source) → T.source f ≡ Some S → slice_get procs (T.number f) ≡ Some (body_proc T.program T.number S)
  pub body_ready : (f : Text) (S : Source) → T.source f ≡ Some S → (ins globals : List Value) → BodyReady T (IsLoop S) S ins globals
  pub is_while : (S : Source) (k : ℕ) (loop : StmtKind) → IsLoop S k loop → IsWhile loop
  pub loop_globals : (S : Source) (k : ℕ) (loop : StmtKind) → IsLoop S k loop → names_of S.globals ≡ T.globals
  pub loop : (S : Source) (k : ℕ) (loop : StmtKind) → IsLoop S k loop → slice_get procs k ≡ loop_proc_of T S k loop
  pub loop_ready : (S : Source) (k : ℕ) (loop : StmtKind) (p : CoreProc) → IsLoop S k loop → loop_proc_of T S k loop ≡ Some p → (ins copies globals : List Value) → LoopProcReady T (IsLoop S) S p k (loop_returns loop) (turn_in loop) ins copies globals

abbrev pub lower_of : Program → Interpretation → ℕ → Option Level
lower_of P I zero = None
lower_of P I (suc n) = Some (level P I n)

pub level_is : (P : Program) (I : Interpretation) (n : ℕ) → level P I n ≡ level_by P I (step P I (lower_of P I n))
level_is P I zero = refl
level_is P I (suc n) = refl

with_names : (names names' : List Text) (R : Room) (N : Names) → names ≡ names' → HasGlobals names R N → HasGlobals names' R N
with_names names names' R N e G = subst (λ xs. HasGlobals xs R N) e G

module _ (T : Setting) (procs : List CoreProc) (IsLoop : Source → ℕ → StmtKind → Type 0) (I : Interpretation) (stands : Stands T procs IsLoop) where
  -- with n steps, calls and loops agree
  pub record Same (n : ℕ) : Type 0 where
    pub calls : SameCalls T I (lower_of T.program I n) (calls_within I procs n)
    pub loops : (S : Source) → SameLoops (IsLoop S) T S I (lower_of T.program I n) (calls_within I procs n)

  -- the run of a source's procedure that no call began
  pub root_same : (n : ℕ) → Same n → (f : Text) (d : Proc) (S : Source) → procedure_in T.program.decls f ≡ Some d → T.source f ≡ Some S → (ins globals : List Value) → length ins ≡ length d.head.ins → length globals ≡ length T.globals → SameEnds T.globals (T.modifies f) globals (if_assumed (verdict I (before d ins (named T.globals globals)) (requires_of d.specs)) ((level T.program I n).call f ins (named T.globals globals))) (calls_within I procs (suc n) (T.number f) ins globals)
  root_same n same f d S e is ins globals ins_long globals_long =
      let p = body_proc T.program T.number S in
      let calls = calls_within I procs n in
      let lower = lower_of T.program I n in
      let ready = stands.body_ready f S is ins globals in
      let names = stands.globals f S is in
      let R = body_room S (slots_of p) (length S.globals) ins globals in
      let starts_at = enter I.start p ins globals in
      let decl = stands.declared f S d is e in
      let ins_ok : length ins ≡ length S.routine.head.ins = ins_long ∙ ap (λ (x : Proc). length x.head.ins) decl ∙ ready.spaced.declared_ins in
      let globals_ok : length globals ≡ length S.globals = globals_long ∙ sym (ap (λ (xs : List Text). length xs) names) ∙ length-map S.globals (λ v. v.name) in
      let rest = starts I p.outs ++ starts I p.locals in
      let size0 : length starts_at.slots ≡ slots_of p = length-append ins rest ∙ (λ i. ins_ok i + (length-append (starts I p.outs) (starts I p.locals) ∙ (λ j. length-map p.outs (λ v. I.start v.sort) j + length-map p.locals (λ v. I.start v.sort) j)) i) in
      let ins0 : at_all starts_at (body_frame S).ins ≡ ins = read_middle [] ins rest globals S.routine.head.ins 0 refl (sym ins_ok) in
      let first = starts I S.routine.head.outs in
      let locals = starts I S.routine.body.locals in
      let hid = copies_of S ++ hidden T.program none (kinds S) in
      let rest_is : rest ≡ starts I (state_of S) ++ starts I hid =
      ap (λ (vs : List Value). first ++ vs) (map-append (λ (v : Var). I.start v.sort) S.routine.body.locals hid) ∙ sym (append_assoc first locals (starts I hid)) ∙ ap (λ (vs : List Value). vs ++ starts I hid) (sym (map-append (λ (v : Var). I.start v.sort) S.routine.head.outs S.routine.body.locals)) in
      let state0 : at_all starts_at (body_frame S).state ≡ starts I (state_of S) =
      ap (λ (vs : List Value). at_all (record { slots = ins ++ vs; globals = globals }) (body_frame S).state) rest_is ∙ read_middle ins (starts I (state_of S)) (starts I hid) globals (state_of S) (length S.routine.head.ins) (sym ins_ok) (sym (length-map (state_of S) (λ v. I.start v.sort))) in
      let agree = frame_agrees T (IsLoop S) S I lower calls same.calls (same.loops S) (length S.routine.head.ins) (body_copies S) (leave S) R ready.laid ready.names (with_names (names_of S.globals) T.globals R (body_frame S).names names ready.names) (leaves_after I calls (contract S) (ensures_of S.routine.declared.specs)) (body_start S) (kinds S) ready.ready in
      let ends = body_ends S I p (slots_of p) (length S.globals) ins globals ready.names ready.spaced ins_ok globals_ok calls T lower agree size0 ins0 state0 in
      let core_end = end_of p (run_all I calls p.body starts_at) in
      let flow : List Text → Outcome = λ xs. outcome_of I S.routine ins (each (step T.program I lower) (kinds S) (entered I S.routine ins (named xs globals))) in
      let by_names = subst (λ (xs : List Text). SameEnds xs S.modifies globals (if_assumed (verdict I (before S.routine.declared ins (named xs globals)) (requires_of S.routine.declared.specs)) (flow xs)) core_end) names ends in
      let by_modifies = subst (λ (ms : List ℕ). SameEnds T.globals ms globals (if_assumed (verdict I (before S.routine.declared ins (named T.globals globals)) (requires_of S.routine.declared.specs)) (flow T.globals)) core_end) (sym (stands.modifies f S is)) by_names in
      let by_declared = subst (λ (x : Proc). SameEnds T.globals (T.modifies f) globals (if_assumed (verdict I (before x ins (named T.globals globals)) (requires_of x.specs)) (flow T.globals)) core_end) (sym decl) by_modifies in
      let source_is : (level T.program I n).call f ins (named T.globals globals) ≡ flow T.globals =
      ap (λ (L : Level). L.call f ins (named T.globals globals)) (level_is T.program I n) ∙ ap (λ (o : Option Routine). body_run I (step T.program I lower) o ins (named T.globals globals)) (stands.routine f S is) in
      let by_source = subst (λ (o : Outcome). SameEnds T.globals (T.modifies f) globals (if_assumed (verdict I (before d ins (named T.globals globals)) (requires_of d.specs)) o) core_end) (sym source_is) by_declared in
      let core_is : calls_within I procs (suc n) (T.number f) ins globals ≡ core_end = ap (λ (o : Option CoreProc). run_number I calls o ins globals) (stands.body f S is) in
      subst (SameEnds T.globals (T.modifies f) globals (if_assumed (verdict I (before d ins (named T.globals globals)) (requires_of d.specs)) ((level T.program I n).call f ins (named T.globals globals)))) (sym core_is) by_source

  loop_same : (n : ℕ) → Same n → (S : Source) (k : ℕ) (e : Expr) (invs : List Invariant) (shape : _) (body : Row_of-Stmt _) → IsLoop S k (While' e invs shape body) → (s : State) (ins state copies globals : List Value) → length ins ≡ length S.routine.head.ins → length copies ≡ length S.copied → IsState S s ins state copies globals → SameLoopEnds S (has_returns body) ins copies globals (step T.program I (Some (level T.program I n)) (While' e invs shape body) s) (calls_within I procs (suc n) k (ins ++ (state ++ copies)) globals)
  loop_same n same S k e invs shape body is s ins state copies globals ins_long copies_long is_state =
      let loop = While' e invs shape body in
      let returns = has_returns body in
      let turn = kinds_in body in
      let p = loop_proc T.program T.number S k e (clauses_of invs) returns turn in
      let calls = calls_within I procs n in
      let lower = lower_of T.program I n in
      let ready = stands.loop_ready S k loop p is refl ins copies globals in
      let names = stands.loop_globals S k loop is in
      let R = base_room S (slots_of p) (length S.globals) ins copies globals returns in
      let TR = turn_room S R returns in
      let H = loop_frame S in
      let G = ready.names in
      let GT : HasGlobals (names_of S.globals) TR H.names = record { same_names = G.same_names; width = G.width; reads = G.reads } in
      let rest = starts I p.outs ++ starts I p.locals in
      let st0 = enter I.start p (ins ++ (state ++ copies)) globals in
      let size0 : length st0.slots ≡ slots_of p =
      let a = length-append (ins ++ (state ++ copies)) rest in
      let b = length-append ins (state ++ copies) in
      let c = length-append state copies in
      let d = length-append (starts I p.outs) (starts I p.locals) in
      let f = length-map p.outs (λ v. I.start v.sort) in
      let g = length-map p.locals (λ v. I.start v.sort) in
      let h = length-append S.routine.head.ins (state_of S ++ copies_of S) in
      let i = length-append (state_of S) (copies_of S) in
      let j : length (copies_of S) ≡ length S.copied = length-map {B = Var} S.copied (λ v. record { name = v.name ++ codes "@copy"; sort = v.sort }) in
      let l = is_state.state_length in
      omega (arith, a, b, c, d, f, g, h, i, j, l, ins_long, copies_long) in
      let shift : (ins ++ (state ++ copies)) ++ rest ≡ ins ++ (state ++ (copies ++ rest)) = append_assoc ins (state ++ copies) rest ∙ ap (λ (vs : List Value). ins ++ vs) (append_assoc state copies rest) in
      let ins0 : at_all st0 H.ins ≡ ins = ap (λ (vs : List Value). at_all (record { slots = vs; globals = globals }) H.ins) shift ∙ read_middle [] ins (state ++ (copies ++ rest)) globals S.routine.head.ins 0 refl (sym ins_long) in
      let olds0 : at_all st0 (slots_from (length S.routine.head.ins) (state_of S)) ≡ state = ap (λ (vs : List Value). at_all (record { slots = vs; globals = globals }) (slots_from (length S.routine.head.ins) (state_of S))) shift ∙ read_middle ins state (copies ++ rest) globals (state_of S) (length S.routine.head.ins) (sym ins_long) (sym is_state.state_length) in
      let before_copies : body_copies S ≡ length (ins ++ state) = let a = length-append ins state in let l = is_state.state_length in omega (arith, a, l, ins_long) in
      let copies0 : at_all st0 H.copies ≡ copies = ap (λ (vs : List Value). at_all (record { slots = vs; globals = globals }) H.copies) (shift ∙ sym (append_assoc ins state (copies ++ rest))) ∙ read_middle (ins ++ state) copies rest globals S.copied (body_copies S) before_copies (sym copies_long) in
      let turn_agrees = frame_agrees T (IsLoop S) S I lower calls same.calls (same.loops S) (loop_state S) (body_copies S) H.leave TR ready.laid GT (with_names (names_of S.globals) T.globals TR H.names names GT) (λ st go. refl) (loop_start S k returns turn) turn ready.ready in
      let again = called_loop (IsLoop S) T S I lower calls (same.loops S) (loop_state S) (body_copies S) H.leave R (left_of S returns) G ready.spaced k loop is (spot_if-length returns (left_slot S)) in
      let ends = loop_ends S I p returns (slots_of p) (length S.globals) ins copies globals G ready.spaced ready.outs ins_long copies_long T lower calls e (clauses_of invs) turn k loop turn_agrees again ready.left_hidden s state is_state size0 ins0 olds0 copies0 in
      let core_end = end_of p (run_all I calls p.body st0) in
      let by_source = subst (λ (L : Level). SameLoopEnds S returns ins copies globals (reach I (Some L) e (clauses_of invs) turn loop s) core_end) (sym (level_is T.program I n)) ends in
      let core_is : calls_within I procs (suc n) k (ins ++ (state ++ copies)) globals ≡ core_end = ap (λ (o : Option CoreProc). run_number I calls o (ins ++ (state ++ copies)) globals) (stands.loop S k loop is) in
      subst (SameLoopEnds S returns ins copies globals (reach I (Some (level T.program I n)) e (clauses_of invs) turn loop s)) (sym core_is) by_source

  -- with no step left, each loop is unfinished on both sides
  loops_at_zero : (S : Source) → SameLoops (IsLoop S) T S I None (calls_within I procs 0)
  loops_at_zero S k (While' e invs shape body) is s ins state copies globals a b is_state = refl
  loops_at_zero S k _ is s ins state copies globals a b is_state = absurd (stands.is_while S k _ is)

  loops_above : (n : ℕ) → Same n → (S : Source) → SameLoops (IsLoop S) T S I (Some (level T.program I n)) (calls_within I procs (suc n))
  loops_above n same S k (While' e invs shape body) is s ins state copies globals a b is_state =
      loop_same n same S k e invs shape body is s ins state copies globals a b is_state
  loops_above n same S k _ is s ins state copies globals a b is_state = absurd (stands.is_while S k _ is)

  calls_above : (n : ℕ) → Same n → SameCalls T I (Some (level T.program I n)) (calls_within I procs (suc n))
  calls_above n same f d S e is ins globals a b holds =
      subst (λ (v : Verdict). SameEnds T.globals (T.modifies f) globals (if_assumed v ((level T.program I n).call f ins (named T.globals globals))) (calls_within I procs (suc n) (T.number f) ins globals)) holds (root_same n same f d S e is ins globals a b)

  pub same_at : (n : ℕ) → Same n
  same_at zero = record { calls = λ q ins globals. refl; loops = loops_at_zero }
  same_at (suc n) = record { calls = calls_above n (same_at n); loops = loops_above n (same_at n) }

  -- A run of a procedure that no call began, and the flagged run of its core procedure, at every bound.
  pub extracted_runs : (n : ℕ) (f : Text) (d : Proc) (S : Source) → procedure_in T.program.decls f ≡ Some d → T.source f ≡ Some S → (ins globals : List Value) → length ins ≡ length d.head.ins → length globals ≡ length T.globals → SameEnds T.globals (T.modifies f) globals (root_run I (level T.program I n) f ins (named T.globals globals) (procedure_in T.program.decls f)) (flag_run I procs n (T.number f) ins globals)
  extracted_runs n f d S e is ins globals a b =
      subst (λ (o : Option Proc). SameEnds T.globals (T.modifies f) globals (root_run I (level T.program I n) f ins (named T.globals globals) o) (flag_run I procs n (T.number f) ins globals)) (sym e) (root_same n (same_at n) f d S e is ins globals a b)
