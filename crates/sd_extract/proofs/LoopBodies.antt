-- The body of a loop's procedure does what reaching the loop does.
use Rattle.std.proofs.Common.{◌≡◌, ℕ, List, [], ◌∷◌, ◌++◌, Option, Some, refl, sym, ◌∙◌, ap, subst, get_or, length, arith}
use Rattle.std.specs.Prelude.{Bool, true, false, map, set, if◌then◌else◌}
use Rattle.std.proofs.lemmas.List.{map-append, get_or-set_other}
use Rattle.sd_extract.proofs.SourceWords.{Value, Truth, Expr, StmtKind, Interpretation, State, value, truth_of, Clause, names_of, Flow, Next, Breaks, Returns, Failed, Blocked, Unfinished, Verdict, Holds, Fails, FreeFails, verdict, if_holds, each, Level, reach, step, level_by}
use Rattle.sd_extract.proofs.CoreWords.{Spot, At, Literal, CoreProc, Store, read, write, write_all, set_all, nothing, value_in, CoreEnded, Step, Goes, Calls, then_run, run, run_all, slots_from, enter, outs_of, out_spots, end_of, core_of, Frame, put, check, loop_call, Source, state_of, body_copies, loop_state, left_slot, left_of, loop_frame, loop_start, turn_of, each_extracted}
use Rattle.sd_meaning.specs.Run.{after_turn}
use Rattle.sd_core.specs.declared.CoreStmt as core
use Rattle.sd_extract.specs.Extract.{loop_body}
use Rattle.sd_extract.proofs.Expressions.{at_all, value_kept}
use Rattle.sd_extract.proofs.Writes.{HasShape, read-write_same}
use Rattle.sd_extract.proofs.Statements.{run-one, run-append, run-If, run-put, run-clauses, after_verdict}
use Rattle.sd_extract.proofs.Agree.{Room, TiedIn, Agrees}
use Rattle.sd_extract.proofs.CallsAgree.{Setting, Hidden, tied_hidden, NotIn, Keeps, HasGlobals, slots_length, map-At}
use Rattle.sd_extract.proofs.LoopCalls.{map-set_all, IsState, left_values, SameLoopEnds, Spaced, After, state_of_tied, after_writes, CalledLoop, at_all-length}

-- ---- lists

pub set_all-other : (xs : List Value) (ms : List ℕ) (vs : List Value) (i : ℕ) → NotIn i ms → get_or (set_all xs ms vs) i nothing ≡ get_or xs i nothing
set_all-other xs [] vs i h = refl
set_all-other xs (m ∷ ms) [] i h = refl
set_all-other xs (m ∷ ms) (v ∷ vs) i h =
    set_all-other (set xs m v) ms vs i h.1 ∙ get_or-set_other xs m i v nothing h.0

pub split_front : (xs ys : List Value) (us vs : List Value) → length xs ≡ length us → xs ++ ys ≡ us ++ vs → (xs ≡ us) × (ys ≡ vs)
split_front [] ys [] vs h e = (refl, e)
split_front [] ys (u ∷ us) vs h e = absurd (omega (arith, h))
split_front (x ∷ xs) ys [] vs h e = absurd (omega (arith, h))
split_front (x ∷ xs) ys (u ∷ us) vs h e =
    let first : x ≡ u = cc in
    let tail : xs ++ ys ≡ us ++ vs = cc in
    let rest = split_front xs ys us vs (omega (arith, h)) tail in
    ((λ i. first i ∷ rest.0 i), rest.1)

-- ---- the room of a loop's procedure

-- what its slots hold at all times: the ins, the copies, and the globals at the entry
abbrev pub base_room : Source → (size width : ℕ) → (ins copies globals : List Value) → Bool → Room
base_room S size width ins copies globals returns = record {
  size = size;
  width = width;
  fixed = (loop_frame S).ins ++ ((loop_frame S).copies ++ (loop_frame S).names.entry);
  values = ins ++ (copies ++ set_all globals S.modifies copies);
  returns = returns;
  breaks = true;
}

-- and `left` is false until a return
abbrev pub turn_room : Source → Room → Bool → Room
turn_room S R returns = record R {
  fixed = left_of S returns ++ R.fixed;
  values = left_values returns false ++ R.values;
}

module _ (S : Source) (I : Interpretation) (p : CoreProc) (returns : Bool) (size width : ℕ) (ins copies globals : List Value) where
  abbrev R : Room
  R = base_room S size width ins copies globals returns

  abbrev H : Frame
  H = loop_frame S

  abbrev left : List Spot
  left = left_of S returns

  module _ (G : HasGlobals (names_of S.globals) R H.names) (far : Spaced S R H left) (outs : out_spots p ≡ H.state ++ left) (ins_long : length ins ≡ length S.routine.head.ins) (copies_long : length copies ≡ length S.copied) where
    left_long : (b : Bool) → length left ≡ length (left_values returns b)
    left_long b = elim returns as (λ r. length (left_of S r) ≡ length (left_values r b)) [ true ↦ refl | false ↦ refl ]

    -- a run of the loop's procedure that is over with these
    over : (b : Bool) (s : State) (st : Store Value) → TiedIn R H s st → at_all st left ≡ left_values returns b → (state : List Value) × (later : List Value) × (CoreEnded (outs_of p st) st.globals false ≡ CoreEnded (state ++ left_values returns b) later false) × IsState S s ins state copies later × Keeps S.modifies globals later
    over b s st t l =
        let parts : at_all st H.ins ++ (at_all st H.copies ++ at_all st H.names.entry) ≡ ins ++ (copies ++ set_all globals S.modifies copies) =
        sym (map-append (read nothing st) H.ins (H.copies ++ H.names.entry) ∙ ap (λ vs. at_all st H.ins ++ vs) (map-append (read nothing st) H.copies H.names.entry)) ∙ t.same in
        let two = split_front (at_all st H.ins) _ ins _ (at_all-length st H.ins ∙ slots_length 0 S.routine.head.ins ∙ sym ins_long) parts in
        let three = split_front (at_all st H.copies) _ copies _ (at_all-length st H.copies ∙ slots_length (body_copies S) S.copied ∙ sym copies_long) two.1 in
        let entry : set_all st.globals S.modifies (at_all st H.copies) ≡ set_all globals S.modifies copies =
        sym (map-set_all (read nothing st) H.names.globals S.modifies H.copies ∙ ap (λ gs. set_all gs S.modifies (at_all st H.copies)) (G.reads st t.shape.1)) ∙ three.1 in
        let given : at_all st (out_spots p) ≡ at_all st H.state ++ left_values returns b =
        ap (at_all st) outs ∙ map-append (read nothing st) H.state left ∙ ap (λ vs. at_all st H.state ++ vs) l in
        let here : IsState S s (at_all st H.ins) (at_all st H.state) (at_all st H.copies) st.globals = state_of_tied S (loop_state S) (body_copies S) H.leave R left G far s st t in
        (at_all st H.state, st.globals, (λ i. CoreEnded (given i) st.globals false), subst (λ cs. IsState S s ins (at_all st H.state) cs st.globals) three.0 (subst (λ is. IsState S s is (at_all st H.state) (at_all st H.copies) st.globals) two.0 here), (λ i h. sym (set_all-other st.globals S.modifies (at_all st H.copies) i h) ∙ ap (λ gs. get_or gs i nothing) entry ∙ set_all-other globals S.modifies copies i h))

    abbrev LoopEnds : Flow → Step → Type 0
    LoopEnds flow x = SameLoopEnds S returns ins copies globals flow (end_of p x)

    -- the call of the loop itself is the last of a turn
    called_ends : (flow : Flow) (x : Step) → CalledLoop S (loop_state S) (body_copies S) H.leave R left returns flow x → LoopEnds flow x
    called_ends (Next s) x h = subst (LoopEnds (Next s)) (sym h.1) (over false s h.0 h.2 h.3)
    called_ends (Breaks s) x h = h
    called_ends (Returns s) x h =
        let o = over true s h.0 h.2 h.3 in
        subst (LoopEnds (Returns s)) (sym h.1) (o.0, o.1, o.2, o.3, o.4, h.4)
    called_ends Failed x h = subst (LoopEnds Failed) (sym h.1) (outs_of p h.0, h.0.globals, refl)
    called_ends Blocked x h = ap (end_of p) h
    called_ends Unfinished x h = ap (end_of p) h

    without_left : (s : State) (st : Store Value) → TiedIn (turn_room S R returns) H s st → TiedIn R H s st × (at_all st left ≡ left_values returns false)
    without_left s st t =
        let parts = split_front (at_all st left) (at_all st R.fixed) (left_values returns false) R.values (at_all-length st left ∙ left_long false) (sym (map-append (read nothing st) left R.fixed) ∙ t.same) in
        (record { kept = t.kept; shape = t.shape; same = parts.1 }, parts.0)

    module _ (T : Setting) (lower : Option Level) (calls : Calls) (guard : Expr) (invs : List Clause) (turn : List StmtKind) (k : ℕ) (loop : StmtKind) (turn_agrees : (s : State) (st : Store Value) → TiedIn (turn_room S R returns) H s st → Agrees I calls (turn_room S R returns) H (each (step T.program I lower) turn s) (run_all I calls (each_extracted T.program T.number H (loop_start S k returns turn) turn) st)) (again_agrees : (s : State) (st : Store Value) → TiedIn R H s st → CalledLoop S (loop_state S) (body_copies S) H.leave R left returns (step T.program I lower loop s) (run I calls (loop_call H k left) st)) (left_hidden : returns ≡ true → Hidden R H.names (left_slot S)) where
      left_written : (st : Store Value) → HasShape size width st → returns ≡ true → at_all (write st (left_slot S) (Truth true)) left ≡ left_values returns true
      left_written st h r =
          let one : read nothing (write st (left_slot S) (Truth true)) (left_slot S) ≡ Truth true = read-write_same size width st (left_slot S) (Truth true) h (left_hidden r).in_range in
          let here : at_all (write st (left_slot S) (Truth true)) (left_of S true) ≡ left_values true true = ap (λ v. v ∷ []) one in
          subst (λ b. at_all (write st (left_slot S) (Truth true)) (left_of S b) ≡ left_values b true) (sym r) here

      turn_ends : (flow : Flow) (x : Step) → Agrees I calls (turn_room S R returns) H flow x → LoopEnds (after_turn flow (step T.program I lower loop)) (then_run x (run_all I calls (loop_call H k left ∷ [])))
      turn_ends (Next s) x h =
          let t = (without_left s h.0 h.2).0 in
          let e : then_run x (run_all I calls (loop_call H k left ∷ [])) ≡ run I calls (loop_call H k left) h.0 = ap (λ y. then_run y (run_all I calls (loop_call H k left ∷ []))) h.1 ∙ run-one I calls (loop_call H k left) h.0 in
          subst (LoopEnds (step T.program I lower loop s)) (sym e) (called_ends (step T.program I lower loop s) (run I calls (loop_call H k left) h.0) (again_agrees s h.0 t))
      turn_ends (Breaks s) x h =
          let t = without_left s h.0 h.2 in
          subst (LoopEnds (Next s)) (sym (ap (λ y. then_run y (run_all I calls (loop_call H k left ∷ []))) h.1)) (over false s h.0 t.0 t.1)
      turn_ends (Returns s) x h =
          let t = without_left s h.0 h.2 in
          let o = over true s (write h.0 (left_slot S) (Truth true)) (tied_hidden R H s h.0 (left_slot S) (Truth true) (left_hidden h.3) t.0) (left_written h.0 t.0.shape h.3) in
          subst (LoopEnds (Returns s)) (sym (ap (λ y. then_run y (run_all I calls (loop_call H k left ∷ []))) h.1)) (o.0, o.1, o.2, o.3, o.4, h.3)
      turn_ends Failed x h =
          subst (LoopEnds Failed) (sym (ap (λ y. then_run y (run_all I calls (loop_call H k left ∷ []))) h.1)) (outs_of p h.0, h.0.globals, refl)
      turn_ends Blocked x h = ap (λ y. end_of p (then_run y (run_all I calls (loop_call H k left ∷ [])))) h
      turn_ends Unfinished x h = ap (λ y. end_of p (then_run y (run_all I calls (loop_call H k left ∷ [])))) h

      guarded_ends : (s : State) (st : Store Value) → TiedIn (turn_room S R returns) H s st → (b c : Bool) → b ≡ c → LoopEnds (if b then after_turn (each (step T.program I lower) turn s) (step T.program I lower loop) else Next s) (if c then run_all I calls (turn_of T.program T.number S k returns turn) st else Goes st)
      guarded_ends s st t b true e =
          let es = each_extracted T.program T.number H (loop_start S k returns turn) turn in
          let flow = each (step T.program I lower) turn s in
          let h = turn_ends flow (run_all I calls es st) (turn_agrees s st t) in
          subst (λ d. LoopEnds (if d then after_turn flow (step T.program I lower loop) else Next s) (run_all I calls (turn_of T.program T.number S k returns turn) st)) (sym e) (subst (LoopEnds (after_turn flow (step T.program I lower loop))) (sym (run-append I calls es (loop_call H k left ∷ []) st)) h)
      guarded_ends s st t b false e =
          let u = without_left s st t in
          subst (λ d. LoopEnds (if d then after_turn (each (step T.program I lower) turn s) (step T.program I lower loop) else Next s) (Goes st)) (sym e) (over false s st u.0 u.1)

      verdict_ends : (v : Verdict) (st : Store Value) (flow : Flow) (x : Step) → LoopEnds flow x → LoopEnds (if_holds v flow) (after_verdict v st x)
      verdict_ends Holds st flow x h = h
      verdict_ends Fails st flow x h = (outs_of p st, st.globals, refl)
      verdict_ends FreeFails st flow x h = refl

      pub loop_ends : (s : State) (state : List Value) → IsState S s ins state copies globals → length (enter I.start p (ins ++ (state ++ copies)) globals).slots ≡ size → at_all (enter I.start p (ins ++ (state ++ copies)) globals) H.ins ≡ ins → at_all (enter I.start p (ins ++ (state ++ copies)) globals) (slots_from (length S.routine.head.ins) (state_of S)) ≡ state → at_all (enter I.start p (ins ++ (state ++ copies)) globals) H.copies ≡ copies → LoopEnds (reach I (Some (level_by T.program I (step T.program I lower))) guard invs turn loop s) (run_all I calls (loop_body T.program T.number S k guard invs returns turn) (enter I.start p (ins ++ (state ++ copies)) globals))
      loop_ends s state is size0 ins0 olds0 copies0 =
          let st0 = enter I.start p (ins ++ (state ++ copies)) globals in
          let wide : length globals ≡ width = is.globals_length ∙ far.same_size in
          let entry0 : at_all st0 H.names.entry ≡ set_all globals S.modifies copies = map-set_all (read nothing st0) H.names.globals S.modifies H.copies ∙ (λ i. set_all (G.reads st0 wide i) S.modifies (copies0 i)) in
          let same0 : at_all st0 R.fixed ≡ R.values =
          map-append (read nothing st0) H.ins (H.copies ++ H.names.entry) ∙ (λ i. ins0 i ++ map-append (read nothing st0) H.copies H.names.entry i) ∙ (λ i. ins ++ (copies0 i ++ entry0 i)) in
          let is0 : IsState S s (at_all st0 H.ins) state (at_all st0 H.copies) globals = subst (λ cs. IsState S s (at_all st0 H.ins) state cs globals) (sym copies0) (subst (λ is. IsState S s is state copies globals) (sym ins0) is) in
          let lefts = left_values returns false in
          let st1 = write_all st0 H.state state in
          let st2 = write_all st1 left lefts in
          let after : After S (loop_state S) (body_copies S) H.leave R left s state lefts globals st2 = after_writes S (loop_state S) (body_copies S) H.leave R left G far s st0 state lefts globals size0 same0 is0 (λ i h. refl) (left_long false) in
          let tied : TiedIn (turn_room S R returns) H s st2 = record {
            kept = after.tied.kept;
            shape = after.tied.shape;
            same = map-append (read nothing st2) left R.fixed ∙ (λ i. after.left_is i ++ after.tied.same i);
          } in
          let last = core.If (core_of H.names guard.kind) (turn_of T.program T.number S k returns turn) [] ∷ [] in
          let checks = map (check H.names) invs ++ last in
          let falses = map (λ p. Literal false) left in
          let olds = slots_from (length S.routine.head.ins) (state_of S) in
          let v = verdict I s invs in
          let runs : run_all I calls (loop_body T.program T.number S k guard invs returns turn) st0 ≡ after_verdict v st2 (if truth_of (value_in I st2 (core_of H.names guard.kind)) then run_all I calls (turn_of T.program T.number S k returns turn) st2 else Goes st2) =
          run-put I calls H.state (map (λ p. At p) olds) (put left falses ++ checks) st0 ∙ ap (λ vs. run_all I calls (put left falses ++ checks) (write_all st0 H.state vs)) (map-At I st0 olds ∙ olds0) ∙ run-put I calls left falses checks st1 ∙ ap (λ vs. run_all I calls checks (write_all st1 left vs)) (all_false st1 returns) ∙ run-clauses I calls H.names s st2 tied.kept invs last ∙ ap (after_verdict v st2) (run-one I calls (core.If (core_of H.names guard.kind) (turn_of T.program T.number S k returns turn) []) st2 ∙ run-If I calls (core_of H.names guard.kind) (turn_of T.program T.number S k returns turn) [] st2) in
          let inner = guarded_ends s st2 tied (truth_of (value I s guard.kind)) (truth_of (value_in I st2 (core_of H.names guard.kind))) (ap truth_of (value_kept I st2 H.names s tied.kept guard.kind)) in
          subst (LoopEnds (reach I (Some (level_by T.program I (step T.program I lower))) guard invs turn loop s)) (sym runs) (verdict_ends v st2 _ _ inner)
        where
          all_false : (st : Store Value) (r : Bool) → map (value_in I st) (map (λ (p : Spot). Literal false) (left_of S r)) ≡ left_values r false
          all_false st true = refl
          all_false st false = refl
