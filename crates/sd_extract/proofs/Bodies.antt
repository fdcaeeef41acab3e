-- The procedure of a body does what the call of the source procedure does.
use Rattle.std.proofs.Common.{◌≡◌, ℕ, List, [], ◌∷◌, ◌++◌, Option, Some, refl, sym, ◌∙◌, ap, subst, get_or, length, arith}
use Rattle.std.specs.Prelude.{Bool, true, false, map, if◌then◌else◌}
use Rattle.std.proofs.lemmas.List.{map-append, set-get_or, length-map}
use Rattle.sd_extract.proofs.SourceWords.{Var, Text, Value, Interpretation, State, variable, value, truth_of, Routine, Clause, requires_of, ensures_of, names_of, Flow, Next, Breaks, Returns, Failed, Blocked, Unfinished, Outcome, Ended, Verdict, Holds, Fails, FreeFails, verdict, before, entered, if_assumed, outcome_of, each, Level, step}
use Rattle.sd_extract.proofs.CoreWords.{Spot, Global, At, CoreStmt, CoreProc, Store, read, write_all, set_all, nothing, value_in, CoreEnded, Step, Goes, Stops, Blocks, Calls, then_run, run_all, slots_from, enter, outs_of, out_spots, end_of, Names, place_of, at_place, core_of, Frame, check, assume, on_args, Source, state_of, kinds, contract, body_frame, body_copies, body_start, body_proc, each_extracted}
use Rattle.sd_meaning.specs.Run.{named, starting, after, if_ensured, returned}
use Rattle.sd_core.specs.declared.CoreStmt as core
use Rattle.sd_extract.proofs.Expressions.{at_all, Kept, variable_kept, value_kept}
use Rattle.sd_extract.proofs.Writes.{Distinct, HasShape}
use Rattle.sd_extract.proofs.Statements.{run-append, run-put, run-checked, run-clauses, after_verdict}
use Rattle.sd_extract.proofs.Agree.{Room, TiedIn, Agrees}
use Rattle.sd_extract.proofs.CallsAgree.{Setting, SameEnds, AllSpots, written_all, HasGlobals, slots_length}
use Rattle.sd_extract.proofs.LoopCalls.{AllApart, only_slots, globals_stay, write_all_shape, at_all-written, map-set_all, names_in, at_all-length}
use Rattle.sd_extract.proofs.LoopBodies.{set_all-other, split_front}

-- ---- clauses that are assumed

abbrev pub if_true : Verdict → Step → Step
if_true Holds x = x
if_true Fails x = Blocks
if_true FreeFails x = Blocks

pub run-assumes : (I : Interpretation) (calls : Calls) (N : Names) (s : State) (st : Store Value) → Kept N s st → (cs : List Clause) (rest : List CoreStmt) → run_all I calls (map (assume N) cs ++ rest) st ≡ if_true (verdict I s cs) (run_all I calls rest st)
run-assumes I calls N s st k [] rest = refl
run-assumes I calls N s st k (c ∷ cs) rest =
    ap (λ v. then_run (if truth_of v then Goes st else Blocks) (run_all I calls (map (assume N) cs ++ rest))) (sym (value_kept I st N s k c.holds.kind)) ∙ go (truth_of (value I s c.holds.kind)) c.free (run-assumes I calls N s st k cs rest)
  where
    go : (b f : Bool) → run_all I calls (map (assume N) cs ++ rest) st ≡ if_true (verdict I s cs) (run_all I calls rest st) → then_run (if b then Goes st else Blocks) (run_all I calls (map (assume N) cs ++ rest)) ≡ if_true (if b then verdict I s cs else (if f then FreeFails else Fails)) (run_all I calls rest st)
    go true f e = e
    go false true e = refl
    go false false e = refl

-- nothing runs after a return
pub leaves_after : (I : Interpretation) (calls : Calls) (N : Names) (cs : List Clause) (st : Store Value) (go : Store Value → Step) → then_run (run_all I calls (map (check N) cs ++ (core.Return ∷ [])) st) go ≡ run_all I calls (map (check N) cs ++ (core.Return ∷ [])) st
leaves_after I calls N [] st go = refl
leaves_after I calls N (c ∷ cs) st go =
    let rest = map (check N) cs ++ (core.Return ∷ []) in
    let e = run-checked I calls c.free (core_of N c.holds.kind) rest st in
    ap (λ x. then_run x go) e ∙ shut (truth_of (value_in I st (core_of N c.holds.kind))) c.free (run_all I calls rest st) (leaves_after I calls N cs st go) ∙ sym e
  where
    shut : (b f : Bool) (x : Step) → then_run x go ≡ x → then_run (if b then x else (if f then Blocks else Stops st true)) go ≡ (if b then x else (if f then Blocks else Stops st true))
    shut true f x e = e
    shut false true x e = refl
    shut false false x e = refl

-- ---- stores

pub named-append : (xs ys : List Text) (vs ws : List Value) → length xs ≡ length vs → named (xs ++ ys) (vs ++ ws) ≡ named xs vs ++ named ys ws
named-append [] ys [] ws e = refl
named-append [] ys (v ∷ vs) ws e = absurd (omega (arith, e))
named-append (x ∷ xs) ys [] ws e = absurd (omega (arith, e))
named-append (x ∷ xs) ys (v ∷ vs) ws e = ap (λ t. (x, v) ∷ t) (named-append xs ys vs ws (omega (arith, e)))

abbrev pub starts : Interpretation → List Var → List Value
starts I vs = map (λ v. I.start v.sort) vs

pub starting-named : (I : Interpretation) (vs : List Var) → starting I vs ≡ named (names_of vs) (starts I vs)
starting-named I [] = refl
starting-named I (v ∷ vs) = ap (λ t. (v.name, I.start v.sort) ∷ t) (starting-named I vs)

-- globals put back where they were
pub set_all-own : (xs : List Value) (ms : List ℕ) → set_all xs ms (map (λ i. get_or xs i nothing) ms) ≡ xs
set_all-own xs [] = refl
set_all-own xs (m ∷ ms) =
    ap (λ ys. set_all ys ms (map (λ i. get_or xs i nothing) ms)) (set-get_or xs m nothing) ∙ set_all-own xs ms

map-Global : (I : Interpretation) (st : Store Value) (ms : List ℕ) → map (value_in I st) (map (λ i. At (Global i)) ms) ≡ map (λ i. get_or st.globals i nothing) ms
map-Global I st [] = refl
map-Global I st (m ∷ ms) = ap (λ vs. get_or st.globals m nothing ∷ vs) (map-Global I st ms)

-- the outs are read where they are kept
abbrev pub AreFound : Names → List Var → List Spot → Type 0
AreFound N [] [] = Unit {0}
AreFound N (v ∷ vs) (p ∷ ps) = (place_of N v.name ≡ Some p) × AreFound N vs ps
AreFound N _ _ = ⊥

pub outs_read : (I : Interpretation) (N : Names) (s : State) (st : Store Value) → Kept N s st → (vs : List Var) (ps : List Spot) → AreFound N vs ps → map (λ v. variable I s v.name) vs ≡ at_all st ps
outs_read I N s st k [] [] h = refl
outs_read I N s st k [] (p ∷ ps) h = absurd h
outs_read I N s st k (v ∷ vs) [] h = absurd h
outs_read I N s st k (v ∷ vs) (p ∷ ps) h =
    let first = variable_kept I N s st k v.name ∙ ap (λ o. value_in I st (at_place o v.name)) h.0 in
    let rest = outs_read I N s st k vs ps h.1 in
    λ i. first i ∷ rest i

-- ---- the room of a body

abbrev pub at_entry : Source → List Value → List Value
at_entry S globals = map (λ i. get_or globals i nothing) S.modifies

abbrev pub body_room : Source → (size width : ℕ) → (ins globals : List Value) → Room
body_room S size width ins globals = record {
  size = size;
  width = width;
  fixed = (body_frame S).ins ++ ((body_frame S).copies ++ (body_frame S).names.entry);
  values = ins ++ (at_entry S globals ++ globals);
  returns = true;
  breaks = false;
}

-- the slots of a body are apart, and its names are found
pub record BodySpaced (S : Source) (R : Room) (p : CoreProc) : Type 0 where
  pub copies_distinct : Distinct (body_frame S).copies
  pub copies_range : AllSpots R.size R.width (body_frame S).copies
  pub copies_ins : AllApart (body_frame S).copies (body_frame S).ins
  pub copies_state : AllApart (body_frame S).copies (body_frame S).state
  pub copied_length : length S.copied ≡ length S.modifies
  pub same_size : length S.globals ≡ R.width
  pub declared_ins : length S.routine.declared.head.ins ≡ length S.routine.head.ins
  pub outs_found : AreFound (body_frame S).names S.routine.head.outs (slots_from (length S.routine.head.ins) S.routine.head.outs)
  pub outs_kept : out_spots p ≡ slots_from (length S.routine.head.ins) S.routine.head.outs

module _ (S : Source) (I : Interpretation) (p : CoreProc) (size width : ℕ) (ins globals : List Value) where
  abbrev R : Room
  R = body_room S size width ins globals

  abbrev F : Frame
  F = body_frame S

  abbrev r : Routine
  r = S.routine

  module _ (G : HasGlobals (names_of S.globals) R F.names) (far : BodySpaced S R p) (ins_long : length ins ≡ length S.routine.head.ins) (globals_long : length globals ≡ length S.globals) where
    abbrev Ends : Outcome → Step → Type 0
    Ends o x = SameEnds (names_of S.globals) S.modifies globals o (end_of p x)

    fixed_parts : (s : State) (st : Store Value) → TiedIn R F s st → (at_all st F.ins ≡ ins) × (at_all st F.names.entry ≡ globals)
    fixed_parts s st t =
        let parts : at_all st F.ins ++ (at_all st F.copies ++ at_all st F.names.entry) ≡ ins ++ (at_entry S globals ++ globals) =
        sym (map-append (read nothing st) F.ins (F.copies ++ F.names.entry) ∙ ap (λ vs. at_all st F.ins ++ vs) (map-append (read nothing st) F.copies F.names.entry)) ∙ t.same in
        let two = split_front (at_all st F.ins) _ ins _ (at_all-length st F.ins ∙ slots_length 0 S.routine.head.ins ∙ sym ins_long) parts in
        let three = split_front (at_all st F.copies) _ (at_entry S globals) _ (at_all-length st F.copies ∙ slots_length (body_copies S) S.copied ∙ far.copied_length ∙ sym (length-map S.modifies (λ i. get_or globals i nothing))) two.1 in
        (two.0, three.1)

    verdict_ends : (v : Verdict) (s : State) (st : Store Value) (outs : List Value) → TiedIn R F s st → outs ≡ outs_of p st → Ends (if_ensured v (Ended outs s.globals)) (after_verdict v st (Stops st false))
    verdict_ends Holds s st outs t e =
        let entry : set_all st.globals S.modifies (at_all st F.copies) ≡ globals =
        sym (map-set_all (read nothing st) F.names.globals S.modifies F.copies ∙ ap (λ gs. set_all gs S.modifies (at_all st F.copies)) (G.reads st t.shape.1)) ∙ (fixed_parts s st t).1 in
        (st.globals, ap (λ vs. CoreEnded vs st.globals false) (sym e), t.kept.globals ∙ ap (named (names_of S.globals)) (G.reads st t.shape.1), t.shape.1 ∙ sym far.same_size ∙ sym globals_long, (λ i h. sym (set_all-other st.globals S.modifies (at_all st F.copies) i h) ∙ ap (λ gs. get_or gs i nothing) entry))
    verdict_ends Fails s st outs t e = (outs_of p st, st.globals, refl)
    verdict_ends FreeFails s st outs t e = refl

    module _ (calls : Calls) where
      returned_ends : (s : State) (st : Store Value) → TiedIn R F s st → Ends (returned I r ins s) (run_all I calls F.leave st)
      returned_ends s st t =
          let outs : List Value = map (λ v. variable I s v.name) r.head.outs in
          let places = slots_from (length r.head.ins) r.head.outs in
          let read_outs : outs ≡ at_all st places = outs_read I F.names s st t.kept r.head.outs places far.outs_found in
          let long : length (names_of r.declared.head.ins) ≡ length ins = length-map r.declared.head.ins (λ v. v.name) ∙ far.declared_ins ∙ sym ins_long in
          let spots : ins ++ outs ≡ at_all st (F.ins ++ places) = (λ i. sym (fixed_parts s st t).0 i ++ read_outs i) ∙ sym (map-append (read nothing st) F.ins places) in
          let kept : Kept (contract S) (after r.declared ins outs s.entry s.globals) st = record {
            locals = sym (named-append (names_of r.declared.head.ins) (names_of r.declared.head.outs) ins outs long) ∙ ap (named (names_of r.declared.head.ins ++ names_of r.declared.head.outs)) spots;
            globals = t.kept.globals;
            entry = t.kept.entry;
          } in
          let v = verdict I (after r.declared ins outs s.entry s.globals) (ensures_of r.declared.specs) in
          let runs = run-clauses I calls (contract S) (after r.declared ins outs s.entry s.globals) st kept (ensures_of r.declared.specs) (core.Return ∷ []) in
          let here = verdict_ends v s st outs t (read_outs ∙ sym (ap (at_all st) far.outs_kept)) in
          subst (Ends (returned I r ins s)) (sym runs) here

      flow_ends : (flow : Flow) (x : Step) → Agrees I calls R F flow x → Ends (outcome_of I r ins flow) (then_run x (run_all I calls F.leave))
      flow_ends (Next s) x h =
          subst (Ends (returned I r ins s)) (sym (ap (λ y. then_run y (run_all I calls F.leave)) h.1)) (returned_ends s h.0 h.2)
      flow_ends (Breaks s) x h = absurd (let e = h.3 in cc)
      flow_ends (Returns s) x h =
          let e : then_run x (run_all I calls F.leave) ≡ run_all I calls F.leave h.0 = ap (λ y. then_run y (run_all I calls F.leave)) h.1 ∙ leaves_after I calls (contract S) (ensures_of r.declared.specs) h.0 (run_all I calls F.leave) in
          subst (Ends (returned I r ins s)) (sym e) (returned_ends s h.0 h.2)
      flow_ends Failed x h =
          subst (Ends Failed) (sym (ap (λ y. then_run y (run_all I calls F.leave)) h.1)) (outs_of p h.0, h.0.globals, refl)
      flow_ends Blocked x h = ap (λ y. end_of p (then_run y (run_all I calls F.leave))) h
      flow_ends Unfinished x h = ap (λ y. end_of p (then_run y (run_all I calls F.leave))) h

      assumed_ends : (v : Verdict) (o : Outcome) (x : Step) → Ends o x → Ends (if_assumed v o) (if_true v x)
      assumed_ends Holds o x h = h
      assumed_ends Fails o x h = refl
      assumed_ends FreeFails o x h = refl

      module _ (T : Setting) (lower : Option Level) (each_agree : (s : State) (st : Store Value) → TiedIn R F s st → Agrees I calls R F (each (step T.program I lower) (kinds S) s) (run_all I calls (each_extracted T.program T.number F (body_start S) (kinds S)) st)) where
        -- a root run is the run of the body's procedure
        pub body_ends : length (enter I.start p ins globals).slots ≡ size → at_all (enter I.start p ins globals) F.ins ≡ ins → at_all (enter I.start p ins globals) F.state ≡ starts I (state_of S) → Ends (if_assumed (verdict I (before r.declared ins (named (names_of S.globals) globals)) (requires_of r.declared.specs)) (outcome_of I r ins (each (step T.program I lower) (kinds S) (entered I r ins (named (names_of S.globals) globals))))) (run_all I calls (body_proc T.program T.number S).body (enter I.start p ins globals))
        body_ends size0 ins0 state0 =
            let names = names_of S.globals in
            let st0 = enter I.start p ins globals in
            let copies = at_entry S globals in
            let st1 = write_all st0 F.copies copies in
            let s = entered I r ins (named names globals) in
            let wide : length globals ≡ width = globals_long ∙ far.same_size in
            let shape0 : HasShape size width st0 = (size0, wide) in
            let shape1 = write_all_shape size width st0 F.copies copies shape0 in
            let globals1 : st1.globals ≡ globals = globals_stay st0 F.copies copies (only_slots (body_copies S) S.copied) in
            let now1 : at_all st1 F.names.globals ≡ globals = G.reads st1 shape1.1 ∙ globals1 in
            let copies1 : at_all st1 F.copies ≡ copies = written_all size width st0 F.copies copies shape0 far.copies_range far.copies_distinct (slots_length (body_copies S) S.copied ∙ far.copied_length ∙ sym (length-map S.modifies (λ i. get_or globals i nothing))) in
            let ins1 : at_all st1 F.ins ≡ ins = at_all-written st0 F.copies copies F.ins far.copies_ins ∙ ins0 in
            let state1 : at_all st1 F.state ≡ starts I (state_of S) = at_all-written st0 F.copies copies F.state far.copies_state ∙ state0 in
            let entry1 : at_all st1 F.names.entry ≡ globals = map-set_all (read nothing st1) F.names.globals S.modifies F.copies ∙ (λ i. set_all (now1 i) S.modifies (copies1 i)) ∙ set_all-own globals S.modifies in
            let values : starting I r.head.outs ++ starting I r.body.locals ≡ named (names_of (state_of S)) (starts I (state_of S)) = sym (map-append (λ v. (v.name, I.start v.sort)) r.head.outs r.body.locals) ∙ starting-named I (state_of S) in
            let places1 : at_all st1 F.names.locals ≡ ins ++ starts I (state_of S) = map-append (read nothing st1) F.ins F.state ∙ (λ i. ins1 i ++ state1 i) in
            let tied : TiedIn R F s st1 = record {
              kept = record {
                locals = ap (λ t. named (names_of r.head.ins) ins ++ t) values ∙ sym (named-append (names_of r.head.ins) (names_of (state_of S)) ins (starts I (state_of S)) (length-map r.head.ins (λ v. v.name) ∙ sym ins_long)) ∙ ap (named (names_in S)) (sym places1);
                globals = ap (named names) (sym now1);
                entry = ap (named names) (sym entry1);
              };
              shape = shape1;
              same = map-append (read nothing st1) F.ins (F.copies ++ F.names.entry) ∙ (λ i. ins1 i ++ map-append (read nothing st1) F.copies F.names.entry i) ∙ (λ i. ins ++ (copies1 i ++ entry1 i));
            } in
            let contract_kept : Kept (on_args F.names r.declared F.ins) (before r.declared ins (named names globals)) st1 = record {
              locals = ap (named (names_of r.declared.head.ins)) (sym ins1);
              globals = ap (named names) (sym now1);
              entry = ap (named names) (sym now1);
            } in
            let requires = requires_of r.declared.specs in
            let es = each_extracted T.program T.number F (body_start S) (kinds S) in
            let assumes = map (assume (on_args F.names r.declared F.ins)) requires in
            let v = verdict I (before r.declared ins (named names globals)) requires in
            let runs : run_all I calls (body_proc T.program T.number S).body st0 ≡ if_true v (then_run (run_all I calls es st1) (run_all I calls F.leave)) =
            run-put I calls F.copies (map (λ i. At (Global i)) S.modifies) (assumes ++ (es ++ F.leave)) st0 ∙ ap (λ vs. run_all I calls (assumes ++ (es ++ F.leave)) (write_all st0 F.copies vs)) (map-Global I st0 S.modifies) ∙ run-assumes I calls (on_args F.names r.declared F.ins) (before r.declared ins (named names globals)) st1 contract_kept requires (es ++ F.leave) ∙ ap (if_true v) (run-append I calls es F.leave st1) in
            let o = outcome_of I r ins (each (step T.program I lower) (kinds S) s) in
            subst (Ends (if_assumed v o)) (sym runs) (assumed_ends v o (then_run (run_all I calls es st1) (run_all I calls F.leave)) (flow_ends (each (step T.program I lower) (kinds S) s) (run_all I calls es st1) (each_agree s st1 tied)))
