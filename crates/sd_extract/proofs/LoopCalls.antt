-- A loop and the call that it becomes do the same, where the runs of its procedure do.
use Rattle.std.proofs.Common.{◌≡◌, ℕ, suc, List, [], ◌∷◌, ◌++◌, Option, refl, sym, ◌∙◌, ap, subst, get_or, length, arith}
use Rattle.std.specs.Prelude.{Bool, true, false, map, set, if◌then◌else◌}
use Rattle.std.proofs.lemmas.List.{map-append, map-set}
use Rattle.sd_extract.proofs.SourceWords.{Text, Value, Truth, Expr, StmtKind, While', Row_of-Stmt, Invariant, Interpretation, State, truth_of, names_of, Flow, Next, Breaks, Returns, Failed, Blocked, Unfinished, Level, step}
use Rattle.sd_extract.proofs.CoreWords.{Spot, Slot, Global, At, CoreStmt, Store, read, write, write_all, set_all, nothing, value_in, End, CoreEnded, CoreUnfinished, Step, Goes, Stops, Blocks, Lacks, Calls, receive, then_run, run, run_all, slots_from, Counts, has_returns, Frame, loop_call, leave_if, Source, state_of, frame_at, extracted}
use Rattle.sd_meaning.specs.Run.{named}
use Rattle.sd_core.specs.declared.CoreStmt as core
use Rattle.sd_core.specs.Run.{Blocked as CoreBlocked}
use Rattle.sd_extract.proofs.Expressions.{at_all}
use Rattle.sd_extract.proofs.Writes.{Apart, Distinct, HasShape, write_shape, at_all-write}
use Rattle.sd_extract.proofs.Statements.{run-one, run-If}
use Rattle.sd_extract.proofs.Agree.{Room, TiedIn, Agrees}
use Rattle.sd_extract.proofs.CallsAgree.{Setting, AllSpots, written_all, Keeps, Outside, at_all-kept, HasGlobals, slots_length, map-At}

-- ---- lists of spots

abbrev pub AllApart : List Spot → List Spot → Type 0
AllApart [] qs = Unit {0}
AllApart (p ∷ ps) qs = Apart p qs × AllApart ps qs

abbrev pub OnlySlots : List Spot → Type 0
OnlySlots [] = Unit {0}
OnlySlots (Slot i ∷ ps) = OnlySlots ps
OnlySlots (Global i ∷ ps) = ⊥

pub only_slots : {A : Type 0} (k : ℕ) (xs : List A) → OnlySlots (slots_from k xs)
only_slots k [] = tt
only_slots k (x ∷ xs) = only_slots (suc k) xs

pub outside : (ms : List ℕ) (ps : List Spot) → OnlySlots ps → Outside ms ps
outside ms [] h = tt
outside ms (Slot i ∷ ps) h = outside ms ps h
outside ms (Global i ∷ ps) h = absurd h

-- slots alone are the same whatever the globals
pub at_slots : (st : Store Value) (gs : List Value) (ps : List Spot) → OnlySlots ps → at_all (record { slots = st.slots; globals = gs }) ps ≡ at_all st ps
at_slots st gs [] h = refl
at_slots st gs (Slot i ∷ ps) h = ap (λ vs. get_or st.slots i nothing ∷ vs) (at_slots st gs ps h)
at_slots st gs (Global i ∷ ps) h = absurd h

pub globals_stay : (st : Store Value) (ps : List Spot) (vs : List Value) → OnlySlots ps → (write_all st ps vs).globals ≡ st.globals
globals_stay st [] vs h = refl
globals_stay st (Slot i ∷ ps) [] h = refl
globals_stay st (Slot i ∷ ps) (v ∷ vs) h = globals_stay (write st (Slot i) v) ps vs h
globals_stay st (Global i ∷ ps) vs h = absurd h

pub write_all_shape : (size width : ℕ) (st : Store Value) (ps : List Spot) (vs : List Value) → HasShape size width st → HasShape size width (write_all st ps vs)
write_all_shape size width st [] vs h = h
write_all_shape size width st (p ∷ ps) [] h = h
write_all_shape size width st (p ∷ ps) (v ∷ vs) h =
    write_all_shape size width (write st p v) ps vs (write_shape size width st p v h)

pub at_all-written : (st : Store Value) (ps : List Spot) (vs : List Value) (qs : List Spot) → AllApart ps qs → at_all (write_all st ps vs) qs ≡ at_all st qs
at_all-written st [] vs qs h = refl
at_all-written st (p ∷ ps) [] qs h = refl
at_all-written st (p ∷ ps) (v ∷ vs) qs h = at_all-written (write st p v) ps vs qs h.1 ∙ at_all-write st p v qs h.0

pub write_all-append : (st : Store Value) (ps qs : List Spot) (vs ws : List Value) → length ps ≡ length vs → write_all st (ps ++ qs) (vs ++ ws) ≡ write_all (write_all st ps vs) qs ws
write_all-append st [] qs [] ws e = refl
write_all-append st [] qs (v ∷ vs) ws e = absurd (omega (arith, e))
write_all-append st (p ∷ ps) qs [] ws e = absurd (omega (arith, e))
write_all-append st (p ∷ ps) qs (v ∷ vs) ws e = write_all-append (write st p v) ps qs vs ws (omega (arith, e))

pub map-set_all : {A B : Type 0} (f : A → B) (xs : List A) (is : List ℕ) (new : List A) → map f (set_all xs is new) ≡ set_all (map f xs) is (map f new)
map-set_all f xs [] new = refl
map-set_all f xs (i ∷ is) [] = refl
map-set_all f xs (i ∷ is) (a ∷ new) = map-set_all f (set xs i a) is new ∙ ap (λ ys. set_all ys is (map f new)) (map-set f xs i a)

-- ---- what a loop is handed

-- the names of a body
abbrev pub names_in : Source → List Text
names_in S = names_of S.routine.head.ins ++ names_of (state_of S)

-- A state as the values of the ins, the outs and locals, the copies and the globals.
pub record IsState (S : Source) (s : State) (ins state copies values : List Value) : Type 0 where
  pub locals : s.locals ≡ named (names_in S) (ins ++ state)
  pub globals : s.globals ≡ named (names_of S.globals) values
  pub entry : s.entry ≡ named (names_of S.globals) (set_all values S.modifies copies)
  pub state_length : length state ≡ length (state_of S)
  pub globals_length : length values ≡ length S.globals

abbrev pub left_values : Bool → Bool → List Value
left_values returns left = if returns then Truth left ∷ [] else []

-- A loop that the source reaches, and the call of its procedure from these values.
abbrev pub SameLoopEnds : Source → Bool → (ins copies globals : List Value) → Flow → End → Type 0
SameLoopEnds S returns ins copies globals (Next s) e = (state : List Value) × (later : List Value) × (e ≡ CoreEnded (state ++ left_values returns false) later false) × IsState S s ins state copies later × Keeps S.modifies globals later
SameLoopEnds S returns ins copies globals (Breaks s) e = ⊥
SameLoopEnds S returns ins copies globals (Returns s) e = (state : List Value) × (later : List Value) × (e ≡ CoreEnded (state ++ left_values returns true) later false) × IsState S s ins state copies later × Keeps S.modifies globals later × (returns ≡ true)
SameLoopEnds S returns ins copies globals Failed e = (outs : List Value) × (later : List Value) × (e ≡ CoreEnded outs later true)
SameLoopEnds S returns ins copies globals Blocked e = e ≡ CoreBlocked
SameLoopEnds S returns ins copies globals Unfinished e = e ≡ CoreUnfinished

pub at_all-length : (st : Store Value) (ps : List Spot) → length (at_all st ps) ≡ length ps
at_all-length st [] = refl
at_all-length st (p ∷ ps) = let e = at_all-length st ps in omega (arith, e)

-- ---- the call of a loop

-- where the state and the spot `left` of a frame are kept
pub record Spaced (S : Source) (R : Room) (F : Frame) (left : List Spot) : Type 0 where
  pub state_distinct : Distinct F.state
  pub state_range : AllSpots R.size R.width F.state
  pub state_ins : AllApart F.state F.ins
  pub state_copies : AllApart F.state F.copies
  pub state_fixed : AllApart F.state R.fixed
  pub left_distinct : Distinct left
  pub left_range : AllSpots R.size R.width left
  pub left_slots : OnlySlots left
  pub left_ins : AllApart left F.ins
  pub left_state : AllApart left F.state
  pub left_copies : AllApart left F.copies
  pub left_fixed : AllApart left R.fixed
  pub fixed_kept : Outside S.modifies R.fixed
  pub same_size : length S.globals ≡ R.width

module _ (S : Source) (a c : ℕ) (leave : List CoreStmt) (R : Room) (left : List Spot) where
  abbrev F : Frame
  F = frame_at S a c leave

  -- after the call: the state and `left` hold these values, and the globals are these
  pub record After (s : State) (state lefts later : List Value) (st : Store Value) : Type 0 where
    pub tied : TiedIn R F s st
    pub state_is : at_all st F.state ≡ state
    pub left_is : at_all st left ≡ lefts
    pub globals_are : st.globals ≡ later

  -- what the call of a loop comes to in its caller
  abbrev pub CalledLoop : Bool → Flow → Step → Type 0
  CalledLoop returns (Next s) x = (st : Store Value) × (x ≡ Goes st) × TiedIn R F s st × (at_all st left ≡ left_values returns false)
  CalledLoop returns (Breaks s) x = ⊥
  CalledLoop returns (Returns s) x = (st : Store Value) × (x ≡ Goes st) × TiedIn R F s st × (at_all st left ≡ left_values returns true) × (returns ≡ true)
  CalledLoop returns Failed x = (st : Store Value) × (x ≡ Stops st true)
  CalledLoop returns Blocked x = x ≡ Blocks
  CalledLoop returns Unfinished x = x ≡ Lacks

  module _ (G : HasGlobals (names_of S.globals) R F.names) (far : Spaced S R F left) where
    pub state_of_tied : (s : State) (st : Store Value) → TiedIn R F s st → IsState S s (at_all st F.ins) (at_all st F.state) (at_all st F.copies) st.globals
    state_of_tied s st t = record {
      locals = t.kept.locals ∙ ap (named (names_in S)) (map-append (read nothing st) F.ins F.state);
      globals = t.kept.globals ∙ ap (named (names_of S.globals)) (G.reads st t.shape.1);
      entry = t.kept.entry ∙ ap (named (names_of S.globals)) (map-set_all (read nothing st) F.names.globals S.modifies F.copies ∙ ap (λ gs. set_all gs S.modifies (at_all st F.copies)) (G.reads st t.shape.1));
      state_length = at_all-length st F.state ∙ slots_length a (state_of S);
      globals_length = t.shape.1 ∙ sym far.same_size;
    }

    pub after_writes : (s : State) (st : Store Value) (state lefts later : List Value) → length st.slots ≡ R.size → at_all st R.fixed ≡ R.values → IsState S s (at_all st F.ins) state (at_all st F.copies) later → Keeps S.modifies st.globals later → length left ≡ length lefts → After s state lefts later (write_all (write_all (record { slots = st.slots; globals = later }) F.state state) left lefts)
    after_writes s st state lefts later size same is keeps long =
        let mid : Store Value = record { slots = st.slots; globals = later } in
        let st1 = write_all mid F.state state in
        let st2 = write_all st1 left lefts in
        let wide : length later ≡ R.width = is.globals_length ∙ far.same_size in
        let mid_shape : HasShape R.size R.width mid = (size, wide) in
        let shape1 = write_all_shape R.size R.width mid F.state state mid_shape in
        let state_long : length F.state ≡ length state = slots_length a (state_of S) ∙ sym is.state_length in
        let state1 : at_all st1 F.state ≡ state = written_all R.size R.width mid F.state state mid_shape far.state_range far.state_distinct state_long in
        let state2 : at_all st2 F.state ≡ state = at_all-written st1 left lefts F.state far.left_state ∙ state1 in
        let ins2 : at_all st2 F.ins ≡ at_all st F.ins = at_all-written st1 left lefts F.ins far.left_ins ∙ at_all-written mid F.state state F.ins far.state_ins ∙ at_slots st later F.ins (only_slots 0 S.routine.head.ins) in
        let copies2 : at_all st2 F.copies ≡ at_all st F.copies = at_all-written st1 left lefts F.copies far.left_copies ∙ at_all-written mid F.state state F.copies far.state_copies ∙ at_slots st later F.copies (only_slots c S.copied) in
        let fixed2 : at_all st2 R.fixed ≡ R.values = at_all-written st1 left lefts R.fixed far.left_fixed ∙ at_all-written mid F.state state R.fixed far.state_fixed ∙ at_all-kept S.modifies st later R.fixed keeps far.fixed_kept ∙ same in
        let globals2 : st2.globals ≡ later = globals_stay st1 left lefts far.left_slots ∙ globals_stay mid F.state state (only_slots a (state_of S)) in
        let shape2 = write_all_shape R.size R.width st1 left lefts shape1 in
        let now2 : at_all st2 F.names.globals ≡ later = G.reads st2 shape2.1 ∙ globals2 in
        let places2 : at_all st2 F.names.locals ≡ at_all st F.ins ++ state = map-append (read nothing st2) F.ins F.state ∙ (λ i. ins2 i ++ state2 i) in
        let entry2 : at_all st2 F.names.entry ≡ set_all later S.modifies (at_all st F.copies) = map-set_all (read nothing st2) F.names.globals S.modifies F.copies ∙ (λ i. set_all (now2 i) S.modifies (copies2 i)) in
        record {
          tied = record {
            kept = record {
              locals = is.locals ∙ ap (named (names_in S)) (sym places2);
              globals = is.globals ∙ ap (named (names_of S.globals)) (sym now2);
              entry = is.entry ∙ ap (named (names_of S.globals)) (sym entry2);
            };
            shape = shape2;
            same = fixed2;
          };
          state_is = state2;
          left_is = written_all R.size R.width st1 left lefts shape1 far.left_range far.left_distinct long;
          globals_are = globals2;
        }

    pub after_loop : (s0 s : State) (st : Store Value) (state lefts later : List Value) → TiedIn R F s0 st → IsState S s (at_all st F.ins) state (at_all st F.copies) later → Keeps S.modifies st.globals later → length left ≡ length lefts → After s state lefts later (write_all (record { slots = st.slots; globals = later }) (F.state ++ left) (state ++ lefts))
    after_loop s0 s st state lefts later t is keeps long =
        let together = write_all-append (record { slots = st.slots; globals = later }) F.state left state lefts (slots_length a (state_of S) ∙ sym is.state_length) in
        subst (After s state lefts later) (sym together) (after_writes s st state lefts later t.shape.0 t.same is keeps long)

    pub received_loop : (returns : Bool) → ((b : Bool) → length left ≡ length (left_values returns b)) → (s0 : State) (st : Store Value) → TiedIn R F s0 st → (flow : Flow) (e : End) → SameLoopEnds S returns (at_all st F.ins) (at_all st F.copies) st.globals flow e → CalledLoop returns flow (receive st (F.state ++ left) e)
    received_loop returns long s0 st t (Next s) e h =
        let after = after_loop s0 s st h.0 (left_values returns false) h.1 t h.3 h.4 (long false) in
        (write_all (record { slots = st.slots; globals = h.1 }) (F.state ++ left) (h.0 ++ left_values returns false), ap (receive st (F.state ++ left)) h.2, after.tied, after.left_is)
    received_loop returns long s0 st t (Breaks s) e h = h
    received_loop returns long s0 st t (Returns s) e h =
        let after = after_loop s0 s st h.0 (left_values returns true) h.1 t h.3 h.4 (long true) in
        (write_all (record { slots = st.slots; globals = h.1 }) (F.state ++ left) (h.0 ++ left_values returns true), ap (receive st (F.state ++ left)) h.2, after.tied, after.left_is, h.5)
    received_loop returns long s0 st t Failed e h =
        (write_all (record { slots = st.slots; globals = h.1 }) (F.state ++ left) h.0, ap (receive st (F.state ++ left)) h.2)
    received_loop returns long s0 st t Blocked e h = ap (receive st (F.state ++ left)) h
    received_loop returns long s0 st t Unfinished e h = ap (receive st (F.state ++ left)) h

-- ---- the loops of a source

abbrev pub loop_returns : StmtKind → Bool
loop_returns (While' e invs shape body) = has_returns body
loop_returns _ = false

-- Each loop of the source does what the call of its procedure does.
abbrev pub SameLoops : (ℕ → StmtKind → Type 0) → Setting → Source → Interpretation → Option Level → Calls → Type 0
SameLoops IsLoop T S I lower calls = (k : ℕ) (loop : StmtKind) → IsLoop k loop → (s : State) (ins state copies globals : List Value) → length ins ≡ length S.routine.head.ins → length copies ≡ length S.copied → IsState S s ins state copies globals → SameLoopEnds S (loop_returns loop) ins copies globals (step T.program I lower loop s) (calls k (ins ++ (state ++ copies)) globals)

abbrev pub spot_if : Bool → Spot → List Spot
spot_if returns p = if returns then p ∷ [] else []

pub spot_if-length : (returns : Bool) (p : Spot) (b : Bool) → length (spot_if returns p) ≡ length (left_values returns b)
spot_if-length true p b = refl
spot_if-length false p b = refl

-- what a loop needs in a frame of its source
pub record LoopReady (IsLoop : ℕ → StmtKind → Type 0) (S : Source) (R : Room) (F : Frame) (at : Counts) (loop : StmtKind) : Type 0 where
  pub is_loop : IsLoop at.loops loop
  pub spaced : Spaced S R F (spot_if (loop_returns loop) (Slot at.lefts))
  pub may_return : loop_returns loop ≡ true → R.returns ≡ true

module _ (IsLoop : ℕ → StmtKind → Type 0) (T : Setting) (S : Source) (I : Interpretation) (lower : Option Level) (calls : Calls) (same : SameLoops IsLoop T S I lower calls) where
  module _ (a c : ℕ) (leave : List CoreStmt) (R : Room) (left : List Spot) (G : HasGlobals (names_of S.globals) R (frame_at S a c leave).names) (far : Spaced S R (frame_at S a c leave) left) where
    pub called_loop : (k : ℕ) (loop : StmtKind) → IsLoop k loop → ((b : Bool) → length left ≡ length (left_values (loop_returns loop) b)) → (s : State) (st : Store Value) → TiedIn R (frame_at S a c leave) s st → CalledLoop S a c leave R left (loop_returns loop) (step T.program I lower loop s) (run I calls (loop_call (frame_at S a c leave) k left) st)
    called_loop k loop is long s st t =
        let H = frame_at S a c leave in
        let args : map (value_in I st) (map (λ p. At p) (H.ins ++ (H.state ++ H.copies))) ≡ at_all st H.ins ++ (at_all st H.state ++ at_all st H.copies) =
        map-At I st (H.ins ++ (H.state ++ H.copies)) ∙ map-append (read nothing st) H.ins (H.state ++ H.copies) ∙ ap (λ vs. at_all st H.ins ++ vs) (map-append (read nothing st) H.state H.copies) in
        let ends = same k loop is s (at_all st H.ins) (at_all st H.state) (at_all st H.copies) st.globals (at_all-length st H.ins ∙ slots_length 0 S.routine.head.ins) (at_all-length st H.copies ∙ slots_length c S.copied) (state_of_tied S a c leave R left G far s st t) in
        let back = received_loop S a c leave R left G far (loop_returns loop) long s st t (step T.program I lower loop s) (calls k (at_all st H.ins ++ (at_all st H.state ++ at_all st H.copies)) st.globals) ends in
        subst (λ vs. CalledLoop S a c leave R left (loop_returns loop) (step T.program I lower loop s) (receive st (H.state ++ left) (calls k vs st.globals))) (sym args) back

  -- ---- a loop as a statement

  module _ (a c : ℕ) (leave : List CoreStmt) (R : Room) (p : Spot) where
    left_is : (st : Store Value) (b : Bool) → at_all st (p ∷ []) ≡ Truth b ∷ [] → truth_of (read nothing st p) ≡ b
    left_is st b e = ap (λ vs. truth_of (get_or vs 0 nothing)) e

    after_called : (returns : Bool) → (returns ≡ true → R.returns ≡ true) → (flow : Flow) (x : Step) → CalledLoop S a c leave R (spot_if returns p) returns flow x → Agrees I calls R (frame_at S a c leave) flow (then_run x (run_all I calls (leave_if (spot_if returns p) leave)))
    after_called true may (Next s) x h =
        let e = run-one I calls (core.If (At p) leave []) h.0 ∙ run-If I calls (At p) leave [] h.0 ∙ ap (λ b. if b then run_all I calls leave h.0 else Goes h.0) (left_is h.0 false h.3) in
        (h.0, ap (λ y. then_run y (run_all I calls (leave_if (p ∷ []) leave))) h.1 ∙ e, h.2)
    after_called false may (Next s) x h = (h.0, ap (λ y. then_run y (run_all I calls [])) h.1, h.2)
    after_called returns may (Breaks s) x h = absurd h
    after_called true may (Returns s) x h =
        let e = run-one I calls (core.If (At p) leave []) h.0 ∙ run-If I calls (At p) leave [] h.0 ∙ ap (λ b. if b then run_all I calls leave h.0 else Goes h.0) (left_is h.0 true h.3) in
        (h.0, ap (λ y. then_run y (run_all I calls (leave_if (p ∷ []) leave))) h.1 ∙ e, h.2, may refl)
    after_called false may (Returns s) x h = absurd (let e = h.4 in cc)
    after_called returns may Failed x h = (h.0, ap (λ y. then_run y (run_all I calls (leave_if (spot_if returns p) leave))) h.1)
    after_called returns may Blocked x h = ap (λ y. then_run y (run_all I calls (leave_if (spot_if returns p) leave))) h
    after_called returns may Unfinished x h = ap (λ y. then_run y (run_all I calls (leave_if (spot_if returns p) leave))) h

  pub loop_agrees : (a c : ℕ) (leave : List CoreStmt) (R : Room) → HasGlobals (names_of S.globals) R (frame_at S a c leave).names → (at : Counts) (e : Expr) (invs : List Invariant) (shape : _) (body : Row_of-Stmt _) → LoopReady IsLoop S R (frame_at S a c leave) at (While' e invs shape body) → (s : State) (st : Store Value) → TiedIn R (frame_at S a c leave) s st → Agrees I calls R (frame_at S a c leave) (step T.program I lower (While' e invs shape body) s) (run_all I calls (extracted T.program T.number (frame_at S a c leave) at (While' e invs shape body)) st)
  loop_agrees a c leave R G at e invs shape body r s st t =
      let p = Slot at.lefts in let returns = has_returns body in
      after_called a c leave R p returns r.may_return _ _ (called_loop a c leave R (spot_if returns p) G r.spaced at.loops (While' e invs shape body) r.is_loop (spot_if-length returns p) s st t)
