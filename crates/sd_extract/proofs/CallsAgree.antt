-- A call and what it becomes do the same, where the callee's runs do.
use Rattle.std.proofs.Common.{◌≡◌, ℕ, suc, List, [], ◌∷◌, ◌++◌, Option, Some, None, refl, sym, ◌∙◌, ap, subst, get_or, length, arith}
use Rattle.std.specs.Prelude.{map}
use Rattle.sd_extract.proofs.SourceWords.{Text, Value, Proc, Expr, Call, Interpretation, State, procedure_in, requires_of, names_of, Flow, Verdict, Holds, Fails, FreeFails, verdict, if_holds, values_of, before, Outcome, Ended, Failed, Blocked, Unfinished, Level, step}
use Rattle.sd_extract.proofs.CoreWords.{Spot, Slot, Global, At, Store, read, write, write_all, nothing, value_in, End, CoreUnfinished, Step, Calls, receive, run_all, slots_from, Names, Counts, Frame, Source, check, spot_of, cores, on_args, call_of, extracted}
use Rattle.sd_meaning.specs.Evaluate.{Store as Variables}
use Rattle.sd_meaning.specs.Run.{named, received, called, call}
use Rattle.sd_core.specs.declared.CoreStmt as core
pub use Rattle.sd_extract.specs.Laws.{NotIn, Keeps, SameEnds, Setting}
use Rattle.sd_extract.proofs.Expressions.{at_all, Kept}
use Rattle.sd_extract.proofs.Writes.{Apart, Distinct, HasShape, IsSpot, IsLaidOut, read-write_same, read-write_other, write_shape, at_all-write}
use Rattle.sd_extract.proofs.Statements.{run-one, run-put, run-clauses, after_verdict, cores_values}
use Rattle.sd_extract.proofs.Agree.{Room, TiedIn, CanSet, tied_set_all, Agrees}

-- ---- hidden locals

-- no spot of the body, so that writing there changes nothing
pub record Hidden (R : Room) (N : Names) (p : Spot) : Type 0 where
  pub in_range : IsSpot R.size R.width p
  pub not_local : Apart p N.locals
  pub not_global : Apart p N.globals
  pub not_entry : Apart p N.entry
  pub not_fixed : Apart p R.fixed

abbrev pub AllHidden : Room → Names → List Spot → Type 0
AllHidden R N [] = Unit {0}
AllHidden R N (p ∷ ps) = Hidden R N p × AllHidden R N ps

pub tied_hidden : (R : Room) (F : Frame) (s : State) (st : Store Value) (p : Spot) (v : Value) → Hidden R F.names p → TiedIn R F s st → TiedIn R F s (write st p v)
tied_hidden R F s st p v h t = record {
  kept = record {
    locals = t.kept.locals ∙ ap (named F.names.local_names) (sym (at_all-write st p v F.names.locals h.not_local));
    globals = t.kept.globals ∙ ap (named F.names.global_names) (sym (at_all-write st p v F.names.globals h.not_global));
    entry = t.kept.entry ∙ ap (named F.names.global_names) (sym (at_all-write st p v F.names.entry h.not_entry));
  };
  shape = write_shape R.size R.width st p v t.shape;
  same = at_all-write st p v R.fixed h.not_fixed ∙ t.same;
}

pub tied_hidden_all : (R : Room) (F : Frame) (s : State) (st : Store Value) (ps : List Spot) (vs : List Value) → AllHidden R F.names ps → TiedIn R F s st → TiedIn R F s (write_all st ps vs)
tied_hidden_all R F s st [] vs h t = t
tied_hidden_all R F s st (p ∷ ps) [] h t = t
tied_hidden_all R F s st (p ∷ ps) (v ∷ vs) h t =
    tied_hidden_all R F s (write st p v) ps vs h.1 (tied_hidden R F s st p v h.0 t)

-- what was written at other spots stays
pub write_all_other : (st : Store Value) (ps : List Spot) (vs : List Value) (q : Spot) → Apart q ps → read nothing (write_all st ps vs) q ≡ read nothing st q
write_all_other st [] vs q h = refl
write_all_other st (p ∷ ps) [] q h = refl
write_all_other st (p ∷ ps) (v ∷ vs) q h =
    write_all_other (write st p v) ps vs q h.1 ∙ read-write_other st p q v (λ e. h.0 (sym e))

-- the written values, read again
abbrev pub AllSpots : ℕ → ℕ → List Spot → Type 0
AllSpots size width [] = Unit {0}
AllSpots size width (p ∷ ps) = IsSpot size width p × AllSpots size width ps

pub written_all : (size width : ℕ) (st : Store Value) (ps : List Spot) (vs : List Value) → HasShape size width st → AllSpots size width ps → Distinct ps → length ps ≡ length vs → at_all (write_all st ps vs) ps ≡ vs
written_all size width st [] [] h a d e = refl
written_all size width st [] (v ∷ vs) h a d e = absurd (omega (arith, e))
written_all size width st (p ∷ ps) [] h a d e = absurd (omega (arith, e))
written_all size width st (p ∷ ps) (v ∷ vs) h a d e =
    let first = write_all_other (write st p v) ps vs p d.0 ∙ read-write_same size width st p v h a.0 in
    let rest = written_all size width (write st p v) ps vs (write_shape size width st p v h) a.1 d.1 (omega (arith, e)) in
    λ i. first i ∷ rest i

-- ---- globals

-- none of the spots is one of these globals
abbrev pub Outside : List ℕ → List Spot → Type 0
Outside ms [] = Unit {0}
Outside ms (Slot i ∷ ps) = Outside ms ps
Outside ms (Global i ∷ ps) = NotIn i ms × Outside ms ps

pub at_all-kept : (ms : List ℕ) (st : Store Value) (gs : List Value) (ps : List Spot) → Keeps ms st.globals gs → Outside ms ps → at_all (record { slots = st.slots; globals = gs }) ps ≡ at_all st ps
at_all-kept ms st gs [] k o = refl
at_all-kept ms st gs (Slot i ∷ ps) k o = ap (λ vs. get_or st.slots i nothing ∷ vs) (at_all-kept ms st gs ps k o)
at_all-kept ms st gs (Global i ∷ ps) k o =
    let f = k i o.0 in let g = at_all-kept ms st gs ps k o.1 in λ j. f j ∷ g j

-- ---- ends

-- the call of a procedure whose `requires` hold
abbrev pub SameCall : Setting → Interpretation → Level → Calls → Text → Proc → Type 0
SameCall T I lower calls f p = (ins globals : List Value) → length ins ≡ length p.head.ins → length globals ≡ length T.globals → verdict I (before p ins (named T.globals globals)) (requires_of p.specs) ≡ Holds → SameEnds T.globals (T.modifies f) globals (lower.call f ins (named T.globals globals)) (calls (T.number f) ins globals)

-- the calls of the source with one step less, and the core's
abbrev pub SameCalls : Setting → Interpretation → Option Level → Calls → Type 0
SameCalls T I None calls = (q : ℕ) (ins globals : List Value) → calls q ins globals ≡ CoreUnfinished
SameCalls T I (Some lower) calls = (f : Text) (p : Proc) (S : Source) → procedure_in T.program.decls f ≡ Some p → T.source f ≡ Some S → SameCall T I lower calls f p

-- ---- calls

pub record CallReady (T : Setting) (R : Room) (F : Frame) (at : Counts) (xs : List Text) (f : Text) (es : List Expr) : Type 0 where
  pub callee : Proc
  pub source : Source
  pub declared : procedure_in T.program.decls f ≡ Some callee
  pub is_source : T.source f ≡ Some source
  pub arity : length es ≡ length callee.head.ins
  pub hidden : AllHidden R F.names (slots_from at.args es)
  pub in_range : AllSpots R.size R.width (slots_from at.args es)
  pub distinct : Distinct (slots_from at.args es)
  pub receivers : CanSet R F.names xs
  pub places_kept : Outside (T.modifies f) F.names.locals
  pub entry_kept : Outside (T.modifies f) F.names.entry
  pub fixed_kept : Outside (T.modifies f) R.fixed

-- the globals of a body are all globals, each at its number
pub record HasGlobals (names : List Text) (R : Room) (N : Names) : Type 0 where
  pub same_names : N.global_names ≡ names
  pub width : length names ≡ R.width
  pub reads : (st : Store Value) → length st.globals ≡ R.width → at_all st N.globals ≡ st.globals

pub slots_length : {A : Type 0} (k : ℕ) (xs : List A) → length (slots_from k xs) ≡ length xs
slots_length k [] = refl
slots_length k (x ∷ xs) = let e = slots_length (suc k) xs in omega (arith, e)

pub map-At : (I : Interpretation) (st : Store Value) (ps : List Spot) → map (value_in I st) (map (λ p. At p) ps) ≡ at_all st ps
map-At I st [] = refl
map-At I st (p ∷ ps) = ap (λ vs. read nothing st p ∷ vs) (map-At I st ps)

module _ (T : Setting) (I : Interpretation) (calls : Calls) (R : Room) (F : Frame) (G : HasGlobals T.globals R F.names) (laid : IsLaidOut F.names) where
  -- the globals of a call are taken over, and its outs received
  tied_globals : (ms : List ℕ) (s : State) (st : Store Value) (globals : Variables) (later : List Value) → globals ≡ named T.globals later → length later ≡ length st.globals → Keeps ms st.globals later → Outside ms F.names.locals → Outside ms F.names.entry → Outside ms R.fixed → TiedIn R F s st → TiedIn R F (record s { globals = globals }) (record { slots = st.slots; globals = later })
  tied_globals ms s st globals later e l k places entry fixed t =
      let long : length later ≡ R.width = l ∙ t.shape.1 in
      record {
        kept = record {
          locals = t.kept.locals ∙ ap (named F.names.local_names) (sym (at_all-kept ms st later F.names.locals k places));
          globals = e ∙ (λ i. named (sym G.same_names i) (sym (G.reads (record { slots = st.slots; globals = later }) long) i));
          entry = t.kept.entry ∙ ap (named F.names.global_names) (sym (at_all-kept ms st later F.names.entry k entry));
        };
        shape = (t.shape.0, long);
        same = at_all-kept ms st later R.fixed k fixed ∙ t.same;
      }

  received_agree : (ms : List ℕ) (xs : List Text) (s : State) (st : Store Value) (o : Outcome) (e : End) → CanSet R F.names xs → Outside ms F.names.locals → Outside ms F.names.entry → Outside ms R.fixed → TiedIn R F s st → SameEnds T.globals ms st.globals o e → Agrees I calls R F (received s xs o) (receive st (map (spot_of F.names) xs) e)
  received_agree ms xs s st (Ended outs globals) e c places entry fixed t h =
      let after : Store Value = record { slots = st.slots; globals = h.0 } in
      (write_all after (map (spot_of F.names) xs) outs, ap (receive st (map (spot_of F.names) xs)) h.1, tied_set_all R F laid xs outs (record s { globals = globals }) after c (tied_globals ms s st globals h.0 h.2 h.3 h.4 places entry fixed t))
  received_agree ms xs s st Failed e c places entry fixed t h =
      (write_all (record { slots = st.slots; globals = h.1 }) (map (spot_of F.names) xs) h.0, ap (receive st (map (spot_of F.names) xs)) h.2)
  received_agree ms xs s st Blocked e c places entry fixed t h = ap (receive st (map (spot_of F.names) xs)) h
  received_agree ms xs s st Unfinished e c places entry fixed t h = ap (receive st (map (spot_of F.names) xs)) h

  -- the callee's contract sees the hidden locals
  on_args_kept : (p : Proc) (s : State) (st : Store Value) (spots : List Spot) (ins : List Value) → at_all st spots ≡ ins → TiedIn R F s st → Kept (on_args F.names p spots) (before p ins s.globals) st
  on_args_kept p s st spots ins e t = record {
    locals = ap (named (names_of p.head.ins)) (sym e);
    globals = t.kept.globals;
    entry = t.kept.globals;
  }

  called_agree : (lower : Option Level) → SameCalls T I lower calls → (xs : List Text) (f : Text) (p : Proc) (S : Source) (ins : List Value) (s : State) (st : Store Value) → procedure_in T.program.decls f ≡ Some p → T.source f ≡ Some S → length ins ≡ length p.head.ins → verdict I (before p ins s.globals) (requires_of p.specs) ≡ Holds → CanSet R F.names xs → Outside (T.modifies f) F.names.locals → Outside (T.modifies f) F.names.entry → Outside (T.modifies f) R.fixed → TiedIn R F s st → Agrees I calls R F (called lower s xs f ins) (receive st (map (spot_of F.names) xs) (calls (T.number f) ins st.globals))
  called_agree None same xs f p S ins s st d b a v c places entry fixed t = ap (receive st (map (spot_of F.names) xs)) (same (T.number f) ins st.globals)
  called_agree (Some lower) same xs f p S ins s st d b a v c places entry fixed t =
      let now : s.globals ≡ named T.globals st.globals = t.kept.globals ∙ (λ i. named (G.same_names i) (G.reads st t.shape.1 i)) in
      let holds = subst (λ g. verdict I (before p ins g) (requires_of p.specs) ≡ Holds) now v in
      let ends = same f p S d b ins st.globals a (t.shape.1 ∙ sym G.width) holds in
      received_agree (T.modifies f) xs s st (lower.call f ins s.globals) (calls (T.number f) ins st.globals) c places entry fixed t (subst (λ g. SameEnds T.globals (T.modifies f) st.globals (lower.call f ins g) (calls (T.number f) ins st.globals)) (sym now) ends)

  after_requires : (v : Verdict) (st : Store Value) (a : Flow) (b : Step) → (v ≡ Holds → Agrees I calls R F a b) → Agrees I calls R F (if_holds v a) (after_verdict v st b)
  after_requires Holds st a b h = h refl
  after_requires Fails st a b h = (st, refl)
  after_requires FreeFails st a b h = refl

  pub call_agrees : (lower : Option Level) → SameCalls T I lower calls → (at : Counts) (xs : List Text) (f : Text) (es : List Expr) → CallReady T R F at xs f es → (s : State) (st : Store Value) → TiedIn R F s st → Agrees I calls R F (step T.program I lower (Call xs f es) s) (run_all I calls (extracted T.program T.number F at (Call xs f es)) st)
  call_agrees lower same at xs f es r s st t =
      let p = r.callee in
      let N = F.names in
      let spots = slots_from at.args es in
      let ins = values_of I s es in
      let args : ins ≡ map (value_in I st) (cores N es) = cores_values I N s st t.kept es in
      let st1 = write_all st spots ins in
      let t1 = tied_hidden_all R F s st spots ins r.hidden t in
      let long : length spots ≡ length ins = slots_length at.args es ∙ sym (map-length_of es) in
      let args_at : at_all st1 spots ≡ ins = written_all R.size R.width st spots ins t.shape r.in_range r.distinct long in
      let clauses = requires_of p.specs in
      let last = core.Call (map (spot_of N) xs) (T.number f) (map (λ p. At p) spots) ∷ [] in
      let v = verdict I (before p ins s.globals) clauses in
      let received_at : run_all I calls last st1 ≡ receive st1 (map (spot_of N) xs) (calls (T.number f) ins st1.globals) =
      run-one I calls (core.Call (map (spot_of N) xs) (T.number f) (map (λ p. At p) spots)) st1 ∙ ap (λ vs. receive st1 (map (spot_of N) xs) (calls (T.number f) vs st1.globals)) (map-At I st1 spots ∙ args_at) in
      let runs : run_all I calls (call_of N T.number spots xs f es (Some p)) st ≡ after_verdict v st1 (receive st1 (map (spot_of N) xs) (calls (T.number f) ins st1.globals)) =
      run-put I calls spots (cores N es) (map (check (on_args N p spots)) clauses ++ last) st ∙ ap (λ vs. run_all I calls (map (check (on_args N p spots)) clauses ++ last) (write_all st spots vs)) (sym args) ∙ run-clauses I calls (on_args N p spots) (before p ins s.globals) st1 (on_args_kept p s st1 spots ins args_at t1) clauses last ∙ ap (after_verdict v st1) received_at in
      let agree : Agrees I calls R F (if_holds v (called lower s xs f ins)) (after_verdict v st1 (receive st1 (map (spot_of N) xs) (calls (T.number f) ins st1.globals))) =
      after_requires v st1 (called lower s xs f ins) (receive st1 (map (spot_of N) xs) (calls (T.number f) ins st1.globals)) (λ h. called_agree lower same xs f p r.source ins s st1 r.declared r.is_source (map-length_of es ∙ r.arity) h r.receivers r.places_kept r.entry_kept r.fixed_kept t1) in
      let with_core = subst (Agrees I calls R F (if_holds v (called lower s xs f ins))) (sym runs) agree in
      subst (λ o. Agrees I calls R F (call I lower s xs f ins o) (run_all I calls (call_of N T.number spots xs f es o) st)) (sym r.declared) with_core
    where
      map-length_of : (es : List Expr) → length (values_of I s es) ≡ length es
      map-length_of [] = refl
      map-length_of (e ∷ es) = let h = map-length_of es in omega (arith, h)
