-- A run keeps types and the globals that it may not modify.
use Rattle.std.proofs.Common.{◌≡◌, ℕ, zero, suc, ◌<◌, ◌≤◌, List, [], ◌∷◌, ◌++◌, length, Option, refl, sym, ap, ◌∙◌, subst, get_or, ⊎_elim, arith, append_assoc, length-append}
use Rattle.std.specs.Prelude.{Bool, true, false, map, set, Some, slice_get, Contains, if◌then◌else◌}
use Rattle.std.proofs.lemmas.List.{set-get_or, length-set, length-map, get_or-set_same, get_or-set_other, ext_get_or}
use Rattle.std.proofs.lemmas.List.Elements.{All-from_recursion, All-contains}
use Rattle.std.proofs.lemmas.Bool.{cases_eq, cases_lt}
use Rattle.sd_base.specs.declared.Sort.{Sort}
use Rattle.sd_base.specs.declared.Var.{Var}
use Rattle.sd_base.specs.Value.{Value}
use Rattle.sd_base.specs.Sorts.{HasSort}
use Rattle.sd_base.specs.Meaning.{Interpretation, interpretation, truth_of}
use Rattle.sd_core.specs.declared.Spot.{Spot}
use Rattle.sd_core.specs.declared.Spot.TheVariants.{Slot, Global}
use Rattle.sd_core.specs.declared.CoreExpr.{CoreExpr}
use Rattle.sd_core.specs.declared.CoreStmt.{CoreStmt, Assign, If', Call, Assume, Row_of-CoreStmt, end_of-CoreStmt, more_of-CoreStmt}
use Rattle.sd_core.specs.declared.CoreProc.{CoreProc}
use Rattle.sd_core.specs.declared.CoreProgram.{CoreProgram}
use Rattle.sd_core.specs.Store.{Store, read, write, write_all, set_all}
use Rattle.sd_core.specs.Run.{nothing, value_in, End, Ended, Blocked, Unfinished, Step, Goes, Stops, Blocks, Lacks, Calls, receive, then_run, run, run_row, run_all, enter, slots_from, outs_of, end_of, run_proc, run_number, calls_within}
use Rattle.sd_core.specs.Formed.{sorts_of, state_sorts, Within, IsCall, IsFormed, AreFormed, AllFormed, AreTargets}
use Rattle.sd_core.specs.Meanings.{HaveSorts}
use Rattle.sd_runs.specs.Kept.{at_all, EndFits, KeepsCalls}
use Rattle.sd_runs.specs.Laws.{RunsKeep}
use Rattle.sd_runs.proofs.Contained.{contains_first, contains_later, not_among}
use Rattle.sd_runs.proofs.Fits.{StoreFits, InterpretsFunctions, get_fits, append_fits, write_all_fits, meaning_interprets, all_values_fit}

-- ---- globals

-- globals from before, but for these
pub record Untouched (ms : List ℕ) (before after : List Value) : Type 0 where
  pub same_length : length after ≡ length before
  pub others : (i : ℕ) → (Contains ms i → ⊥) → get_or after i nothing ≡ get_or before i nothing

pub untouched : (ms : List ℕ) (xs : List Value) → Untouched ms xs xs
untouched ms xs = record { same_length = refl; others = λ i h. refl }

pub untouched_on : (ms : List ℕ) (xs ys zs : List Value) → Untouched ms xs ys → Untouched ms ys zs → Untouched ms xs zs
untouched_on ms xs ys zs a b = record { same_length = b.same_length ∙ a.same_length; others = λ i h. b.others i h ∙ a.others i h }

touch : (ms : List ℕ) (xs : List Value) (i : ℕ) (x : Value) → Contains ms i → Untouched ms xs (set xs i x)
touch ms xs i x m = record {
  same_length = length-set xs i x;
  others = λ j h. get_or-set_other xs i j x nothing (λ e. h (subst (λ (k : ℕ). Contains ms k) (sym e) m));
}

write_untouched : (ms : List ℕ) (st : Store Value) (ss : List Spot) (xs : List Value) → Within ms ss → Untouched ms st.globals (write_all st ss xs).globals
write_untouched ms st [] xs w = untouched ms st.globals
write_untouched ms st (Slot i ∷ ss) [] w = untouched ms st.globals
write_untouched ms st (Global i ∷ ss) [] w = untouched ms st.globals
write_untouched ms st (Slot i ∷ ss) (x ∷ xs) w = write_untouched ms (write st (Slot i) x) ss xs w
write_untouched ms st (Global i ∷ ss) (x ∷ xs) w =
    untouched_on ms _ _ _ (touch ms st.globals i x w.0) (write_untouched ms (write st (Global i) x) ss xs w.1)

get_set : (xs : List Value) (m : ℕ) (x : Value) (n : ℕ) → length xs ≡ n → (n ≤ m → x ≡ get_or xs m nothing) → get_or (set xs m x) m nothing ≡ x
get_set xs m x n e out = ⊎_elim
    (λ (h : m < length xs). get_or-set_same xs m x nothing h)
    (λ (h : length xs ≤ m). let o : x ≡ get_or xs m nothing = out (omega arith) in
    ap (λ (y : Value). get_or (set xs m y) m nothing) o ∙ ap (λ (ys : List Value). get_or ys m nothing) (set-get_or xs m nothing) ∙ sym o)
    (cases_lt m (length xs))

past : (xs : List Value) (m : ℕ) → length xs ≤ m → get_or xs m nothing ≡ nothing
past [] m h = refl
past (x ∷ xs) zero h = absurd (omega arith)
past (x ∷ xs) (suc m) h = past xs m (omega arith)

pub others_are : (ms : List ℕ) (xs ys : List Value) → Untouched ms xs ys → set_all xs ms (at_all ys ms) ≡ ys
others_are [] xs ys u = sym (ext_get_or nothing ys xs u.same_length (λ i h. u.others i (λ c. omega (arith, c.1))))
others_are (m ∷ ms) xs ys u =
    let y = get_or ys m nothing in
    others_are ms (set xs m y) ys (record {
      same_length = u.same_length ∙ sym (length-set xs m y);
      others = λ i h. ⊎_elim
          (λ (e : i ≡ m). subst (λ (k : ℕ). get_or ys k nothing ≡ get_or (set xs m y) k nothing) (sym e) (sym (get_set xs m y (length xs) refl (λ o. past ys m (omega (arith, u.same_length)) ∙ sym (past xs m o)))))
          (λ (ne : i ≡ m → ⊥). u.others i (not_among i m ms ne h) ∙ sym (get_or-set_other xs m i y nothing ne))
          (cases_eq i m);
    })

pub set_all_untouched : (all ms : List ℕ) (xs ys : List Value) → ((i : ℕ) → Contains ms i → Contains all i) → Untouched all xs (set_all xs ms ys)
set_all_untouched all [] xs ys h = untouched all xs
set_all_untouched all (m ∷ ms) xs [] h = untouched all xs
set_all_untouched all (m ∷ ms) xs (y ∷ ys) h =
    untouched_on all _ _ _ (touch all xs m y (h m (contains_first m ms))) (set_all_untouched all ms (set xs m y) ys (λ i a. h i (contains_later m i ms a)))

-- ---- runs

-- the state of a procedure that began with these globals
pub record StateFits (P : CoreProgram) (p : CoreProc) (before : List Value) (st : Store Value) : Type 0 where
  pub sorts : StoreFits (state_sorts P p) st
  pub kept : Untouched p.modifies before st.globals

abbrev pub StepFits : CoreProgram → CoreProc → List Value → Step → Type 0
StepFits P p before (Goes st) = StateFits P p before st
StepFits P p before (Stops st flag) = StateFits P p before st
StepFits P p before Blocks = Unit {0}
StepFits P p before Lacks = Unit {0}

module _ (P : CoreProgram) (p : CoreProc) (before : List Value) where
  -- values of the targets' types
  pub stored : (spots : List Spot) (ss : List Sort) (xs : List Value) (st : Store Value) → AreTargets (state_sorts P p) p.modifies spots ss → HaveSorts ss xs → StateFits P p before st → StateFits P p before (write_all st spots xs)
  stored spots ss xs st t h f = record {
    sorts = write_all_fits (state_sorts P p) spots ss xs st t.sorts h f.sorts;
    kept = untouched_on p.modifies _ _ _ f.kept (write_untouched p.modifies st spots xs t.within);
  }

  -- the callee's globals, where the callee modifies no more than the caller
  pub taken : (callee : CoreProc) (st : Store Value) (globals outs : List Value) → ((i : ℕ) → Contains callee.modifies i → Contains p.modifies i) → EndFits P callee st.globals outs globals → StateFits P p before st → StateFits P p before (record { slots = st.slots; globals = globals })
  taken callee st globals outs sub e f = record {
    sorts = record { slots = f.sorts.slots; globals = e.globals_fit };
    kept = untouched_on p.modifies _ _ _ f.kept (subst (λ (gs : List Value). Untouched p.modifies st.globals gs) e.others (set_all_untouched p.modifies callee.modifies st.globals (at_all globals callee.modifies) sub));
  }

  if_fits : (b : Bool) (x y : Step) → StepFits P p before x → StepFits P p before y → StepFits P p before (if b then x else y)
  if_fits true x y a c = a
  if_fits false x y a c = c

  then_fits : (x : Step) (go : Store Value → Step) → StepFits P p before x → ((st : Store Value) → StateFits P p before st → StepFits P p before (go st)) → StepFits P p before (then_run x go)
  then_fits (Goes st) go f h = h st f
  then_fits (Stops st flag) go f h = f
  then_fits Blocks go f h = f
  then_fits Lacks go f h = f

  module _ (I : Interpretation) (fit : InterpretsFunctions P.functions I) (calls : Calls) (keeps : KeepsCalls P calls) where
    pub ended : (q : ℕ) (spots : List Spot) (args : List CoreExpr) (st : Store Value) (call : IsCall P p spots q args) → StateFits P p before st → (outs globals : List Value) (flag : Bool) → calls q (map (value_in I st) args) st.globals ≡ Ended outs globals flag → StateFits P p before (write_all (record { slots = st.slots; globals = globals }) spots outs)
    ended q spots args st call f outs globals flag e =
        let callee = call.callee in
        let end = keeps.by q callee (map (value_in I st) args) st.globals outs globals flag call.found (all_values_fit P.functions I fit (state_sorts P p) st f.sorts args (sorts_of callee.ins) call.ins) f.sorts.globals e in
        let sub = λ (i : ℕ) (c : Contains callee.modifies i). All-contains (Contains p.modifies) callee.modifies i (All-from_recursion (Contains p.modifies) callee.modifies call.modifies) c in
        stored spots (sorts_of callee.outs) outs _ call.outs end.outs_fit (taken callee st globals outs sub end f)

    received : (q : ℕ) (spots : List Spot) (args : List CoreExpr) (st : Store Value) (call : IsCall P p spots q args) → StateFits P p before st → (end : End) → calls q (map (value_in I st) args) st.globals ≡ end → StepFits P p before (receive st spots end)
    received q spots args st call f Blocked e = tt
    received q spots args st call f Unfinished e = tt
    received q spots args st call f (Ended outs globals true) e = ended q spots args st call f outs globals true e
    received q spots args st call f (Ended outs globals false) e = ended q spots args st call f outs globals false e

    mutual
      pub run_fits : (s : CoreStmt) → IsFormed P p s → (st : Store Value) → StateFits P p before st → StepFits P p before (run I calls s st)
      run_fits (Assign spots es) formed st f =
          stored spots formed.0 (map (value_in I st) es) st formed.2 (all_values_fit P.functions I fit (state_sorts P p) st f.sorts es formed.0 formed.1) f
      run_fits (If' c n a m b) formed st f = if_fits (truth_of (value_in I st c)) _ _ (run_row_fits a formed.1 st f) (run_row_fits b formed.2 st f)
      run_fits (Call spots q args) formed st f = received q spots args st formed f _ refl
      run_fits (Assume c) formed st f = if_fits (truth_of (value_in I st c)) (Goes st) Blocks f tt
      run_fits _ formed st f = f

      pub run_row_fits : {n : _} (ss : Row_of-CoreStmt n) → AreFormed P p ss → (st : Store Value) → StateFits P p before st → StepFits P p before (run_row I calls ss st)
      run_row_fits end_of-CoreStmt formed st f = f
      run_row_fits (more_of-CoreStmt s ss) formed st f = then_fits (run I calls s st) (run_row I calls ss) (run_fits s formed.0 st f) (λ st1 f1. run_row_fits ss formed.1 st1 f1)

    pub run_all_fits : (ss : List CoreStmt) → AllFormed P p ss → (st : Store Value) → StateFits P p before st → StepFits P p before (run_all I calls ss st)
    run_all_fits [] formed st f = f
    run_all_fits (s ∷ ss) formed st f = then_fits (run I calls s st) (run_all I calls ss) (run_fits s formed.0 st f) (λ st1 f1. run_all_fits ss formed.1 st1 f1)

-- ---- procedures

seam : {A : Type 0} (xs : List A) (y : A) (ys : List A) (k : ℕ) → length xs ≡ k → slice_get (xs ++ y ∷ ys) k ≡ Some y
seam [] y ys zero e = refl
seam [] y ys (suc k) e = absurd (omega arith)
seam (x ∷ xs) y ys zero e = absurd (omega arith)
seam (x ∷ xs) y ys (suc k) e = seam xs y ys k (omega arith)

outs_fit : (outs : List Var) (rest pre : List Sort) (k : ℕ) (st : Store Value) → length pre ≡ k → HaveSorts (pre ++ (sorts_of outs ++ rest)) st.slots → HaveSorts (sorts_of outs) (map (read nothing st) (slots_from k outs))
outs_fit [] rest pre k st e h = refl
outs_fit (x ∷ outs) rest pre k st e h =
    let s : Sort = x.sort in
    let longer : length (pre ++ s ∷ []) ≡ suc k = length-append pre (s ∷ []) ∙ omega (arith, e) in
    (get_fits (pre ++ (s ∷ (sorts_of outs ++ rest))) st.slots k s h (seam pre s (sorts_of outs ++ rest) k e), outs_fit outs rest (pre ++ s ∷ []) (suc k) st longer (subst (λ (ss : List Sort). HaveSorts ss st.slots) (sym (append_assoc pre (s ∷ []) (sorts_of outs ++ rest))) h))

starts_fit : (I : Interpretation) → ((s : Sort) → HasSort s (I.start s)) → (xs : List Var) → HaveSorts (sorts_of xs) (map (λ v. I.start v.sort) xs)
starts_fit I h [] = refl
starts_fit I h (x ∷ xs) = (h x.sort, starts_fit I h xs)

pub enter_fits : (P : CoreProgram) (I : Interpretation) → InterpretsFunctions P.functions I → (p : CoreProc) (ins globals : List Value) → HaveSorts (sorts_of p.ins) ins → HaveSorts (sorts_of P.globals) globals → StateFits P p globals (enter I.start p ins globals)
enter_fits P I fit p ins globals a b = record {
  sorts = record {
    slots = append_fits (sorts_of p.ins) (sorts_of p.outs ++ sorts_of p.locals) ins _ a (append_fits (sorts_of p.outs) (sorts_of p.locals) _ _ (starts_fit I fit.starts p.outs) (starts_fit I fit.starts p.locals));
    globals = b;
  };
  kept = untouched p.modifies globals;
}

pub state_ends : (P : CoreProgram) (p : CoreProc) (before : List Value) (st : Store Value) → StateFits P p before st → EndFits P p before (outs_of p st) st.globals
state_ends P p before st f = record {
  outs_fit = outs_fit p.outs (sorts_of p.locals) (sorts_of p.ins) (length p.ins) st (length-map p.ins (λ x. x.sort)) f.sorts.slots;
  globals_fit = f.sorts.globals;
  others = others_are p.modifies before st.globals f.kept;
}

step_ends : (P : CoreProgram) (p : CoreProc) (before : List Value) (x : Step) → StepFits P p before x → (outs after : List Value) (flag : Bool) → end_of p x ≡ Ended outs after flag → EndFits P p before outs after
step_ends P p before (Goes st) f outs after flag e =
    let o : outs_of p st ≡ outs = cc in let g : st.globals ≡ after = cc in
    subst (λ (xs : List Value). EndFits P p before xs after) o (subst (λ (gs : List Value). EndFits P p before (outs_of p st) gs) g (state_ends P p before st f))
step_ends P p before (Stops st b) f outs after flag e =
    let o : outs_of p st ≡ outs = cc in let g : st.globals ≡ after = cc in
    subst (λ (xs : List Value). EndFits P p before xs after) o (subst (λ (gs : List Value). EndFits P p before (outs_of p st) gs) g (state_ends P p before st f))
step_ends P p before Blocks f outs after flag e = absurd (cc)
step_ends P p before Lacks f outs after flag e = absurd (cc)

-- a run of one body, whatever its calls come to
pub proc_keeps : (P : CoreProgram) (I : Interpretation) → InterpretsFunctions P.functions I → (calls : Calls) → KeepsCalls P calls → (p : CoreProc) → AllFormed P p p.body → (ins globals outs after : List Value) (flag : Bool) → HaveSorts (sorts_of p.ins) ins → HaveSorts (sorts_of P.globals) globals → run_proc I calls p ins globals ≡ Ended outs after flag → EndFits P p globals outs after
proc_keeps P I fit calls keeps p formed ins globals outs after flag a b e =
    step_ends P p globals _ (run_all_fits P p globals I fit calls keeps p.body formed _ (enter_fits P I fit p ins globals a b)) outs after flag e

pub runs_keep_within : RunsKeep
runs_keep_within P M formed m zero = record { by = λ q p ins globals outs after flag found a b e. absurd (cc) }
runs_keep_within P M formed m (suc n) =
    let I = interpretation M in
    record {
      by = λ q p ins globals outs after flag found a b e.
          proc_keeps P I (meaning_interprets P M m) (calls_within I P.procs n) (runs_keep_within P M formed m n) p (formed.procs q p found).body ins globals outs after flag a b
          (sym (ap (λ (o : Option CoreProc). run_number I (calls_within I P.procs n) o ins globals) found) ∙ e);
    }
