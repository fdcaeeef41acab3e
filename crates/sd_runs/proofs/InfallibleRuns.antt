-- An infallible procedure ends with its flag down.
use Rattle.std.proofs.Common.{◌≡◌, ℕ, zero, suc, List, [], ◌∷◌, Option, Some, None, refl, sym, ◌∙◌}
use Rattle.std.specs.Prelude.{Bool, true, false, map, slice_get, if◌then◌else◌}
use Rattle.std.specs.List.{AllByRecursion}
use Rattle.std.proofs.lemmas.Bool.{or_parts}
use Rattle.sd_base.specs.Value.{Value}
use Rattle.sd_base.specs.Meaning.{Interpretation, truth_of}
use Rattle.sd_base.proofs.Lists.{all-front, all-back}
use Rattle.sd_core.specs.declared.Spot.{Spot}
use Rattle.sd_core.specs.declared.CoreStmt.{CoreStmt, Assign, If', Call, Assume, Fail, Return, Row_of-CoreStmt, end_of-CoreStmt, more_of-CoreStmt}
use Rattle.sd_core.specs.declared.CoreProc.{CoreProc}
use Rattle.sd_core.specs.Store.{Store}
use Rattle.sd_core.specs.Run.{value_in, End, Ended, Blocked, Unfinished, Step, Goes, Stops, Blocks, Lacks, Calls, receive, then_run, run, run_row, run_all, enter, end_of, run_number, calls_within}
use Rattle.sd_runs.specs.Calls.{callees, row_callees, callees_of, has_fail, row_has_fail, any_fail}
use Rattle.sd_runs.specs.Infallible.{IsInfallibleBody}
use Rattle.sd_runs.specs.Laws.{InfallibleRuns}

-- ---- runs

abbrev StepInfallible : Step → Type 0
StepInfallible (Goes st) = Unit {0}
StepInfallible (Stops st flag) = flag ≡ false
StepInfallible Blocks = Unit {0}
StepInfallible Lacks = Unit {0}

then_infallible : (x : Step) (go : Store Value → Step) → StepInfallible x → ((st : Store Value) → StepInfallible (go st)) → StepInfallible (then_run x go)
then_infallible (Goes st) go a h = h st
then_infallible (Stops st flag) go a h = a
then_infallible Blocks go a h = tt
then_infallible Lacks go a h = tt

if_infallible : (b : Bool) (x y : Step) → StepInfallible x → StepInfallible y → StepInfallible (if b then x else y)
if_infallible true x y a c = a
if_infallible false x y a c = c

-- calls of these procedures end with the flag down
abbrev FlagsDown : Calls → (ℕ → Bool) → Type 0
FlagsDown calls infallible = (q : ℕ) (ins globals outs after : List Value) (flag : Bool) → infallible q ≡ true → calls q ins globals ≡ Ended outs after flag → flag ≡ false

module _ (I : Interpretation) (calls : Calls) (infallible : ℕ → Bool) (flags_down : FlagsDown calls infallible) where
  received_infallible : (q : ℕ) (ins : List Value) (st : Store Value) (spots : List Spot) → infallible q ≡ true → (end : End) → calls q ins st.globals ≡ end → StepInfallible (receive st spots end)
  received_infallible q ins st spots h (Ended outs after true) e = flags_down q ins st.globals outs after true h e
  received_infallible q ins st spots h (Ended outs after false) e = tt
  received_infallible q ins st spots h Blocked e = tt
  received_infallible q ins st spots h Unfinished e = tt

  mutual
    run_infallible : (s : CoreStmt) → has_fail s ≡ false → AllByRecursion (λ q. infallible q ≡ true) (callees s) → (st : Store Value) → StepInfallible (run I calls s st)
    run_infallible (Assign spots es) f h st = tt
    run_infallible (If' c n a m b) f h st =
        let fs = or_parts (row_has_fail a) (row_has_fail b) f in
        if_infallible (truth_of (value_in I st c)) _ _
        (run_row_infallible a fs.0 (all-front (λ q. infallible q ≡ true) (row_callees a) (row_callees b) h) st)
        (run_row_infallible b fs.1 (all-back (λ q. infallible q ≡ true) (row_callees a) (row_callees b) h) st)
    run_infallible (Call spots q args) f h st = received_infallible q (map (value_in I st) args) st spots h.0 _ refl
    run_infallible (Assume c) f h st = if_infallible (truth_of (value_in I st c)) (Goes st) Blocks tt tt
    run_infallible Fail f h st = absurd (cc)
    run_infallible Return f h st = refl

    run_row_infallible : {n : _} (ss : Row_of-CoreStmt n) → row_has_fail ss ≡ false → AllByRecursion (λ q. infallible q ≡ true) (row_callees ss) → (st : Store Value) → StepInfallible (run_row I calls ss st)
    run_row_infallible end_of-CoreStmt f h st = tt
    run_row_infallible (more_of-CoreStmt s ss) f h st =
        let fs = or_parts (has_fail s) (row_has_fail ss) f in
        let here = all-front (λ q. infallible q ≡ true) (callees s) (row_callees ss) h in
        let rest = all-back (λ q. infallible q ≡ true) (callees s) (row_callees ss) h in
        then_infallible (run I calls s st) (run_row I calls ss) (run_infallible s fs.0 here st) (λ st1. run_row_infallible ss fs.1 rest st1)

  run_all_infallible : (ss : List CoreStmt) → any_fail ss ≡ false → AllByRecursion (λ q. infallible q ≡ true) (callees_of ss) → (st : Store Value) → StepInfallible (run_all I calls ss st)
  run_all_infallible [] f h st = tt
  run_all_infallible (s ∷ ss) f h st =
      let fs = or_parts (has_fail s) (any_fail ss) f in
      let here = all-front (λ q. infallible q ≡ true) (callees s) (callees_of ss) h in
      let rest = all-back (λ q. infallible q ≡ true) (callees s) (callees_of ss) h in
      then_infallible (run I calls s st) (run_all I calls ss) (run_infallible s fs.0 here st) (λ st1. run_all_infallible ss fs.1 rest st1)

infallible_end : (p : CoreProc) (x : Step) (outs after : List Value) (flag : Bool) → StepInfallible x → end_of p x ≡ Ended outs after flag → flag ≡ false
infallible_end p (Goes st) outs after flag a e = cc
infallible_end p (Stops st b) outs after flag a e = let f : b ≡ flag = cc in sym f ∙ a
infallible_end p Blocks outs after flag a e = cc
infallible_end p Lacks outs after flag a e = cc

infallible_number : (I : Interpretation) (calls : Calls) (infallible : ℕ → Bool) → FlagsDown calls infallible → (o : Option CoreProc) → ((p : CoreProc) → o ≡ Some p → IsInfallibleBody infallible p) → (ins globals outs after : List Value) (flag : Bool) → run_number I calls o ins globals ≡ Ended outs after flag → flag ≡ false
infallible_number I calls infallible flags_down None h ins globals outs after flag e = cc
infallible_number I calls infallible flags_down (Some p) h ins globals outs after flag e =
    let b = h p refl in
    infallible_end p _ outs after flag (run_all_infallible I calls infallible flags_down p.body b.no_fail b.callees (enter I.start p ins globals)) e

pub infallible_runs_within : InfallibleRuns
infallible_runs_within I procs infallible set zero q ins globals outs after flag h e = cc
infallible_runs_within I procs infallible set (suc n) q ins globals outs after flag h e =
    infallible_number I (calls_within I procs n) infallible (λ q' i g o a f hq eq. infallible_runs_within I procs infallible set n q' i g o a f hq eq) (slice_get procs q) (λ p found. set q p h found) ins globals outs after flag e
