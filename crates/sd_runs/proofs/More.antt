-- A run with more calls inside each other.
use Rattle.std.proofs.Common.{◌≡◌, ℕ, zero, suc, ◌⊎◌, inl, inr, List, [], ◌∷◌, Option, Some, None, refl, ap, subst, ⊎_elim}
use Rattle.std.specs.Prelude.{Bool, true, false, map, slice_get, if◌then◌else◌}
use Rattle.sd_base.specs.Value.{Value}
use Rattle.sd_base.specs.Meaning.{Interpretation, truth_of}
use Rattle.sd_core.specs.declared.CoreStmt.{CoreStmt, If', Call, Row_of-CoreStmt, end_of-CoreStmt, more_of-CoreStmt}
use Rattle.sd_core.specs.declared.CoreProc.{CoreProc}
use Rattle.sd_core.specs.Store.{Store}
use Rattle.sd_core.specs.Run.{value_in, End, Unfinished, Step, Goes, Stops, Blocks, Lacks, Calls, receive, then_run, run, run_row, run_all, enter, end_of, run_number, calls_within}
use Rattle.sd_runs.specs.Laws.{MoreCalls}

-- the same, or unfinished
abbrev Below : Step → Step → Type 0
Below x y = (x ≡ Lacks) ⊎ (x ≡ y)

abbrev pub EndBelow : End → End → Type 0
EndBelow x y = (x ≡ Unfinished) ⊎ (x ≡ y)

then_same : (x : Step) (go go' : Store Value → Step) → ((st : Store Value) → Below (go st) (go' st)) → Below (then_run x go) (then_run x go')
then_same (Goes st) go go' h = h st
then_same (Stops st flag) go go' h = inr refl
then_same Blocks go go' h = inr refl
then_same Lacks go go' h = inr refl

then_below : (x y : Step) (go go' : Store Value → Step) → Below x y → ((st : Store Value) → Below (go st) (go' st)) → Below (then_run x go) (then_run y go')
then_below x y go go' b h = ⊎_elim
    (λ (e : x ≡ Lacks). inl (ap (λ (z : Step). then_run z go) e))
    (λ (e : x ≡ y). subst (λ (z : Step). Below (then_run x go) (then_run z go')) e (then_same x go go' h))
    b

if_below : (b : Bool) (x y x' y' : Step) → Below x x' → Below y y' → Below (if b then x else y) (if b then x' else y')
if_below true x y x' y' h k = h
if_below false x y x' y' h k = k

module _ (I : Interpretation) (calls calls' : Calls) (more : (q : ℕ) (ins globals : List Value) → EndBelow (calls q ins globals) (calls' q ins globals)) where
  mutual
    run_below : (s : CoreStmt) (st : Store Value) → Below (run I calls s st) (run I calls' s st)
    run_below (If' c n a m b) st = if_below (truth_of (value_in I st c)) _ _ _ _ (run_row_below a st) (run_row_below b st)
    run_below (Call spots q args) st = ⊎_elim
        (λ (e : calls q (map (value_in I st) args) st.globals ≡ Unfinished). inl (ap (receive st spots) e))
        (λ (e : calls q (map (value_in I st) args) st.globals ≡ calls' q (map (value_in I st) args) st.globals). inr (ap (receive st spots) e))
        (more q (map (value_in I st) args) st.globals)
    run_below _ st = inr refl

    run_row_below : {n : _} (ss : Row_of-CoreStmt n) (st : Store Value) → Below (run_row I calls ss st) (run_row I calls' ss st)
    run_row_below end_of-CoreStmt st = inr refl
    run_row_below (more_of-CoreStmt s ss) st = then_below (run I calls s st) (run I calls' s st) (run_row I calls ss) (run_row I calls' ss) (run_below s st) (λ st1. run_row_below ss st1)

  run_all_below : (ss : List CoreStmt) (st : Store Value) → Below (run_all I calls ss st) (run_all I calls' ss st)
  run_all_below [] st = inr refl
  run_all_below (s ∷ ss) st = then_below (run I calls s st) (run I calls' s st) (run_all I calls ss) (run_all I calls' ss) (run_below s st) (λ st1. run_all_below ss st1)

  pub number_below : (o : Option CoreProc) (ins globals : List Value) → EndBelow (run_number I calls o ins globals) (run_number I calls' o ins globals)
  number_below None ins globals = inr refl
  number_below (Some p) ins globals = ⊎_elim
      (λ (e : run_all I calls p.body (enter I.start p ins globals) ≡ Lacks). inl (ap (end_of p) e))
      (λ (e : run_all I calls p.body (enter I.start p ins globals) ≡ run_all I calls' p.body (enter I.start p ins globals)). inr (ap (end_of p) e))
      (run_all_below p.body (enter I.start p ins globals))

pub more_calls_within : MoreCalls
more_calls_within I procs zero q ins globals = inl refl
more_calls_within I procs (suc n) q ins globals = number_below I (calls_within I procs n) (calls_within I procs (suc n)) (λ q' i g. more_calls_within I procs n q' i g) (slice_get procs q) ins globals
