-- The law of mutual summaries.
use Rattle.std.proofs.Common.{◌≡◌, ℕ, zero, suc, ◌+◌, List, [], ◌∷◌, ◌++◌, length, get_or, Option, Some, None, refl, ap, ◌∙◌, subst, arith}
use Rattle.std.specs.Prelude.{Bool, true, false, not, map, slice_get}
use Rattle.sd_base.specs.Value.{Value, Truth}
use Rattle.sd_base.specs.Meaning.{Meaning, interpretation}
use Rattle.sd_core.specs.declared.CoreProc.{CoreProc}
use Rattle.sd_core.specs.declared.CoreProgram.{CoreProgram}
use Rattle.sd_core.specs.Store.{map_store}
use Rattle.sd_core.specs.Run.{Calls, Ended, run_number, calls_within}
use Rattle.sd_core.specs.Formed.{sorts_of}
use Rattle.sd_core.specs.Meanings.{HaveSorts}
use Rattle.sd_term.specs.Tree.{Tree}
use Rattle.sd_term.specs.Build.{not_of}
use Rattle.sd_term.specs.Truth.{Valuation, value, MakesTrue, IsUnsatisfiable}
use Rattle.sd_vcgen.specs.Body.{State, count_all, outs_of}
use Rattle.sd_vcgen.specs.Laws.{truth, Carries, InputsFit, IsRun, HasLog, RunsAreValuations}
use Rattle.sd_vcgen.proofs.Logs.{carries_front, carries_back, symbols-value}
use Rattle.sd_vcgen.proofs.Symbols.{symbols-sort}
use Rattle.sd_vcgen.proofs.Truths.{not_truth}
use Rattle.sd_product.specs.Relations.{entry, exit, all_hold, claim_holds}
use Rattle.sd_product.specs.Query.{Claimed, Work, Infallibles, old_context, new_context, input_count, first_call, old_side, new_side, all_related, axioms_of, apart, conditions_of, claim_of, premises_of, facts_of, query_by, query_of}
use Rattle.sd_product.specs.Summaries.{HoldsOf, EachLive, IsWork, IsMeaning, IsSupported, MutualSummaries}
use Rattle.sd_product.proofs.Truths.{split, true-value, claim-truth, exit-values, conditions-true, makes-append, makes-all}
use Rattle.sd_product.proofs.CallLemmas.{related-true}
use Rattle.sd_product.proofs.Declared.{reads-meaning, axioms-true, apart-true}
use Rattle.sd_product.proofs.Carried.{vars-length, carrier, carries-all}

-- ---- one valuation for both sides

-- the inputs of both sides, and then what their calls leave
abbrev laid : (ins globals ins' globals' log log' : List Value) → List Value
laid ins globals ins' globals' log log' = ins ++ (globals ++ (ins' ++ (globals' ++ (log ++ log'))))

-- what the sides of a query are where a valuation is a run of each
record AreRuns (w : Work) (z : Infallibles) (old new : Calls) (v : Valuation) (p q : CoreProc) (ins globals ins' globals' outs after outs' after' : List Value) (flag flag' : Bool) : Type 0 where
  old_ins : map (value v) (old_side (old_context w z) (new_context w z) p q).inputs.slots ≡ ins
  old_globals : map (value v) (old_side (old_context w z) (new_context w z) p q).inputs.globals ≡ globals
  new_ins : map (value v) (new_side (old_context w z) (new_context w z) p q).inputs.slots ≡ ins'
  new_globals : map (value v) (new_side (old_context w z) (new_context w z) p q).inputs.globals ≡ globals'
  old_run : IsRun w.old old v p (old_side (old_context w z) (new_context w z) p q).body outs after flag
  new_run : IsRun w.new new v q (new_side (old_context w z) (new_context w z) p q).body outs' after' flag'

module _ (w : Work) (z : Infallibles) (M : Meaning) (meaning : IsMeaning w M) (old new : Calls) (p q : CoreProc) where
  -- by the values of the inputs and of both logs
  one-valuation : (ins globals ins' globals' outs after outs' after' : List Value) (flag flag' : Bool) →
      HaveSorts (sorts_of p.ins) ins → HaveSorts (sorts_of w.old.globals) globals → HaveSorts (sorts_of q.ins) ins' → HaveSorts (sorts_of w.new.globals) globals' →
      (a : HasLog (old_context w z) (interpretation M) old p ins globals outs after flag) (b : HasLog (new_context w z) (interpretation M) new q ins' globals' outs' after' flag') →
      AreRuns w z old new (carrier (interpretation M) (laid ins globals ins' globals' a.log b.log)) p q ins globals ins' globals' outs after outs' after' flag flag'
  one-valuation ins globals ins' globals' outs after outs' after' flag flag' f1 f2 f3 f4 a b =
      let all = laid ins globals ins' globals' a.log b.log in
      let v = carrier (interpretation M) all in
      let C = old_context w z in
      let D = new_context w z in
      let n1 = vars-length p.ins ins f1 in
      let n2 = vars-length w.old.globals globals f2 in
      let n3 = vars-length q.ins ins' f3 in
      let n4 = vars-length w.new.globals globals' f4 in
      let logs = a.log ++ b.log in
      let k3 : 0 + length p.ins + length w.old.globals ≡ input_count w.old p = omega arith in
      let k5 : input_count w.old p + length q.ins + length w.new.globals ≡ first_call C D p q = omega arith in
      let h1 = carries-all (interpretation M) all in
      let h2 = carries_back v 0 ins (globals ++ (ins' ++ (globals' ++ logs))) (length p.ins) n1 h1 in
      let h3 = subst (λ (k : ℕ). Carries v k (ins' ++ (globals' ++ logs))) k3 (carries_back v (0 + length p.ins) globals (ins' ++ (globals' ++ logs)) (length w.old.globals) n2 h2) in
      let h4 = carries_back v (input_count w.old p) ins' (globals' ++ logs) (length q.ins) n3 h3 in
      let h5 = subst (λ (k : ℕ). Carries v k logs) k5 (carries_back v (input_count w.old p + length q.ins) globals' logs (length w.new.globals) n4 h4) in
      let h6 = carries_back v (first_call C D p q) a.log b.log (count_all C p.body) a.size h5 in
      let e1 = symbols-value v 0 (sorts_of p.ins) ins f1 (carries_front v 0 ins (globals ++ (ins' ++ (globals' ++ logs))) h1) in
      let e2 = symbols-value v (0 + length p.ins) (sorts_of w.old.globals) globals f2 (carries_front v (0 + length p.ins) globals (ins' ++ (globals' ++ logs)) h2) in
      let e3 = symbols-value v (input_count w.old p) (sorts_of q.ins) ins' f3 (carries_front v (input_count w.old p) ins' (globals' ++ logs) h3) in
      let e4 = symbols-value v (input_count w.old p + length q.ins) (sorts_of w.new.globals) globals' f4 (carries_front v (input_count w.old p + length q.ins) globals' logs h4) in
      let x = (old_side C D p q).inputs in
      let y = (new_side C D p q).inputs in
      record {
        old_ins = e1;
        old_globals = e2;
        new_ins = e3;
        new_globals = e4;
        old_run = a.by v (first_call C D p q) x.slots x.globals (reads-meaning w.old M meaning.old v.symbol) (carries_front v (first_call C D p q) a.log b.log h5)
            (record { ins_sorted = symbols-sort 0 (sorts_of p.ins); globals_sorted = symbols-sort (0 + length p.ins) (sorts_of w.old.globals) }) e1 e2;
        new_run = b.by v (first_call C D p q + count_all C p.body) y.slots y.globals (reads-meaning w.new M meaning.new v.symbol) h6
            (record { ins_sorted = symbols-sort (input_count w.old p) (sorts_of q.ins); globals_sorted = symbols-sort (input_count w.old p + length q.ins) (sorts_of w.new.globals) }) e3 e4;
      }

-- the values of a side's end
ends-values : (v : Valuation) (P : CoreProgram) (calls : Calls) (p : CoreProc) (slots : List Tree) (s : State) (ins outs after : List Value) (flag : Bool) → map (value v) slots ≡ ins → IsRun P calls v p s outs after flag → map_store (value v) (exit slots (outs_of p s) s.store.globals) ≡ exit ins outs after
ends-values v P calls p slots s ins outs after flag e run =
    exit-values v slots (outs_of p s) s.store.globals ∙ (λ i. exit (e i) (run.tells.outs_are i) (run.tells.globals_are i))

-- ---- one step: what holds of the callees holds of the callers

module _ (adequate : RunsAreValuations) (w : Work) (z : Infallibles) (table : List Bool) (M : Meaning) (is : IsWork w z) (meaning : IsMeaning w M) (n m : ℕ) (callees : EachLive w table (HoldsOf w (calls_within (interpretation M) w.old.procs n) (calls_within (interpretation M) w.new.procs m))) where
  abbrev old_calls : Calls
  old_calls = calls_within (interpretation M) w.old.procs n

  abbrev new_calls : Calls
  new_calls = calls_within (interpretation M) w.new.procs m

  -- an unsatisfiable query under a valuation that is a run of both bodies
  claim-holds : (x : Claimed) (p q : CoreProc) (symbol : ℕ → Value) (ins globals ins' globals' outs after outs' after' : List Value) (flag flag' : Bool) →
      IsUnsatisfiable (facts_of w table x (old_side (old_context w z) (new_context w z) p q) (new_side (old_context w z) (new_context w z) p q)) →
      AreRuns w z old_calls new_calls (record { symbol = symbol; by = interpretation M }) p q ins globals ins' globals' outs after outs' after' flag flag' →
      all_hold x.pair.inputs (entry ins globals) (entry ins' globals') x.candidate.when ≡ true →
      claim_holds x.pair.outputs x.candidate.claim (exit ins outs after) flag (exit ins' outs' after') flag' ≡ true
  claim-holds x p q symbol ins globals ins' globals' outs after outs' after' flag flag' unsatisfiable runs when =
      let v : Valuation = record { symbol = symbol; by = interpretation M } in
      let a = old_side (old_context w z) (new_context w z) p q in
      let b = new_side (old_context w z) (new_context w z) p q in
      let claim = claim_holds x.pair.outputs x.candidate.claim (exit ins outs after) flag (exit ins' outs' after') flag' in
      let old_reads = reads-meaning w.old M meaning.old symbol in
      let new_reads = reads-meaning w.new M meaning.new symbol in
      let ea = ends-values v w.old old_calls p a.inputs.slots a.body ins outs after flag runs.old_ins runs.old_run in
      let eb = ends-values v w.new new_calls q b.inputs.slots b.body ins' outs' after' flag' runs.new_ins runs.new_run in
      let told : truth v (claim_of x a b) ≡ claim =
      claim-truth v x.pair.outputs x.candidate.claim a.ends a.body.flag b.ends b.body.flag
      ∙ (λ i. claim_holds x.pair.outputs x.candidate.claim (ea i) (runs.old_run.tells.flag_is i) (eb i) (runs.new_run.tells.flag_is i)) in
      let related = all_related table w.claims a.body.sites b.body.sites in
      let assumed = a.body.assumes ++ (b.body.assumes ++ related) in
      let known : MakesTrue v (premises_of w table x a b) =
      makes-append v (axioms_of w.old) (axioms_of w.new ++ (conditions_of x a b ++ assumed)) (axioms-true w.old M v old_reads is.old_formed meaning.old)
      (makes-append v (axioms_of w.new) (conditions_of x a b ++ assumed) (axioms-true w.new M v new_reads is.new_formed meaning.new)
      (makes-append v (conditions_of x a b) assumed
      (conditions-true v x.pair.inputs a.inputs b.inputs x.candidate.when
      ((λ i. all_hold x.pair.inputs (entry (runs.old_ins i) (runs.old_globals i)) (entry (runs.new_ins i) (runs.new_globals i)) x.candidate.when) ∙ when))
      (makes-append v a.body.assumes (b.body.assumes ++ related) (makes-all v a.body.assumes runs.old_run.assumes)
      (makes-append v b.body.assumes related (makes-all v b.body.assumes runs.new_run.assumes)
      (related-true w old_calls new_calls v table a.body.sites b.body.sites callees runs.old_run.sites runs.new_run.sites))))) in
      let facts = premises_of w table x a b ++ claim_of x a b ∷ [] in
      let denied = not_of (claim_of x a b) in
      split (claim ≡ true) claim (λ on. on)
      (λ off. absurd (unsatisfiable v
      (makes-append v (premises_of w table x a b) (apart facts w.old.uniques ++ (apart facts w.new.uniques ++ denied ∷ [])) known
      (makes-append v (apart facts w.old.uniques) (apart facts w.new.uniques ++ denied ∷ []) (apart-true w.old M v old_reads is.old_formed meaning.old facts)
      (makes-append v (apart facts w.new.uniques) (denied ∷ []) (apart-true w.new M v new_reads is.new_formed meaning.new facts)
      (true-value (value v denied) (not_truth v (claim_of x a b) ∙ ap not (told ∙ off)), tt))))))

  -- both procedures are there, since their runs end
  step-by : (x : Claimed) (o o' : Option CoreProc) → slice_get w.old.procs x.pair.old ≡ o → slice_get w.new.procs x.pair.new ≡ o' → IsUnsatisfiable (query_by w z table x o o') →
      (ins globals ins' globals' outs after outs' after' : List Value) (flag flag' : Bool) →
      InputsFit w.old x.pair.old ins globals → InputsFit w.new x.pair.new ins' globals' →
      run_number (interpretation M) old_calls o ins globals ≡ Ended outs after flag → run_number (interpretation M) new_calls o' ins' globals' ≡ Ended outs' after' flag' →
      all_hold x.pair.inputs (entry ins globals) (entry ins' globals') x.candidate.when ≡ true →
      claim_holds x.pair.outputs x.candidate.claim (exit ins outs after) flag (exit ins' outs' after') flag' ≡ true
  step-by x (Some p) (Some q) eo en unsatisfiable ins globals ins' globals' outs after outs' after' flag flag' fo fn ro rn when =
      let a = adequate (old_context w z) M is.old_formed meaning.old is.old_infallible n x.pair.old p eo ins globals outs after flag fo ro in
      let b = adequate (new_context w z) M is.new_formed meaning.new is.new_infallible m x.pair.new q en ins' globals' outs' after' flag' fn rn in
      let all = laid ins globals ins' globals' a.log b.log in
      claim-holds x p q (λ k. get_or all k (Truth false)) ins globals ins' globals' outs after outs' after' flag flag' unsatisfiable
      (one-valuation w z M meaning old_calls new_calls p q ins globals ins' globals' outs after outs' after' flag flag' (fo.ins_fit p eo) fo.globals_fit (fn.ins_fit q en) fn.globals_fit a b) when
  step-by x None o' eo en unsatisfiable ins globals ins' globals' outs after outs' after' flag flag' fo fn ro rn when = absurd (cc)
  step-by x (Some p) None eo en unsatisfiable ins globals ins' globals' outs after outs' after' flag flag' fo fn ro rn when = absurd (cc)

  step-holds : (x : Claimed) → IsUnsatisfiable (query_of w z table x) → HoldsOf w (calls_within (interpretation M) w.old.procs (suc n)) (calls_within (interpretation M) w.new.procs (suc m)) x
  unfolding query_of
  step-holds x unsatisfiable = step-by x (slice_get w.old.procs x.pair.old) (slice_get w.new.procs x.pair.new) refl refl unsatisfiable

-- ---- all bounds

within-hold : RunsAreValuations → (w : Work) (z : Infallibles) (table : List Bool) (M : Meaning) → IsWork w z → IsMeaning w M → IsSupported w z table → (n m : ℕ) → EachLive w table (HoldsOf w (calls_within (interpretation M) w.old.procs n) (calls_within (interpretation M) w.new.procs m))
within-hold adequate w z table M is meaning supported zero m = λ k x e on ins globals ins' globals' outs after outs' after' flag flag' a b ro rn when. absurd (cc)
within-hold adequate w z table M is meaning supported (suc n) zero = λ k x e on ins globals ins' globals' outs after outs' after' flag flag' a b ro rn when. absurd (cc)
within-hold adequate w z table M is meaning supported (suc n) (suc m) =
    λ k x e on. step-holds adequate w z table M is meaning n m (within-hold adequate w z table M is meaning supported n m) x (supported k x e on)

pub mutual_summaries_lem : RunsAreValuations → MutualSummaries
mutual_summaries_lem adequate w z table M is meaning supported n m = within-hold adequate w z table M is meaning supported (suc n) (suc m)
