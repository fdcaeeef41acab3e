-- What is said of pairs, in plain words.
use Rattle.std.specs.Prelude.{◌≡◌, ◌≤◌, ◌⊎◌, ◌↔◌, ℕ, suc, ◌+◌, Bool, true, false, List, [], ◌∷◌, length, Some, None, slice_get}
use Rattle.sd_core.specs.declared.CoreProc.{CoreProc}
use Rattle.sd_match.specs.declared.pair.PairState.TheVariants as pair_state
use Rattle.sd_match.specs.declared.pair.Pair.{Pair}
use Rattle.sd_base.specs.Value.{Text}
use Rattle.sd_cand.specs.declared.candidate.Claim.TheVariants.{Flag}
use Rattle.sd_cand.specs.declared.candidate.Candidate.{Candidate}
use Rattle.sd_cand.specs.Candidates.{equal_inputs}
use Rattle.sd_product.specs.Work.{PairedPrograms, pairs_in, candidates_in_pair}
use Rattle.sd_product.specs.Bodies.{count_before}
use Rattle.sd_run.specs.declared.verdict.PairVerdict.{PairVerdict}
use Rattle.sd_run.specs.declared.verdict.VerdictState.TheVariants.{Safe, Signature, UnmatchedRecursion}
use Rattle.sd_run.specs.declared.verdict.Otherwise.{Otherwise}
use Rattle.sd_run.specs.Verdicts.{said, verdicts_of}

-- The candidate claims that the new procedure fails only where the old one does at equal inputs, or at all.
abbrev pub ClaimsNoNewFailure : Pair → Candidate → Type 0
ClaimsNoNewFailure pair c = (c.claim ≡ Flag) × ((c.when ≡ []) ⊎ (c.when ≡ equal_inputs pair))

-- A live candidate of pair i claims it. The candidates of all pairs are numbered through.
pub record HasLiveClaim (work : PairedPrograms) (live : List Bool) (i : ℕ) (pair : Pair) : Type 0 where
  pub place : ℕ
  pub candidate : Candidate
  pub is : slice_get (candidates_in_pair work pair) place ≡ Some candidate
  pub claims : ClaimsNoNewFailure pair candidate
  pub is_live : slice_get live (count_before work i + place) ≡ Some true

-- the pair is of these two procedures, which are no loops
pub record IsOfProcedures (work : PairedPrograms) (pair : Pair) (old new : CoreProc) : Type 0 where
  pub old_is : slice_get work.old.procs pair.old ≡ Some old
  pub new_is : slice_get work.new.procs pair.new ≡ Some new
  pub no_loop : old.parent ≡ None

-- What is said of pair i: it is safe exactly where it has a live claim; else why it couldn't be judged, or the other
-- word. Its outputs are never said to be equal.
pub record IsVerdict (o : Otherwise) (work : PairedPrograms) (live : List Bool) (i : ℕ) (pair : Pair) (v : PairVerdict)
    : Type 0 where
  pub old : CoreProc
  pub new : CoreProc
  pub procedures : IsOfProcedures work pair old new
  pub old_name : v.old ≡ old.name
  pub new_name : v.new ≡ new.name
  pub equal : v.equal ≡ false
  pub safe : (v.state ≡ Safe) ↔ HasLiveClaim work live i pair
  pub unsafe : pair.state ≡ pair_state.Open → (HasLiveClaim work live i pair → ⊥) → v.state ≡ said o
  pub signature : pair.state ≡ pair_state.Signature → v.state ≡ Signature
  pub unmatched : (x : Text) → pair.state ≡ pair_state.UnmatchedRecursion x → v.state ≡ UnmatchedRecursion x

-- The verdicts from pair i on: one for each pair of procedures, in order, and none for a pair of loops.
pub data AreVerdicts (o : Otherwise) (work : PairedPrograms) (live : List Bool) : ℕ → List PairVerdict → Type 0 where
  none : (i : ℕ) → length (pairs_in work) ≤ i → AreVerdicts o work live i []
  loops : (i : ℕ) (pair : Pair) (vs : List PairVerdict)
      → slice_get (pairs_in work) i ≡ Some pair
      → ((old new : CoreProc) → IsOfProcedures work pair old new → ⊥)
      → AreVerdicts o work live (suc i) vs
      → AreVerdicts o work live i vs
  procedures : (i : ℕ) (pair : Pair) (v : PairVerdict) (vs : List PairVerdict)
      → slice_get (pairs_in work) i ≡ Some pair
      → IsVerdict o work live i pair v
      → AreVerdicts o work live (suc i) vs
      → AreVerdicts o work live i (v ∷ vs)

-- The verdicts of a report are these.
abbrev pub VerdictsArePlain : Type 0
VerdictsArePlain =
    (o : Otherwise) (work : PairedPrograms) (live : List Bool)
    → AreVerdicts o work live 0 (verdicts_of o work (pairs_in work) live)
