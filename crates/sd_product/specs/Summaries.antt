-- The law of mutual summaries.
use Rattle.std.specs.Prelude.{◌≡◌, ℕ, Bool, true, List, Some, None, slice_get}
use Rattle.std.specs.List.{AllByRecursion}
use Rattle.sd_base.specs.Value.{Value}
use Rattle.sd_base.specs.Meaning.{Meaning, interpretation}
use Rattle.sd_core.specs.declared.CoreProc.{CoreProc}
use Rattle.sd_core.specs.Run.{Calls, Ended, flag_run}
use Rattle.sd_core.specs.Formed.{WellFormed}
use Rattle.sd_core.specs.Meanings.{IsMeaningOf}
use Rattle.sd_core.specs.Failure.{NewFailureOf}
use Rattle.sd_runs.specs.Infallible.{IsInfallibleSet}
use Rattle.sd_term.specs.declared.build.Kind.TheVariants as kind
use Rattle.sd_term.specs.Truth.{IsUnsatisfiable}
use Rattle.sd_match.specs.Pairs.{same_types, inputs_of}
use Rattle.sd_cand.specs.declared.candidate.Claim.TheVariants.{Flag}
use Rattle.sd_vcgen.specs.Laws.{InputsFit}
use Rattle.sd_product.specs.Relations.{entry, exit, all_hold, claim_holds}
use Rattle.sd_product.specs.Query.{Claimed, Work, Infallibles, is_live, query_of}

-- The candidate holds of all ended runs of its pair: where its conditions hold of their inputs, its claim holds of
-- their ends.
abbrev pub HoldsOf : Work → Calls → Calls → Claimed → Type 0
HoldsOf w old new x =
    (ins globals ins' globals' outs after outs' after' : List Value) (flag flag' : Bool) →
    InputsFit w.old x.pair.old ins globals → InputsFit w.new x.pair.new ins' globals' →
    old x.pair.old ins globals ≡ Ended outs after flag → new x.pair.new ins' globals' ≡ Ended outs' after' flag' →
    all_hold x.pair.inputs (entry ins globals) (entry ins' globals') x.candidate.when ≡ true →
    claim_holds x.pair.outputs x.candidate.claim (exit ins outs after) flag (exit ins' outs' after') flag' ≡ true

-- so each live candidate
abbrev pub EachLive : Work → List Bool → (Claimed → Type 0) → Type 0
EachLive w table Q = (n : ℕ) (x : Claimed) → slice_get w.claims n ≡ Some x → is_live table n ≡ true → Q x

-- programs that can be compared, and their infallible procedures
pub record IsWork (w : Work) (z : Infallibles) : Type 0 where
  pub old_formed : WellFormed w.old
  pub new_formed : WellFormed w.new
  pub old_infallible : IsInfallibleSet w.old.procs z.old
  pub new_infallible : IsInfallibleSet w.new.procs z.new

-- a meaning of both programs
pub record IsMeaning (w : Work) (M : Meaning) : Type 0 where
  pub old : IsMeaningOf w.old M
  pub new : IsMeaningOf w.new M

-- No valuation makes the query of a live candidate true, under this same table.
abbrev pub IsSupported : Work → Infallibles → List Bool → Type 0
IsSupported w z table = EachLive w table (λ x. IsUnsatisfiable (query_of w z table x))

-- Mutual summaries: every live candidate of such a table holds, under every meaning and for all bounds of both sides
-- (Hawblitzel and others 2013).
abbrev pub MutualSummaries : Type 0
MutualSummaries =
    (w : Work) (z : Infallibles) (table : List Bool) (M : Meaning) → IsWork w z → IsMeaning w M →
    IsSupported w z table →
    (n m : ℕ) → EachLive w table (HoldsOf w (flag_run (interpretation M) w.old.procs n)
    (flag_run (interpretation M) w.new.procs m))

-- procedures of the texts whose inputs a pair compares
pub record IsRootPair (w : Work) (x : Claimed) : Type 0 where
  pub old : CoreProc
  pub new : CoreProc
  pub old_found : slice_get w.old.procs x.pair.old ≡ Some old
  pub new_found : slice_get w.new.procs x.pair.new ≡ Some new
  pub old_root : old.parent ≡ None
  pub new_root : new.parent ≡ None
  pub types : same_types old new ≡ true
  pub inputs : x.pair.inputs ≡ inputs_of w.old w.new old new

-- the claim on the flag, on no other condition than that inputs are equal
pub record IsFlagClaim (x : Claimed) : Type 0 where
  pub claim : x.candidate.claim ≡ Flag
  pub only_equal : AllByRecursion (λ r. r.kind ≡ kind.Eq) x.candidate.when

-- Where such a candidate is live, the new procedure has no failure that the old one lacks.
abbrev pub NoNewFailure : Type 0
NoNewFailure =
    (w : Work) (z : Infallibles) (table : List Bool) → IsWork w z → IsSupported w z table →
    (n : ℕ) (x : Claimed) → slice_get w.claims n ≡ Some x → is_live table n ≡ true → IsFlagClaim x → IsRootPair w x →
    NewFailureOf w.old w.new x.pair.old x.pair.new → ⊥
