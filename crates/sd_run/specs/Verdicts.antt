-- What is said of each pair of procedures, from the table. `PlainVerdicts` says it in plain words.
use Rattle.std.specs.Prelude.{◌≡◌, Bool, true, false, ◌&&◌, ◌||◌, List, [], ◌∷◌, ◌++◌, length, drop, Option, Some, is_some, slice_get, Contains, if◌then◌else◌}
use Rattle.std.specs.List.{AllByRecursion}
use Rattle.sd_ast.specs.declared.Program.{Program}
use Rattle.sd_meaning.specs.NewFailure.{NewFailure}
use Rattle.sd_core.specs.declared.CoreProc.{CoreProc}
use Rattle.sd_match.specs.declared.pair.PairState.{PairState}
use Rattle.sd_match.specs.declared.pair.PairState.TheVariants as pair_state
use Rattle.sd_match.specs.declared.pair.Pair.{Pair}
use Rattle.sd_cand.specs.declared.candidate.Claim.{Claim}
use Rattle.sd_cand.specs.declared.candidate.Claim.TheVariants.{Flag}
use Rattle.sd_cand.specs.declared.candidate.Candidate.{Candidate}
use Rattle.sd_base.specs.Value.{Text}
use Rattle.sd_extract.specs.Programs.{core_program}
use Rattle.sd_product.specs.Query.{Claimed}
use Rattle.sd_product.specs.Work.{PairedPrograms, candidates_in_pair, claims_in}
use Rattle.sd_run.specs.Texts.{core_programs}
use Rattle.sd_rounds.specs.declared.settle.Cause.{Cause}
use Rattle.sd_rounds.specs.declared.settle.Cause.TheVariants.{Spent}
use Rattle.sd_rounds.specs.declared.settle.Death.{Death}
use Rattle.sd_run.specs.declared.verdict.PairVerdict.{PairVerdict}
use Rattle.sd_run.specs.declared.verdict.VerdictState.{VerdictState}
use Rattle.sd_run.specs.declared.verdict.VerdictState.TheVariants.{Safe, Unknown, Unproved, Signature, UnmatchedRecursion}
use Rattle.sd_run.specs.declared.verdict.Otherwise.{Otherwise}
use Rattle.sd_run.specs.declared.verdict.Otherwise.TheVariants as otherwise

abbrev pub is_flag : Claim → Bool
is_flag Flag = true
is_flag _ = false

-- whether a claim on the flags is live, in a table that begins with these candidates
abbrev pub flag_live : List Candidate → List Bool → Bool
flag_live [] table = false
flag_live (c ∷ cs) [] = false
flag_live (c ∷ cs) (live ∷ table) = (is_flag c.claim && live) || flag_live cs table

abbrev pub said : Otherwise → VerdictState
said otherwise.Unknown = Unknown
said otherwise.Unproved = Unproved

-- A pair that isn't refused is safe where a claim on the flags is live.
abbrev pub state_of : Otherwise → PairState → Bool → VerdictState
state_of o pair_state.Open live = if live then Safe else said o
state_of o pair_state.Signature live = Signature
state_of o (pair_state.UnmatchedRecursion x) live = UnmatchedRecursion x

-- the verdict of a pair of procedures; a pair of loops has none
abbrev pub verdict_by : Otherwise → Pair → Bool → Option CoreProc → Option CoreProc → List PairVerdict
verdict_by o pair live (Some p) (Some q) =
    if is_some p.parent then [] else record {
      old = p.name;
      new = q.name;
      state = state_of o pair.state live;
      equal = false;
    } ∷ []
verdict_by o pair live _ _ = []

abbrev pub verdict_of : Otherwise → PairedPrograms → Pair → Bool → List PairVerdict
verdict_of o work pair live =
    verdict_by o pair live (slice_get work.old.procs pair.old) (slice_get work.new.procs pair.new)

-- the verdicts of pairs, of which the table has the candidates one after another
abbrev pub verdicts_of : Otherwise → PairedPrograms → List Pair → List Bool → List PairVerdict
verdicts_of o work [] table = []
verdicts_of o work (pair ∷ pairs) table =
    verdict_of o work pair (flag_live (candidates_in_pair work pair) table)
    ++ verdicts_of o work pairs (drop (length (candidates_in_pair work pair)) table)

-- no pair that is said to be safe has a new failure
abbrev pub NoNewFailure : Program → Program → List PairVerdict → Type 0
NoNewFailure P Q verdicts = AllByRecursion (λ v. v.state ≡ Safe → NewFailure P Q v.old v.new → ⊥) verdicts

abbrev pub is_spent : Cause → Bool
is_spent (Spent leaves) = true
is_spent _ = false

-- a candidate of the two procedures with these names died because the search for its proof was spent
pub record IsSpentPair (P Q : Program) (deaths : List Death) (f g : Text) : Type 0 where
  pub death : Death
  pub died : Contains deaths death
  pub spent : is_spent death.cause ≡ true
  pub claim : Claimed
  pub claim_is : slice_get (claims_in (core_programs P Q)) death.candidate ≡ Some claim
  pub old : CoreProc
  pub old_is : slice_get (core_program P).procs claim.pair.old ≡ Some old
  pub old_name : old.name ≡ f
  pub new : CoreProc
  pub new_is : slice_get (core_program Q).procs claim.pair.new ≡ Some new
  pub new_name : new.name ≡ g

-- each pair that is said to be unknown, though no search for a candidate of it was spent, has one
abbrev pub AreNewFailures : Program → Program → List Death → List PairVerdict → Type 0
AreNewFailures P Q deaths verdicts =
    AllByRecursion (λ v. v.state ≡ Unknown → (IsSpentPair P Q deaths v.old v.new → ⊥)
    → NewFailure P Q v.old v.new) verdicts
