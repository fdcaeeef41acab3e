-- What a comparison of two programs tells of their runs.
use Rattle.std.proofs.Common.{◌≡◌, sym, subst, ℕ, List}
use Rattle.std.specs.Prelude.{Option, Result, Ok}
use Rattle.std.specs.List.{AllByRecursion}
use Rattle.std.proofs.lemmas.Option.{slice_get_within}
use Rattle.sd_base.proofs.Lists.{all-weaker}
use Rattle.sd_ast.specs.declared.Program.{Program}
use Rattle.sd_parse.specs.declared.answer.ReadError.{ReadError}
use Rattle.sd_parse.proofs.AnswerLaws.{one_answer}
use Rattle.sd_core.specs.Failure.{NewFailureOf}
use Rattle.sd_extract.specs.Propositional.{IsPropositionalProgram}
use Rattle.sd_extract.specs.Programs.{core_program}
use Rattle.sd_extract.proofs.FormedPrograms.{extracted_formed}
use Rattle.sd_extract.proofs.Propositional.{propositional_kept}
use Rattle.sd_cand.specs.Candidates.{equal_inputs}
use Rattle.sd_product.specs.Query.{Claimed}
use Rattle.sd_product.specs.Work.{AreWellFormed, claims_in}
use Rattle.sd_product.specs.Judged.{IsFlagAt, LiveFlagsAreSafe, OpenFlagsAreFailures}
use Rattle.sd_product.proofs.JudgedLemmas.{live-flags-safe, open-flags-fail}
use Rattle.sd_product.proofs.EqualInputs.{no_new_failure_lem}
use Rattle.sd_product.proofs.Mutual.{mutual_summaries_lem}
use Rattle.sd_product.proofs.FailureLemmas.{open-cubes-fail, valuations-fail}
use Rattle.sd_runs.proofs.Keeps.{runs_keep_within}
use Rattle.sd_runs.proofs.InfallibleRuns.{infallible_runs_within}
use Rattle.sd_vcgen.proofs.Runs.{runs-are-valuations}
use Rattle.sd_vcgen.proofs.Valuations.{valuations-are-runs}
use Rattle.sd_run.specs.declared.verdict.PairVerdict.{PairVerdict}
use Rattle.sd_run.specs.declared.verdict.Otherwise.{Otherwise}
use Rattle.sd_run.specs.declared.verdict.Otherwise.TheVariants as otherwise
use Rattle.sd_run.specs.TextRefusals.{IsAccepted}
use Rattle.sd_run.specs.Texts.{Texts, programs_of}
use Rattle.sd_rounds.specs.declared.settle.Death.{Death}
use Rattle.sd_run.specs.Outcome.{Outcome, IsComparison, IsReplay}
use Rattle.sd_run.specs.Verdicts.{NoNewFailure, AreNewFailures}
use Rattle.sd_run.proofs.Settling.{IsOpenAt, dead_open}
use Rattle.sd_run.proofs.VerdictLemmas.{IsRight, all_right}

-- a text is accepted as one program
pub one_accepted : (bytes : List ℕ) (P Q : Program) → IsAccepted bytes P → IsAccepted bytes Q → P ≡ Q
one_accepted bytes P Q p q =
    let same : ◌≡◌ {A = Result Program ReadError} (Ok P) (Ok Q) = one_answer bytes (Ok P) (Ok Q) p.read q.read (λ e. cc) (λ e. cc) in cc

live_safe : LiveFlagsAreSafe
live_safe = live-flags-safe (no_new_failure_lem (mutual_summaries_lem (runs-are-valuations runs_keep_within infallible_runs_within)))

open_fails : OpenFlagsAreFailures
open_fails = open-flags-fail (open-cubes-fail (valuations-fail valuations-are-runs))

module _ (t : Texts) (old_read : IsAccepted t.old_bytes t.old) (new_read : IsAccepted t.new_bytes t.new) where
  abbrev AreRight : List Death → List PairVerdict → Type 0
  AreRight deaths vs = AllByRecursion (IsRight t.old t.new deaths) vs

  well_formed : AreWellFormed (programs_of t)
  well_formed = record { old_formed = extracted_formed t.old old_read.typed; new_formed = extracted_formed t.new new_read.typed }

  failed : IsPropositionalProgram t.old → IsPropositionalProgram t.new → (n : ℕ) (x : Claimed) → IsFlagAt (programs_of t) n x → x.candidate.when ≡ equal_inputs x.pair → IsOpenAt (programs_of t) n → NewFailureOf (core_program t.old) (core_program t.new) x.pair.old x.pair.new
  failed old new n x at when o =
      open_fails (programs_of t) o.seen n x o.facts o.cube well_formed (propositional_kept t.old old_read.typed old) (propositional_kept t.new new_read.typed new) at when o.query o.«open»

  pub compared_right : (leaves : ℕ) (name : Option (List ℕ)) (o : Outcome) → IsComparison leaves name t o → AreRight o.deaths o.pairs
  compared_right leaves name o c =
      subst (AreRight o.deaths) (sym c.is_report.verdicts)
      (all_right t.old t.new old_read.typed new_read.typed otherwise.Unknown c.live o.deaths
      (λ n x. live_safe (programs_of t) c.live c.proofs n x well_formed c.settled.inductive)
      (λ is old new n x at when dead unspent. failed old new n x at when (dead_open leaves (programs_of t) c.live o.deaths c.proofs c.settled n (slice_get_within (claims_in (programs_of t)) n x at.at) dead unspent))
      c.settled.size)

  pub replayed_right : (bytes : List ℕ) (o : Outcome) → IsReplay bytes t o → AreRight o.deaths o.pairs
  replayed_right bytes o r =
      subst (AreRight o.deaths) (sym r.is_report.verdicts)
      (all_right t.old t.new old_read.typed new_read.typed otherwise.Unproved r.live o.deaths
      (λ n x. live_safe (programs_of t) r.live _ n x well_formed r.accepted.inductive)
      (λ is. absurd (let bad : ◌≡◌ {A = Otherwise} otherwise.Unproved otherwise.Unknown = is in cc))
      r.accepted.size)

  -- no safe pair has a new failure
  pub right_safe : (deaths : List Death) (pairs : List PairVerdict) → AreRight deaths pairs → NoNewFailure t.old t.new pairs
  right_safe deaths pairs a = all-weaker (IsRight t.old t.new deaths) (λ v. _) (λ v r. r.0) pairs a

  -- an unknown pair has one, without calls and loops
  pub right_unknown : (deaths : List Death) (pairs : List PairVerdict) → AreRight deaths pairs → IsPropositionalProgram t.old → IsPropositionalProgram t.new → AreNewFailures t.old t.new deaths pairs
  right_unknown deaths pairs a old new = all-weaker (IsRight t.old t.new deaths) (λ v. _) (λ v r is none. r.1 is old new none) pairs a
