-- What a run answers, and why.
use Rattle.std.specs.Prelude.{◌≡◌, ◌<◌, ◌≤◌, ℕ, List, Option, None, Some, length, codes}
use Rattle.sd_base.specs.Outside.{WhereKnown}
use Rattle.sd_base.specs.Causes.{Rose}
use Rattle.sd_ast.specs.declared.Program.{Program}
use Rattle.sd_extract.specs.Propositional.{IsPropositionalProgram}
use Rattle.sd_cert.specs.declared.fault.CertError.{CertError}
use Rattle.sd_words.specs.Words.{Task, verify, replay, JobNames, job_of}
use Rattle.sd_match.specs.Refusals.{Refusal}
use Rattle.sd_run.specs.Texts.{Holds, Texts, AreRead, AreMatched, clash_of}
use Rattle.sd_run.specs.declared.text.TextRefusal.{TextRefusal}
use Rattle.sd_run.specs.TextRefusals.{IsAccepted, IsTextRefusal, refusal_status, text_error}
use Rattle.sd_run.specs.Outcome.{Outcome, message, IsComparison, IsReplay, IsRefused}
use Rattle.sd_rounds.specs.declared.settle.Death.{Death}
use Rattle.sd_run.specs.Verdicts.{NoNewFailure, AreNewFailures}
use Rattle.sd_run.specs.Report.{usage_text, certificate_size}
use Rattle.sd_run.specs.MatchErrors.{match_error}
use Rattle.sd_run.specs.CertificateErrors.{certificate_error}
use Rattle.sd_run.specs.declared.verdict.PairVerdict.{PairVerdict}

-- what holds of the job that the words name, if they name one
abbrev pub ForJob : List (List ℕ) → (JobNames → Type 0) → Type 0
ForJob words P = (job : JobNames) → job_of words ≡ Some job → P job

-- A row for each answer, with its cause, its text, and what is said of the pairs. Nothing is said of files whose
-- content isn't known.
pub data Answer (words : List (List ℕ)) (content : List ℕ → Option (List ℕ)) (o : Outcome) : Type 0 where
  -- 2: the words name no job.
  no_job :
      job_of words ≡ None
      → o ≡ message 2 usage_text
      → Answer words content o
  -- 3 or 9: the old text is refused.
  old_refused :
      (job : JobNames) (r : TextRefusal)
      → job_of words ≡ Some job
      → WhereKnown (content job.old) (λ bytes. IsTextRefusal bytes r)
      → o ≡ message (refusal_status r) (text_error (codes "old") r)
      → Answer words content o
  -- 3 or 9: the old text is accepted, and the new one is refused.
  new_refused :
      (job : JobNames) (old : Program) (r : TextRefusal)
      → job_of words ≡ Some job
      → WhereKnown (content job.old) (λ bytes. IsAccepted bytes old)
      → WhereKnown (content job.new) (λ bytes. IsTextRefusal bytes r)
      → o ≡ message (refusal_status r) (text_error (codes "new") r)
      → Answer words content o
  -- 4: both texts are accepted, and both declare a name with two types.
  clashing :
      (job : JobNames) (t : Texts) (r : Refusal)
      → job_of words ≡ Some job
      → AreRead content job t
      → clash_of t ≡ Some r
      → o ≡ message 4 (match_error r)
      → Answer words content o
  -- 0 or 1: the two texts are compared.
  compared :
      (job : JobNames) (t : Texts) (workers leaves : ℕ) (name : Option (List ℕ))
      → job_of words ≡ Some job
      → job.task ≡ verify workers leaves name
      → AreMatched content job t
      → IsComparison leaves name t o
      → Answer words content o
  -- 9: the certificate passes its limit.
  too_long :
      (job : JobNames) (t : Texts) (name : List ℕ)
      → job_of words ≡ Some job
      → job.task ≡ replay name
      → AreMatched content job t
      → WhereKnown (content name) (λ bytes. 9223372036854775807 < length bytes)
      → o ≡ message 9 certificate_size
      → Answer words content o
  -- 5: the certificate is refused.
  certificate_refused :
      (job : JobNames) (t : Texts) (name bytes : List ℕ) (e : CertError)
      → job_of words ≡ Some job
      → job.task ≡ replay name
      → AreMatched content job t
      → Holds (content name) bytes
      → length bytes ≤ 9223372036854775807
      → IsRefused bytes t e
      → o ≡ message 5 (certificate_error e)
      → Answer words content o
  -- 0 or 1: the certificate is replayed.
  replayed :
      (job : JobNames) (t : Texts) (name bytes : List ℕ)
      → job_of words ≡ Some job
      → job.task ≡ replay name
      → AreMatched content job t
      → Holds (content name) bytes
      → length bytes ≤ 9223372036854775807
      → IsReplay bytes t o
      → Answer words content o

-- what holds of the two programs that the files of the job spell, where their content is known
abbrev pub ForPrograms : List (List ℕ) → (List ℕ → Option (List ℕ)) → (Program → Program → Type 0) → Type 0
ForPrograms words content P =
    ForJob words (λ job. WhereKnown (content job.old) (λ old_bytes. WhereKnown (content job.new) (λ new_bytes.
    (old new : Program) → IsAccepted old_bytes old → IsAccepted new_bytes new → P old new)))

-- The headline: no pair that is said to be safe has a new failure.
abbrev pub Headline : List (List ℕ) → (List ℕ → Option (List ℕ)) → List PairVerdict → Type 0
Headline words content pairs = ForPrograms words content (λ old new. NoNewFailure old new pairs)

-- Where the texts are over truth values, without calls and loops, each pair that is said to be unknown, though no
-- search for a candidate of it was spent, has a new failure.
abbrev pub UnknownIsFailure : List (List ℕ) → (List ℕ → Option (List ℕ)) → List Death → List PairVerdict → Type 0
UnknownIsFailure words content deaths pairs =
    ForPrograms words content (λ old new.
    IsPropositionalProgram old → IsPropositionalProgram new → AreNewFailures old new deaths pairs)

-- the count of a certificate that is to be read rose
abbrev pub CertificateRose : Task → (List ℕ → ℕ) → (List ℕ → ℕ) → Type 0
CertificateRose (verify workers leaves name) before now = ⊥
CertificateRose (replay name) before now = Rose (before name) (now name)

-- The words name a job, and the reading of one of its files failed: each file that comes before is as it has to be.
pub data ReadRose (words : List (List ℕ)) (content : List ℕ → Option (List ℕ)) (before now : List ℕ → ℕ) : Type 0 where
  -- the old file
  old_rose :
      (job : JobNames)
      → job_of words ≡ Some job
      → Rose (before job.old) (now job.old)
      → ReadRose words content before now
  -- the new file, where the old text is accepted
  new_rose :
      (job : JobNames) (old : Program)
      → job_of words ≡ Some job
      → WhereKnown (content job.old) (λ bytes. IsAccepted bytes old)
      → Rose (before job.new) (now job.new)
      → ReadRose words content before now
  -- the certificate, where both texts are accepted and can be compared
  certificate_rose :
      (job : JobNames) (t : Texts)
      → job_of words ≡ Some job
      → AreMatched content job t
      → CertificateRose job.task before now
      → ReadRose words content before now

-- The words name a file for the certificate, the report on both texts is due, and the writing of that file failed.
pub record CertificateWriteRose (words : List (List ℕ)) (content : List ℕ → Option (List ℕ)) (before now : List ℕ → ℕ)
    : Type 0 where
  pub job : JobNames
  pub named : job_of words ≡ Some job
  pub workers : ℕ
  pub leaves : ℕ
  pub name : List ℕ
  pub task : job.task ≡ verify workers leaves (Some name)
  pub texts : Texts
  pub matched : AreMatched content job texts
  pub rose : Rose (before name) (now name)
