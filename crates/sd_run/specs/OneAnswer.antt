-- That an input has one answer.
use Rattle.std.specs.Prelude.{◌≡◌, ◌⊎◌, ℕ, List, Option, Some}
use Rattle.sd_words.specs.Words.{Task, JobNames, verify, replay, job_of}
use Rattle.sd_run.specs.Outcome.{Outcome}
use Rattle.sd_run.specs.Answer.{Answer, ForJob}

abbrev pub IsKnown : Option (List ℕ) → Type 0
IsKnown content = (bytes : List ℕ) × (content ≡ Some bytes)

abbrev pub IsCertificateKnown : Task → (List ℕ → Option (List ℕ)) → Type 0
IsCertificateKnown (verify workers leaves name) content = Unit {0}
IsCertificateKnown (replay name) content = IsKnown (content name)

-- the content of each file that is to be read is known
abbrev pub AreKnown : List (List ℕ) → (List ℕ → Option (List ℕ)) → Type 0
AreKnown words content =
    ForJob words (λ job. IsKnown (content job.old) × IsKnown (content job.new) × IsCertificateKnown job.task content)

-- 0 or 1
abbrev pub IsReported : Outcome → Type 0
IsReported o = (o.status ≡ 0) ⊎ (o.status ≡ 1)

-- Two answers are the same, in the status and in every byte; or both are reports of a comparison, whose searches may
-- have gone apart.
pub data AreAlike (words : List (List ℕ)) (o p : Outcome) : Type 0 where
  same : o ≡ p → AreAlike words o p
  reports :
      (job : JobNames) (workers leaves : ℕ) (name : Option (List ℕ))
      → job_of words ≡ Some job
      → job.task ≡ verify workers leaves name
      → IsReported o
      → IsReported p
      → AreAlike words o p

-- Where the files are known, two answers to the same words are alike: they are the same, or both are reports.
abbrev pub OneAnswer : Type 0
OneAnswer =
    (words : List (List ℕ)) (content : List ℕ → Option (List ℕ)) (o p : Outcome) → AreKnown words content
    → Answer words content o → Answer words content p → AreAlike words o p
