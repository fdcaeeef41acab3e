-- That a replay confirms what was written as a certificate.
use Rattle.std.specs.Prelude.{◌≡◌, ◌↔◌, ℕ, List, [], ◌∷◌, Option, Some}
use Rattle.sd_base.specs.Value.{Text}
use Rattle.sd_run.specs.declared.verdict.PairVerdict.{PairVerdict}
use Rattle.sd_run.specs.declared.verdict.VerdictState.TheVariants.{Safe, Unknown, Unproved, Signature, UnmatchedRecursion}
use Rattle.sd_words.specs.Words.{Task, verify, replay, job_of}
use Rattle.sd_run.specs.Outcome.{Outcome}
use Rattle.sd_run.specs.Answer.{Answer}
use Rattle.sd_run.specs.OneAnswer.{IsKnown, IsReported}

-- the words name two files and what is to be done with their texts
abbrev pub NamesTask : List (List ℕ) → List ℕ → List ℕ → Task → Type 0
NamesTask words old new task = job_of words ≡ Some (record { old = old; new = new; task = task })

-- A verdict of a comparison and one of a replay are on the same procedures. One is safe exactly where the other is;
-- what is unknown in the first is unproved in the second; and both are refused for the same cause.
pub record AgreeOnPair (v w : PairVerdict) : Type 0 where
  pub old : w.old ≡ v.old
  pub new : w.new ≡ v.new
  pub equal : w.equal ≡ v.equal
  pub safe : (w.state ≡ Safe) ↔ (v.state ≡ Safe)
  pub unproved : (w.state ≡ Unproved) ↔ (v.state ≡ Unknown)
  pub signature : (w.state ≡ Signature) ↔ (v.state ≡ Signature)
  pub unmatched : (x : Text) → (w.state ≡ UnmatchedRecursion x) ↔ (v.state ≡ UnmatchedRecursion x)

-- verdict by verdict
abbrev pub Agree : List PairVerdict → List PairVerdict → Type 0
Agree [] [] = Unit {0}
Agree (v ∷ vs) (w ∷ ws) = AgreeOnPair v w × Agree vs ws
Agree _ _ = ⊥

-- The report of a replay has the status and the table of that of a comparison, and its verdicts agree.
pub record Confirms (p o : Outcome) : Type 0 where
  pub status : p.status ≡ o.status
  pub table : p.table ≡ o.table
  pub pairs : Agree o.pairs p.pairs

-- A certificate for this file is there. Wherever it is replayed on the same two texts, whatever the files are called,
-- there is an answer, and each answer confirms the report.
pub record IsConfirmed (known_old known_new : Option (List ℕ)) (file : List ℕ) (o : Outcome) : Type 0 where
  pub bytes : List ℕ
  pub written : o.certificate ≡ Some (file, bytes)
  pub replayed :
      (words : List (List ℕ)) (content : List ℕ → Option (List ℕ)) (old new certificate : List ℕ)
      → NamesTask words old new (replay certificate)
      → content old ≡ known_old
      → content new ≡ known_new
      → content certificate ≡ Some bytes
      → (p : Outcome) × Answer words content p × ((q : Outcome) → Answer words content q → Confirms q o)

-- Where two known texts are compared, a certificate is asked for and a report is answered, its replay confirms it.
abbrev pub WrittenIsReplayed : Type 0
WrittenIsReplayed =
    (words : List (List ℕ)) (content : List ℕ → Option (List ℕ)) (o : Outcome) (old new file : List ℕ)
    (workers leaves : ℕ)
    → NamesTask words old new (verify workers leaves (Some file))
    → IsKnown (content old)
    → IsKnown (content new)
    → Answer words content o
    → IsReported o
    → IsConfirmed (content old) (content new) file o
