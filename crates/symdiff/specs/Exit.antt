-- What the exit status tells.
use Rattle.std.specs.Prelude.{◌≡◌, ◌⊎◌, ℕ, List, [], map, Option, Result, Ok, Err, String, Vec, string_bytes}
use Rattle.sd_base.specs.Causes.{Rose}
use Rattle.sd_base.specs.Outside.{appended}
use Rattle.sd_run.specs.declared.running.CertificateFile.{CertificateFile}
use Rattle.sd_run.specs.Outcome.{Outcome}
use Rattle.sd_run.specs.Answer.{Answer, CertificateWriteRose}
use Rattle.sd_run.specs.Writing.{whole, FilesAfter, IsCutShort}
use Rattle.symdiff.specs.declared.NoWords.{NoWords}

-- the words that count: where one isn't text there are none
abbrev pub words_read : {A B : Type 0} → Result (Vec (String A) B) NoWords → List (List ℕ)
words_read (Ok words) = map string_bytes words.items
words_read (Err e) = []

-- The status is that of a row of the table of answers, and its certificate and its text were written whole.
pub record IsAnswered {D : Type 0} (words : List (List ℕ)) (status : ℕ) (content : D → List ℕ → Option (List ℕ))
    (old new : D) (before now : Option (List ℕ)) : Type 0 where
  pub outcome : Outcome
  pub is_status : outcome.status ≡ status
  pub answer : Answer words (content old) outcome
  pub files : FilesAfter content old new outcome.certificate (whole outcome.certificate)
  pub text : now ≡ appended before outcome.text

-- The writing of such a row was begun and cut short. The text is begun only where the certificate is whole.
pub record IsBegun {D : Type 0} (words : List (List ℕ)) (content : D → List ℕ → Option (List ℕ)) (old new : D)
    (before now : Option (List ℕ)) : Type 0 where
  pub outcome : Outcome
  pub answer : Answer words (content old) outcome
  pub file : CertificateFile
  pub files : FilesAfter content old new outcome.certificate file
  pub cut_short : IsCutShort outcome.certificate file outcome.text before now

-- The count of failed starts of the certificate's file rose, or that of failed appends to it, or that of the output.
abbrev pub WriteRose :
    {D : Type 0} → List (List ℕ) → (D → List ℕ → Option (List ℕ)) → (D → List ℕ → ℕ) → (D → List ℕ → ℕ) → D → D
    → ℕ → ℕ → Type 0
WriteRose words content starts appends old new before now =
    CertificateWriteRose words (content old) (starts old) (starts new)
    ⊎ (CertificateWriteRose words (content old) (appends old) (appends new) ⊎ Rose before now)
