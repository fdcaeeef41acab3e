-- What was written.
use Rattle.std.specs.Prelude.{◌≡◌, ◌⊎◌, ℕ, List, [], Option, None, Some, length, take}
use Rattle.sd_base.specs.Causes.{Rose}
use Rattle.sd_base.specs.Outside.{appended, emptied, AllStay, OthersStay}
use Rattle.sd_run.specs.declared.running.Ended.{Ended}
use Rattle.sd_run.specs.declared.running.CertificateFile.{CertificateFile}
use Rattle.sd_run.specs.declared.running.CertificateFile.TheVariants.{Untouched, NotStarted, Cut, Whole}
use Rattle.sd_run.specs.Outcome.{Outcome}

-- what a run came to that wrote this text, with what it tells of the pairs, and this certificate
abbrev pub outcome : ℕ → List ℕ → Option (List ℕ × List ℕ) → Ended → Outcome
outcome status text certificate e =
    record {
      status = status;
      text = text;
      pairs = e.pairs.items;
      table = e.table.items;
      deaths = e.deaths.items;
      certificate = certificate;
    }

-- the length of a certificate, if there is one
abbrev pub certificate_size : Option (List ℕ × List ℕ) → ℕ
certificate_size None = 0
certificate_size (Some file) = length file.1

-- a certificate that is there was written whole
abbrev pub whole : Option (List ℕ × List ℕ) → CertificateFile
whole None = Untouched
whole (Some file) = Whole

-- nothing is said of pairs, and no certificate was to be written
pub record SaysNothing (e : Ended) : Type 0 where
  pub no_pair : e.pairs.items ≡ []
  pub no_word : e.table.items ≡ []
  pub no_death : e.deaths.items ≡ []
  pub no_certificate : e.certificate_length ≡ 0
  pub no_file : e.certificate_file ≡ Untouched

-- the certificate couldn't be written whole
abbrev pub IsBroken : CertificateFile → Type 0
IsBroken NotStarted = Unit {0}
IsBroken Cut = Unit {0}
IsBroken _ = ⊥

-- What the files hold. All others stay. Where the start failed nothing is said of the certificate's own.
abbrev pub FilesAfter :
    {D : Type 0} → (D → List ℕ → Option (List ℕ)) → D → D → Option (List ℕ × List ℕ) → CertificateFile → Type 0
FilesAfter content old new certificate Untouched = AllStay content old new
FilesAfter content old new None _ = ⊥
FilesAfter content old new (Some file) NotStarted = OthersStay content old new file.0
FilesAfter content old new (Some file) Cut =
    OthersStay content old new file.0
    × ((count : ℕ) × (content new file.0 ≡ appended (emptied (content old file.0)) (take count file.1)))
FilesAfter content old new (Some file) Whole =
    OthersStay content old new file.0 × (content new file.0 ≡ appended (emptied (content old file.0)) file.1)

-- the count of the certificate's file rose
abbrev pub FileRose : Option (List ℕ × List ℕ) → (List ℕ → ℕ) → (List ℕ → ℕ) → Type 0
FileRose None before now = ⊥
FileRose (Some file) before now = Rose (before file.0) (now file.0)

-- The writing was cut short: that of the certificate, and then nothing of the text was written; or that of the text,
-- and then the certificate is whole.
abbrev pub IsCutShort : Option (List ℕ × List ℕ) → CertificateFile → List ℕ → Option (List ℕ) → Option (List ℕ) → Type 0
IsCutShort certificate file text before now =
    (IsBroken file × (now ≡ before))
    ⊎ ((file ≡ whole certificate) × ((count : ℕ) × (now ≡ appended before (take count text))))
