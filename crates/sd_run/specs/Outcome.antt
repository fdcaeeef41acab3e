-- What a job comes to.
use Rattle.std.specs.Prelude.{◌≡◌, ◌≢◌, ◌≤◌, ℕ, Bool, List, [], length, Option, None, Some, if◌then◌else◌}
use Rattle.std.specs.List.{list_all}
use Rattle.sd_cand.specs.Words.{words_of}
use Rattle.sd_kernel.specs.declared.proved.Proved.{Proved}
use Rattle.sd_product.specs.Work.{pairs_in}
use Rattle.sd_rounds.specs.declared.settle.Death.{Death}
use Rattle.sd_rounds.specs.Settled.{IsSettled}
use Rattle.sd_cert.specs.declared.fault.CertError.{CertError}
use Rattle.sd_cert.specs.declared.fault.CertError.TheVariants.{NoMemory}
use Rattle.sd_cert.specs.Accepts.{Accepts}
use Rattle.sd_cert.specs.ReplayFaults.{IsReplayFault}
use Rattle.sd_run.specs.declared.verdict.PairVerdict.{PairVerdict}
use Rattle.sd_run.specs.declared.verdict.Otherwise.{Otherwise}
use Rattle.sd_run.specs.declared.verdict.Otherwise.TheVariants.{Unknown, Unproved}
use Rattle.sd_run.specs.Texts.{Texts, programs_of, digests_of}
use Rattle.sd_run.specs.Verdicts.{verdicts_of}
use Rattle.sd_run.specs.Report.{report, is_safe}

-- the status, the text that is written, what is said of the pairs, and a certificate: the name of its file and its text
pub record Outcome : Type 0 where
  pub status : ℕ
  pub text : List ℕ
  pub pairs : List PairVerdict
  pub table : List ℕ
  pub deaths : List Death
  pub certificate : Option (List ℕ × List ℕ)

-- nothing is said of pairs
abbrev pub message : ℕ → List ℕ → Outcome
message status text = record { status = status; text = text; pairs = []; table = []; deaths = []; certificate = None }

-- 0 where every pair is safe, else 1
abbrev pub status_of : List PairVerdict → ℕ
status_of verdicts = if list_all (λ v. is_safe v.state) verdicts then 0 else 1

-- The report on two texts from a table of live candidates, whose words are shown: each verdict is what the table says.
pub record IsReport (otherwise : Otherwise) (t : Texts) (live : List Bool) (o : Outcome) : Type 0 where
  pub verdicts :
      o.pairs ≡ verdicts_of otherwise (programs_of t) (pairs_in (programs_of t)) live
  pub words : o.table ≡ words_of live
  pub status : o.status ≡ status_of o.pairs
  pub text : o.text ≡ report (programs_of t).old (programs_of t).new o.pairs

-- a certificate is there where a file is named for it, shows this table, and doesn't pass the limit of a replay
abbrev pub IsCertified : Texts → List Bool → Option (List ℕ) → Option (List ℕ × List ℕ) → Type 0
IsCertified t live None None = Unit {0}
IsCertified t live (Some name) (Some file) =
    (file.0 ≡ name) × Accepts (programs_of t) (digests_of t) file.1 live × (length file.1 ≤ 9223372036854775807)
IsCertified t live _ _ = ⊥

-- Two texts were compared, by searches that may close so many cubes: each live candidate has a proof, and each other
-- one died lawfully.
pub record IsComparison (leaves : ℕ) (name : Option (List ℕ)) (t : Texts) (o : Outcome) : Type 0 where
  pub live : List Bool
  pub proofs : List Proved
  pub settled : IsSettled leaves (programs_of t) live o.deaths proofs
  pub is_report : IsReport Unknown t live o
  pub certified : IsCertified t live name o.certificate

-- a certificate of two texts was replayed
pub record IsReplay (bytes : List ℕ) (t : Texts) (o : Outcome) : Type 0 where
  pub live : List Bool
  pub accepted : Accepts (programs_of t) (digests_of t) bytes live
  pub is_report : IsReport Unproved t live o
  pub no_death : o.deaths ≡ []
  pub no_certificate : o.certificate ≡ None

-- these bytes are no certificate of two texts, because of this fault
pub record IsRefused (bytes : List ℕ) (t : Texts) (e : CertError) : Type 0 where
  pub fault : IsReplayFault (programs_of t) (digests_of t) bytes e
  pub named : e ≢ NoMemory
  pub none : (live : List Bool) → Accepts (programs_of t) (digests_of t) bytes live → ⊥
