-- What the end of a run tells of the exit status.
use Rattle.std.proofs.Common.{◌≡◌, ◌≢◌, ◌∙◌, sym, ap, subst, refl, ℕ, List, inl, inr}
use Rattle.std.specs.Prelude.{Option, None, Some, Result, Ok, String, Vec, map, string_bytes}
use Rattle.std.proofs.lemmas.Bool.Decides.{eqb_tells}
use Rattle.sd_base.specs.Causes.{Rose}
use Rattle.sd_base.specs.Outside.{appended}
use Rattle.sd_run.specs.declared.running.Ended.{Ended}
use Rattle.sd_run.specs.declared.running.CertificateFile.{CertificateFile}
use Rattle.sd_run.specs.declared.running.CertificateFile.TheVariants.{Untouched, NotStarted, Cut, Whole}
use Rattle.sd_run.specs.Answer.{Answer, CertificateWriteRose}
use Rattle.sd_run.specs.Writing.{outcome, certificate_size, whole, IsBroken, FilesAfter, IsCutShort, SaysNothing}
use Rattle.symdiff.specs.declared.NoWords.{NoWords}
use Rattle.symdiff.specs.Exit.{words_read, IsAnswered, IsBegun, WriteRose}

whole_unbroken : (certificate : Option (List ℕ × List ℕ)) → IsBroken (whole certificate) → ⊥
whole_unbroken None bad = bad
whole_unbroken (Some file) bad = bad

module _ {D : Type 0} (words : List (List ℕ)) (content : D → List ℕ → Option (List ℕ)) (old new : D) (before now : Option (List ℕ)) (e : Ended) where
  -- the run ended with a row of the table of answers
  abbrev IsRow : ℕ → Type 0
  IsRow status =
      (text : List ℕ) × (certificate : Option (List ℕ × List ℕ)) × Answer words (content old) (outcome status text certificate e)
      × (e.certificate_length ≡ certificate_size certificate) × (e.certificate_file ≡ whole certificate)
      × FilesAfter content old new certificate e.certificate_file × (now ≡ appended before text)

  -- or within the writing of one
  abbrev IsCutRow : Type 0
  IsCutRow =
      (code : ℕ) × (text : List ℕ) × (certificate : Option (List ℕ × List ℕ)) × Answer words (content old) (outcome code text certificate e)
      × (e.certificate_length ≡ certificate_size certificate) × FilesAfter content old new certificate e.certificate_file
      × IsCutShort certificate e.certificate_file text before now

  pub answered : (status : ℕ) → IsRow status → IsAnswered words status content old new before now
  answered status (text, certificate, answer, size, file, files, written) = record {
    outcome = outcome status text certificate e;
    is_status = refl;
    answer = answer;
    files = subst (λ (f : CertificateFile). FilesAfter content old new certificate f) file files;
    text = written;
  }

  pub begun : IsCutRow → IsBegun words content old new before now
  begun (code, text, certificate, answer, size, files, cut) = record {
    outcome = outcome code text certificate e;
    answer = answer;
    file = e.certificate_file;
    files = files;
    cut_short = cut;
  }

  -- with other statuses than 6 and 7 the certificate isn't broken
  pub unbroken : (status : ℕ) → status ≢ 6 → status ≢ 7 → (status ≢ 6 → status ≢ 7 → status ≢ 8 → IsRow status) → (status ≡ 8 → SaysNothing e) → IsBroken e.certificate_file → ⊥
  unbroken status six seven row silent bad = elim (eqb_tells status 8) [
    | inl is ↦ subst (λ (f : CertificateFile). IsBroken f) (silent is.1).no_file bad
    | inr not ↦ let (text, certificate, answer, size, file, files, written) = row six seven not.1 in whole_unbroken certificate (subst (λ (f : CertificateFile). IsBroken f) file bad)
  ]

module _ {D : Type 0} (words : List (List ℕ)) (content : D → List ℕ → Option (List ℕ)) (starts appends : D → List ℕ → ℕ) (old new : D) (before now : ℕ) where
  pub write_rose : (file : CertificateFile)
      → (file ≡ NotStarted → CertificateWriteRose words (content old) (starts old) (starts new)) × (file ≡ Cut → CertificateWriteRose words (content old) (appends old) (appends new)) × ((IsBroken file → ⊥) → Rose before now)
      → WriteRose words content starts appends old new before now
  write_rose NotStarted r = inl (r.0 refl)
  write_rose Cut r = inr (inl (r.1 refl))
  write_rose Untouched r = inr (inr (r.2 (λ bad. bad)))
  write_rose Whole r = inr (inr (r.2 (λ bad. bad)))

-- ---- words

-- the words that were collected are those that count
pub words-known : {A B : Type 0} (collected : Result (Vec (String A) B) NoWords) (words : Vec (String A) B) (all : List (String A)) → collected ≡ Ok words → all ≡ words.items → map string_bytes all ≡ words_read collected
words-known collected words all is same = ap (map string_bytes) same ∙ sym (ap words_read is)
