-- How a run ends that came to a row of the table of answers.
use Rattle.std.proofs.Common.{◌≡◌, ◌∙◌, sym, ap, subst, refl, ℕ, ◌≤◌, Bool, true, false, List, take, arith, inl, inr}
use Rattle.std.specs.Prelude.{Option, None, Some, ◌⊎◌, ◌↔◌, IsTrue, if◌then◌else◌}
use Rattle.std.specs.List.{list_all}
use Rattle.sd_base.specs.Causes.{Rose}
use Rattle.sd_base.specs.Outside.{appended, emptied, AllStay}
use Rattle.sd_run.specs.declared.running.Ended.{Ended}
use Rattle.sd_run.specs.declared.running.CertificateFile.{CertificateFile}
use Rattle.sd_run.specs.declared.running.CertificateFile.TheVariants.{Untouched, NotStarted, Cut, Whole}
use Rattle.sd_run.specs.declared.text.TextRefusal.{TextRefusal}
use Rattle.sd_run.specs.TextRefusals.{refusal_status}
use Rattle.sd_words.specs.Words.{JobNames, verify, job_of}
use Rattle.sd_run.specs.Report.{is_safe}
use Rattle.sd_run.specs.Texts.{Texts, AreMatched}
use Rattle.sd_run.specs.Outcome.{Outcome, message, IsCertified}
use Rattle.sd_run.specs.Answer.{Answer, no_job, old_refused, new_refused, clashing, compared, too_long, certificate_refused, replayed, Headline, UnknownIsFailure, CertificateWriteRose}
use Rattle.sd_run.specs.Writing.{outcome, IsBroken, FilesAfter, FileRose}
use Rattle.sd_run.proofs.Rows.{refusal_status_is, row_headline, row_unknown}

-- ---- the status of a row is none of those of a stop

message_status : (o : Outcome) (code : ℕ) (text : List ℕ) → o ≡ message code text → code ≤ 5 → (o.status ≤ 5) ⊎ (o.status ≡ 9)
message_status o code text is few = let e : o.status ≡ code = ap (λ (p : Outcome). p.status) is in inl (omega arith)

refusal_row_status : (o : Outcome) (r : TextRefusal) (text : List ℕ) → o ≡ message (refusal_status r) text → (o.status ≤ 5) ⊎ (o.status ≡ 9)
refusal_row_status o r text is = elim (refusal_status_is r) [
  | inl k ↦ inl (let e : o.status ≡ 3 = ap (λ (p : Outcome). p.status) is ∙ k in omega arith)
  | inr k ↦ inr (ap (λ (p : Outcome). p.status) is ∙ k)
]

zero_or_one_status : (b : Bool) (n : ℕ) → n ≡ (if b then 0 else 1) → (n ≤ 5) ⊎ (n ≡ 9)
zero_or_one_status true n e = inl (omega arith)
zero_or_one_status false n e = inl (omega arith)

apart : (n : ℕ) → (n ≤ 5) ⊎ (n ≡ 9) → (n ≡ 6) ⊎ ((n ≡ 7) ⊎ (n ≡ 8)) → ⊥
apart n (inl few) (inl e) = omega arith
apart n (inl few) (inr (inl e)) = omega arith
apart n (inl few) (inr (inr e)) = omega arith
apart n (inr nine) (inl e) = omega arith
apart n (inr nine) (inr (inl e)) = omega arith
apart n (inr nine) (inr (inr e)) = omega arith

module _ (words : List (List ℕ)) (content : List ℕ → Option (List ℕ)) (o : Outcome) where
  row_status : Answer words content o → (o.status ≤ 5) ⊎ (o.status ≡ 9)
  row_status (no_job a is) = message_status o 2 _ is (omega arith)
  row_status (old_refused job r a b is) = refusal_row_status o r _ is
  row_status (new_refused job old r a b c is) = refusal_row_status o r _ is
  row_status (clashing job t r a b c is) = message_status o 4 _ is (omega arith)
  row_status (compared job t workers leaves name a b c r) = zero_or_one_status (list_all (λ v. is_safe v.state) o.pairs) o.status r.is_report.status
  row_status (too_long job t name a b c d is) = inr (ap (λ (p : Outcome). p.status) is)
  row_status (certificate_refused job t name bytes e a b c d l r is) = message_status o 5 _ is (omega arith)
  row_status (replayed job t name bytes a b c d l r) = zero_or_one_status (list_all (λ v. is_safe v.state) o.pairs) o.status r.is_report.status

  pub row_apart : Answer words content o → (o.status ≡ 6) ⊎ ((o.status ≡ 7) ⊎ (o.status ≡ 8)) → ⊥
  row_apart a h = apart o.status (row_status a) h

  -- ---- a certificate is there only where the words name a file for it

  record NamesFile (file : List ℕ × List ℕ) : Type 0 where
    job : JobNames
    named : job_of words ≡ Some job
    workers : ℕ
    leaves : ℕ
    task : job.task ≡ verify workers leaves (Some file.0)
    texts : Texts
    matched : AreMatched content job texts

  no_file : (file : List ℕ × List ℕ) (certificate : Option (List ℕ × List ℕ)) → certificate ≡ None → certificate ≡ Some file → ⊥
  no_file file certificate none some = let bad : ◌≡◌ {A = Option (List ℕ × List ℕ)} None (Some file) = sym none ∙ some in cc

  message_file : (file : List ℕ × List ℕ) (code : ℕ) (text : List ℕ) → o ≡ message code text → o.certificate ≡ Some file → ⊥
  message_file file code text is some = no_file file o.certificate (ap (λ (p : Outcome). p.certificate) is) some

  certified_file : (t : Texts) (live : List Bool) (name : Option (List ℕ)) (certificate : Option (List ℕ × List ℕ)) (file : List ℕ × List ℕ) → IsCertified t live name certificate → certificate ≡ Some file → name ≡ Some file.0
  certified_file t live None None file h e = absurd (no_file file None refl e)
  certified_file t live (Some name) (Some made) file h e = let same : made ≡ file = cc in ap Some (sym h.0 ∙ ap (λ (f : List ℕ × List ℕ). f.0) same)
  certified_file t live None (Some made) file h e = absurd h
  certified_file t live (Some name) None file h e = absurd h

  row_file : (file : List ℕ × List ℕ) → Answer words content o → o.certificate ≡ Some file → NamesFile file
  row_file file (no_job a is) e = absurd (message_file file 2 _ is e)
  row_file file (old_refused job r a b is) e = absurd (message_file file (refusal_status r) _ is e)
  row_file file (new_refused job old r a b c is) e = absurd (message_file file (refusal_status r) _ is e)
  row_file file (clashing job t r a b c is) e = absurd (message_file file 4 _ is e)
  row_file file (compared job t workers leaves name a b c r) e = record { job = job; named = a; workers = workers; leaves = leaves; task = b ∙ ap (verify workers leaves) (certified_file t r.live name o.certificate file r.certified e); texts = t; matched = c }
  row_file file (too_long job t name a b c d is) e = absurd (message_file file 9 _ is e)
  row_file file (certificate_refused job t name bytes x a b c d l r is) e = absurd (message_file file 5 _ is e)
  row_file file (replayed job t name bytes a b c d l r) e = absurd (no_file file o.certificate r.no_certificate e)

  -- the count rose from an earlier moment on, since which it had stayed
  pub file_rose : (certificate : Option (List ℕ × List ℕ)) (first before now : List ℕ → ℕ) → Answer words content o → o.certificate ≡ certificate
      → ((name : List ℕ) → before name ≡ first name) → FileRose certificate before now → CertificateWriteRose words content first now
  file_rose None first before now a e same rose = absurd rose
  file_rose (Some file) first before now a e same rose =
      let n = row_file file a e in
      record { job = n.job; named = n.named; workers = n.workers; leaves = n.leaves; name = file.0; task = n.task; texts = n.texts; matched = n.matched; rose = subst (λ (k : ℕ). Rose k (now file.0)) (same file.0) rose }

-- ---- what the end of a run tells

module _ (words : List (List ℕ)) (content : List ℕ → Option (List ℕ)) (e : Ended) (status code : ℕ) (text : List ℕ) (certificate : Option (List ℕ × List ℕ)) (o : Outcome) (same : code ≡ status) (is : outcome status text certificate e ≡ o) (a : Answer words content o) where
  pub ended_answer : Answer words content (outcome code text certificate e)
  ended_answer = subst (λ n. Answer words content (outcome n text certificate e)) (sym same) (subst (λ (p : Outcome). Answer words content p) (sym is) a)

  pub ended_headline : Headline words content e.pairs.items
  ended_headline = row_headline words content (outcome code text certificate e) ended_answer

  pub ended_unknown : UnknownIsFailure words content e.deaths.items e.pairs.items
  ended_unknown = row_unknown words content (outcome code text certificate e) ended_answer

-- ---- files

-- what became of the files since an earlier moment from which they stayed
pub files_since : {D : Type 0} (content : D → List ℕ → Option (List ℕ)) (old mid new : D) (certificate : Option (List ℕ × List ℕ)) (file : CertificateFile) → AllStay content old mid → FilesAfter content mid new certificate file → FilesAfter content old new certificate file
files_since content old mid new None Untouched stay h = λ name. h name ∙ stay name
files_since content old mid new (Some file) Untouched stay h = λ name. h name ∙ stay name
files_since content old mid new None NotStarted stay h = absurd h
files_since content old mid new None Cut stay h = absurd h
files_since content old mid new None Whole stay h = absurd h
files_since content old mid new (Some file) NotStarted stay h = λ other apart. h other apart ∙ stay other
files_since content old mid new (Some file) Cut stay h =
    (λ other apart. h.0 other apart ∙ stay other, (h.1.0, h.1.1 ∙ ap (λ (t : Option (List ℕ)). appended (emptied t) (take h.1.0 file.1)) (stay file.0)))
files_since content old mid new (Some file) Whole stay h =
    (λ other apart. h.0 other apart ∙ stay other, h.1 ∙ ap (λ (t : Option (List ℕ)). appended (emptied t) file.1) (stay file.0))

-- the same file
pub files_same : {D : Type 0} (content : D → List ℕ → Option (List ℕ)) (old new : D) (certificate : Option (List ℕ × List ℕ)) (file same : CertificateFile) → same ≡ file → FilesAfter content old new certificate file → FilesAfter content old new certificate same
files_same content old new certificate file same e h = subst (λ (f : CertificateFile). FilesAfter content old new certificate f) (sym e) h

pub broken_same : (file same : CertificateFile) (b : Bool) → same ≡ file → (IsTrue b ↔ IsBroken file) → b ≡ true → IsBroken same
broken_same file same b e h t = subst IsBroken (sym e) (h.0 t)

pub unbroken : (file : CertificateFile) (b : Bool) → (IsTrue b ↔ IsBroken file) → b ≡ false → IsBroken file → ⊥
unbroken file b h f k = let t : b ≡ true = h.1 k in absurd (let bad : true ≡ false = sym t ∙ f in cc)
