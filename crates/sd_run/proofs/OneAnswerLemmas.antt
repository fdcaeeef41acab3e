-- An input has one answer.
use Rattle.std.proofs.Common.{◌≡◌, ◌≢◌, ◌∙◌, sym, ap, subst, refl, ℕ, Bool, true, false, List, length, inl, inr, arith}
use Rattle.std.specs.Prelude.{Option, None, Some, Result, Ok, Err, ◌⊎◌, codes, if◌then◌else◌}
use Rattle.std.specs.List.{list_all}
use Rattle.std.proofs.lemmas.Option.{none-some, same_Some}
use Rattle.sd_base.specs.Outside.{WhereKnown}
use Rattle.sd_ast.specs.declared.Program.{Program}
use Rattle.sd_parse.specs.declared.answer.ReadError.{ReadError}
use Rattle.sd_parse.specs.declared.answer.ReadError.TheVariants as read
use Rattle.sd_parse.specs.Answer.{IsReading}
use Rattle.sd_parse.proofs.AnswerLaws.{one_answer as one_reading}
use Rattle.sd_types.specs.Declarations.{first_broken}
use Rattle.sd_match.specs.Refusals.{Refusal}
use Rattle.sd_cert.specs.declared.fault.CertError.{CertError}
use Rattle.sd_cert.specs.OneTable.{ShowsOneTable}
use Rattle.sd_cert.specs.OneFault.{HasOneFault}
use Rattle.sd_run.specs.declared.text.TextRefusal.{TextRefusal}
use Rattle.sd_run.specs.declared.text.TextRefusal.TheVariants.{Reading, Typing, NotYet}
use Rattle.sd_run.specs.declared.verdict.PairVerdict.{PairVerdict}
use Rattle.sd_words.specs.Words.{Task, JobNames, verify, replay, job_of}
use Rattle.sd_run.specs.declared.verdict.Otherwise.{Otherwise}
use Rattle.sd_run.specs.declared.verdict.Otherwise.TheVariants.{Unproved}
use Rattle.sd_run.specs.Report.{usage_text, is_safe, report}
use Rattle.sd_run.specs.MatchErrors.{match_error}
use Rattle.sd_run.specs.Texts.{Texts, programs_of, AreRead, AreMatched, digests_of}
use Rattle.sd_run.specs.TextRefusals.{IsAccepted, IsTextRefusal, refusal_status, text_error}
use Rattle.sd_run.specs.Outcome.{Outcome, message, status_of, IsReport, IsReplay, IsRefused}
use Rattle.sd_run.specs.Replies.{refusal, IsJudged, IsReplayReply, IsTaskReply, IsTextsReply}
use Rattle.sd_run.specs.Answer.{Answer, no_job, old_refused, new_refused, clashing, compared, too_long, certificate_refused, replayed}
use Rattle.sd_run.specs.OneAnswer.{IsKnown, IsCertificateKnown, AreKnown, IsReported, AreAlike, same, reports, OneAnswer}
use Rattle.sd_run.proofs.Comparison.{one_accepted}
use Rattle.sd_run.proofs.Rows.{known_accepted}
use Rattle.sd_run.specs.ComparedPrograms.{IsComparedProgram}

-- ---- texts

module _ (bytes : List ℕ) where
  one_program : (P Q : Program) → IsReading bytes (Ok P) → IsReading bytes (Ok Q) → P ≡ Q
  one_program P Q p q =
      let e : ◌≡◌ {A = Result Program ReadError} (Ok P) (Ok Q) = one_reading bytes (Ok P) (Ok Q) p q (λ x. cc) (λ x. cc) in cc

  one_error : (e f : ReadError) → IsReading bytes (Err e) → IsReading bytes (Err f) → e ≢ read.NoMemory → f ≢ read.NoMemory → e ≡ f
  one_error e f p q m n =
      let s : ◌≡◌ {A = Result Program ReadError} (Err e) (Err f) = one_reading bytes (Err e) (Err f) p q (λ x. m (cc)) (λ x. n (cc)) in cc

  no_error : (P : Program) (e : ReadError) → IsReading bytes (Ok P) → IsReading bytes (Err e) → e ≢ read.NoMemory → ⊥
  no_error P e p q m =
      let s : ◌≡◌ {A = Result Program ReadError} (Ok P) (Err e) = one_reading bytes (Ok P) (Err e) p q (λ x. cc) (λ x. m (cc)) in cc

  broken_is : (P Q : Program) → IsReading bytes (Ok P) → IsReading bytes (Ok Q) → first_broken P ≡ first_broken Q
  broken_is P Q p q = ap first_broken (one_program P Q p q)

  one_refusal : (r s : TextRefusal) → IsTextRefusal bytes r → IsTextRefusal bytes s → r ≡ s
  one_refusal (Reading e) (Reading f) a b = ap Reading (one_error e f a.0 b.0 a.1 b.1)
  one_refusal (Reading e) (Typing f) a (Q, q, b, n) = absurd (no_error Q e q a.0 a.1)
  one_refusal (Reading e) NotYet a (Q, q, typed, form) = absurd (no_error Q e q a.0 a.1)
  one_refusal (Typing e) (Reading f) (P, p, a, m) b = absurd (no_error P f p b.0 b.1)
  one_refusal (Typing e) (Typing f) (P, p, a, m) (Q, q, b, n) = ap Typing (same_Some e f (sym a ∙ (broken_is P Q p q ∙ b)))
  one_refusal (Typing e) NotYet (P, p, a, m) (Q, q, typed, form) = absurd (none-some e (sym typed ∙ (sym (broken_is P Q p q) ∙ a)))
  one_refusal NotYet (Reading f) (P, p, typed, form) b = absurd (no_error P f p b.0 b.1)
  one_refusal NotYet (Typing f) (P, p, typed, form) (Q, q, b, n) = absurd (none-some f (sym typed ∙ (broken_is P Q p q ∙ b)))
  one_refusal NotYet NotYet a b = refl

  not_both : (r : TextRefusal) (P : Program) → IsTextRefusal bytes r → IsAccepted bytes P → ⊥
  not_both (Reading e) P a h = no_error P e h.read a.0 a.1
  not_both (Typing e) P (Q, q, a, m) h = none-some e (sym h.typed ∙ (broken_is P Q h.read q ∙ a))
  not_both NotYet P (Q, q, typed, form) h = form (subst IsComparedProgram (one_program P Q h.read q) h.form)

-- ---- certificates

not_refused : (bytes : List ℕ) (t : Texts) (o : Outcome) (e : CertError) → IsReplay bytes t o → IsRefused bytes t e → ⊥
not_refused bytes t o e r f = f.none r.live r.accepted

-- ---- from the last stage to the first

zero_or_one : (o : Outcome) → o.status ≡ status_of o.pairs → IsReported o
zero_or_one o is = go (list_all (λ (v : PairVerdict). is_safe v.state) o.pairs) is
  where
    go : (b : Bool) → o.status ≡ (if b then 0 else 1) → IsReported o
    go true e = inl e
    go false e = inr e

-- two reports from one table
report_same : (w : Otherwise) (t : Texts) (live : List Bool) (o p : Outcome) → IsReport w t live o → IsReport w t live p → o.deaths ≡ p.deaths → o.certificate ≡ p.certificate → o ≡ p
report_same w t live o p a b deaths certificate =
    let pairs = a.verdicts ∙ sym b.verdicts in
    let table = a.words ∙ sym b.words in
    let status = a.status ∙ (ap status_of pairs ∙ sym b.status) in
    let text = a.text ∙ (ap (report (programs_of t).old (programs_of t).new) pairs ∙ sym b.text) in
    λ i. record { status = status i; text = text i; pairs = pairs i; table = table i; deaths = deaths i; certificate = certificate i }

module _ (one_table : ShowsOneTable) (one_fault : HasOneFault) (words : List (List ℕ)) (o p : Outcome) where
  replay_same : (bytes : List ℕ) (t : Texts) → IsReplay bytes t o → IsReplay bytes t p → o ≡ p
  replay_same bytes t r s =
      let live = one_table (programs_of t) (digests_of t) bytes r.live s.live r.accepted s.accepted in
      report_same Unproved t s.live o p (subst (λ (l : List Bool). IsReport Unproved t l o) live r.is_report) s.is_report (r.no_death ∙ sym s.no_death) (r.no_certificate ∙ sym s.no_certificate)

  refusal_same : (bytes : List ℕ) (t : Texts) (e f : CertError) → IsRefused bytes t e → IsRefused bytes t f → o ≡ refusal e → p ≡ refusal f → o ≡ p
  refusal_same bytes t e f r s is js =
      let same = one_fault (programs_of t) (digests_of t) bytes e f (record { fault = r.fault; named = r.named }) (record { fault = s.fault; named = s.named }) in
      is ∙ (ap (λ (x : CertError). refusal x) same ∙ sym js)

  judged_same : (bytes : List ℕ) (t : Texts) → IsJudged bytes t o → IsJudged bytes t p → o ≡ p
  judged_same bytes t (inl r) (inl s) = replay_same bytes t r s
  judged_same bytes t (inl r) (inr (e, f, is)) = absurd (not_refused bytes t o e r f)
  judged_same bytes t (inr (e, f, is)) (inl r) = absurd (not_refused bytes t p e r f)
  judged_same bytes t (inr (e, f, is)) (inr (d, g, js)) = refusal_same bytes t e d f g is js

  replies_same : (known : Option (List ℕ)) (t : Texts) → IsKnown known → IsReplayReply known t o → IsReplayReply known t p → o ≡ p
  replies_same known t (bytes, k) (inl (long, is)) (inl (long', js)) = is ∙ sym js
  replies_same known t (bytes, k) (inl (long, is)) (inr (b, holds, short, judged)) = absurd (omega (arith, long bytes k, short, ap length (holds bytes k)))
  replies_same known t (bytes, k) (inr (b, holds, short, judged)) (inl (long, is)) = absurd (omega (arith, long bytes k, short, ap length (holds bytes k)))
  replies_same known t (bytes, k) (inr (b, holds, short, judged)) (inr (c, holds', short', judged')) =
      judged_same bytes t (subst (λ (x : List ℕ). IsJudged x t o) (sym (holds bytes k)) judged) (subst (λ (x : List ℕ). IsJudged x t p) (sym (holds' bytes k)) judged')

  module _ (content : List ℕ → Option (List ℕ)) (job : JobNames) (named : job_of words ≡ Some job) where
    task_alike : (task : Task) → job.task ≡ task → (t : Texts) → IsCertificateKnown task content → IsTaskReply task content t o → IsTaskReply task content t p → AreAlike words o p
    task_alike (verify workers leaves name) task t known a b = reports job workers leaves name named task (zero_or_one o a.is_report.status) (zero_or_one p b.is_report.status)
    task_alike (replay name) task t known a b = same (replies_same (content name) t known a b)

    texts_alike : (t : Texts) → IsCertificateKnown job.task content → IsTextsReply job.task content t o → IsTextsReply job.task content t p → AreAlike words o p
    texts_alike t known (inl (r, clash, is)) (inl (s, clash', js)) = same (is ∙ (ap (λ (x : Refusal). message 4 (match_error x)) (same_Some r s (sym clash ∙ clash')) ∙ sym js))
    texts_alike t known (inl (r, clash, is)) (inr (none, b)) = absurd (none-some r (sym none ∙ clash))
    texts_alike t known (inr (none, a)) (inl (r, clash, is)) = absurd (none-some r (sym none ∙ clash))
    texts_alike t known (inr (none, a)) (inr (none', b)) = task_alike job.task refl t known a b

-- a text is refused, with this word in the answer
abbrev IsRefusedText : Option (List ℕ) → List ℕ → Outcome → Type 0
IsRefusedText known word o = (r : TextRefusal) × WhereKnown known (λ bytes. IsTextRefusal bytes r) × (o ≡ message (refusal_status r) (text_error word r))

refused_alike : (words : List (List ℕ)) (known : Option (List ℕ)) (word : List ℕ) (o p : Outcome) → IsKnown known → IsRefusedText known word o → IsRefusedText known word p → AreAlike words o p
refused_alike words known word o p (bytes, k) (r, a, is) (s, b, js) =
    same (is ∙ (ap (λ (x : TextRefusal). message (refusal_status x) (text_error word x)) (one_refusal bytes r s (a bytes k) (b bytes k)) ∙ sym js))

module _ (words : List (List ℕ)) (content : List ℕ → Option (List ℕ)) where
  abbrev AfterNew : JobNames → Outcome → Type 0
  AfterNew job o = IsRefusedText (content job.new) (codes "new") o ⊎ ((t : Texts) × AreRead content job t × IsTextsReply job.task content t o)

  abbrev AfterOld : JobNames → Outcome → Type 0
  AfterOld job o = IsRefusedText (content job.old) (codes "old") o ⊎ ((P : Program) × WhereKnown (content job.old) (λ bytes. IsAccepted bytes P) × AfterNew job o)

  abbrev AfterWords : Outcome → Type 0
  AfterWords o = ((job_of words ≡ None) × (o ≡ message 2 usage_text)) ⊎ ((job : JobNames) × (job_of words ≡ Some job) × AfterOld job o)

  new_accepted : (job : JobNames) (t : Texts) (bytes : List ℕ) → content job.new ≡ Some bytes → AreRead content job t → IsAccepted bytes t.new
  new_accepted job t bytes k h = known_accepted (content job.new) t.new_bytes t.new h.new_content h.new_read bytes k

  old_accepted : (job : JobNames) (t : Texts) (bytes : List ℕ) → content job.old ≡ Some bytes → AreRead content job t → IsAccepted bytes t.old
  old_accepted job t bytes k h = known_accepted (content job.old) t.old_bytes t.old h.old_content h.old_read bytes k

  one_texts : (job : JobNames) (t s : Texts) → IsKnown (content job.old) → IsKnown (content job.new) → AreRead content job t → AreRead content job s → t ≡ s
  one_texts job t s (old, k) (new, l) a b =
      let old_bytes = sym (a.old_content old k) ∙ b.old_content old k in
      let new_bytes = sym (a.new_content new l) ∙ b.new_content new l in
      let P = one_accepted old t.old s.old (old_accepted job t old k a) (old_accepted job s old k b) in
      let Q = one_accepted new t.new s.new (new_accepted job t new l a) (new_accepted job s new l b) in
      λ i. record { old_bytes = old_bytes i; new_bytes = new_bytes i; old = P i; new = Q i }

  rows_read : (o : Outcome) (job : JobNames) (t : Texts) → job_of words ≡ Some job → AreRead content job t → IsTextsReply job.task content t o → AfterWords o
  rows_read o job t named h r = inr (job, named, inr (t.old, known_accepted (content job.old) t.old_bytes t.old h.old_content h.old_read, inr (t, h, r)))

  task_row : (o : Outcome) (job : JobNames) (t : Texts) (task : Task) → job_of words ≡ Some job → job.task ≡ task → AreMatched content job t → IsTaskReply task content t o → AfterWords o
  task_row o job t task named is m r = rows_read o job t named m.are_read (inr (m.no_clash, subst (λ (k : Task). IsTaskReply k content t o) (sym is) r))

  staged : (o : Outcome) → Answer words content o → AfterWords o
  staged o (no_job none is) = inl (none, is)
  staged o (old_refused job r named a is) = inr (job, named, inl (r, a, is))
  staged o (new_refused job P r named accepted a is) = inr (job, named, inr (P, accepted, inl (r, a, is)))
  staged o (clashing job t r named h clash is) = rows_read o job t named h (inl (r, clash, is))
  staged o (compared job t workers leaves name named task m r) = task_row o job t (verify workers leaves name) named task m r
  staged o (too_long job t name named task m long is) = task_row o job t (replay name) named task m (inl (long, is))
  staged o (certificate_refused job t name bytes e named task m holds short r is) = task_row o job t (replay name) named task m (inr (bytes, holds, short, inr (e, r, is)))
  staged o (replayed job t name bytes named task m holds short r) = task_row o job t (replay name) named task m (inr (bytes, holds, short, inl r))

  module _ (one_table : ShowsOneTable) (one_fault : HasOneFault) (o p : Outcome) where
    new_alike : (job : JobNames) → job_of words ≡ Some job → IsKnown (content job.old) → IsKnown (content job.new) → IsCertificateKnown job.task content → AfterNew job o → AfterNew job p → AreAlike words o p
    new_alike job named old new c (inl a) (inl b) = refused_alike words (content job.new) (codes "new") o p new a b
    new_alike job named old (bytes, k) c (inl (r, a, is)) (inr (t, h, b)) = absurd (not_both bytes r t.new (a bytes k) (new_accepted job t bytes k h))
    new_alike job named old (bytes, k) c (inr (t, h, b)) (inl (r, a, is)) = absurd (not_both bytes r t.new (a bytes k) (new_accepted job t bytes k h))
    new_alike job named old new c (inr (t, h, a)) (inr (s, g, b)) =
        texts_alike one_table one_fault words o p content job named t c a (subst (λ (x : Texts). IsTextsReply job.task content x p) (one_texts job s t old new g h) b)

    old_alike : (job : JobNames) → job_of words ≡ Some job → IsKnown (content job.old) → IsKnown (content job.new) → IsCertificateKnown job.task content → AfterOld job o → AfterOld job p → AreAlike words o p
    old_alike job named old new c (inl a) (inl b) = refused_alike words (content job.old) (codes "old") o p old a b
    old_alike job named (bytes, k) new c (inl (r, a, is)) (inr (P, h, b)) = absurd (not_both bytes r P (a bytes k) (h bytes k))
    old_alike job named (bytes, k) new c (inr (P, h, b)) (inl (r, a, is)) = absurd (not_both bytes r P (a bytes k) (h bytes k))
    old_alike job named old new c (inr (P, h, a)) (inr (Q, g, b)) = new_alike job named old new c a b

    words_alike : AreKnown words content → AfterWords o → AfterWords p → AreAlike words o p
    words_alike known (inl (none, is)) (inl (none', js)) = same (is ∙ sym js)
    words_alike known (inl (none, is)) (inr (job, named, b)) = absurd (none-some job (sym none ∙ named))
    words_alike known (inr (job, named, a)) (inl (none, is)) = absurd (none-some job (sym none ∙ named))
    words_alike known (inr (job, named, a)) (inr (j, m, b)) =
        let k = known job named in
        old_alike job named k.0 k.1 k.2 a (subst (λ (x : JobNames). AfterOld x p) (same_Some j job (sym m ∙ named)) b)

pub one_answer : ShowsOneTable → HasOneFault → OneAnswer
one_answer one_table one_fault words content o p known a b = words_alike words content one_table one_fault o p known (staged words content o a) (staged words content p b)
