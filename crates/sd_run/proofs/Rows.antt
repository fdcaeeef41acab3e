-- What follows from a row of the table of answers.
use Rattle.std.proofs.Common.{◌≡◌, ◌∙◌, sym, ap, subst, refl, ℕ, Bool, true, false, List, [], ◌∷◌, arith, inl, inr}
use Rattle.std.specs.Prelude.{Option, None, Some, option_map, Contains, ◌⊎◌, Result, Err, codes, if◌then◌else◌}
use Rattle.std.specs.List.{list_all}
use Rattle.sd_base.specs.Causes.{Rose, AllSame}
use Rattle.sd_base.specs.Outside.{WhereKnown}
use Rattle.sd_ast.specs.declared.Program.{Program}
use Rattle.sd_run.specs.declared.verdict.PairVerdict.{PairVerdict}
use Rattle.sd_words.specs.Words.{Task, JobNames, verify, replay, job_of}
use Rattle.sd_words.specs.declared.job.Job.{Job}
use Rattle.sd_words.specs.Jobs.{names_of}
use Rattle.sd_run.specs.Report.{is_safe}
use Rattle.sd_parse.specs.declared.answer.ReadError.TheVariants as read
use Rattle.sd_run.specs.declared.text.TextRefusal.{TextRefusal}
use Rattle.sd_run.specs.declared.text.TextRefusal.TheVariants.{Reading}
use Rattle.sd_run.specs.declared.text.Text.{Text}
use Rattle.sd_run.specs.declared.text.TextFault.{TextFault}
use Rattle.sd_run.specs.declared.text.TextFault.TheVariants.{Memory, Failed, Refused}
use Rattle.sd_run.specs.TextRefusals.{IsAccepted, IsTextRefusal, refusal_status}
use Rattle.sd_extract.specs.Propositional.{IsPropositionalProgram}
use Rattle.sd_run.specs.Texts.{Holds, Texts, AreRead, AreMatched}
use Rattle.sd_run.specs.Outcome.{Outcome, message, status_of}
use Rattle.sd_run.specs.Replies.{IsTextReply, IsTextsReply, IsReplayReply}
use Rattle.sd_run.specs.Verdicts.{NoNewFailure, AreNewFailures}
use Rattle.sd_run.specs.Answer.{Answer, no_job, old_refused, new_refused, clashing, compared, too_long, certificate_refused, replayed, ForPrograms, Headline, UnknownIsFailure, CertificateRose}
use Rattle.sd_run.proofs.Comparison.{compared_right, replayed_right, right_safe, right_unknown, one_accepted}

abbrev codes_known : List ℕ
codes_known = 0 ∷ 1 ∷ 2 ∷ 3 ∷ 4 ∷ 5 ∷ 6 ∷ 7 ∷ 8 ∷ 9 ∷ []

pub six_known : Contains codes_known 6
six_known = (6, omega arith, refl)

pub seven_known : Contains codes_known 7
seven_known = (7, omega arith, refl)

pub eight_known : Contains codes_known 8
eight_known = (8, omega arith, refl)

pub known_by : (code m : ℕ) → code ≡ m → Contains codes_known m → Contains codes_known code
known_by code m e h = subst (λ (n : ℕ). Contains codes_known n) (sym e) h

zero_or_one : (b : Bool) → Contains codes_known (if b then 0 else 1)
zero_or_one true = (0, omega arith, refl)
zero_or_one false = (1, omega arith, refl)

three_known : Contains codes_known 3
three_known = (3, omega arith, refl)

nine_known : Contains codes_known 9
nine_known = (9, omega arith, refl)

pub refusal_status_is : (r : TextRefusal) → (refusal_status r ≡ 3) ⊎ (refusal_status r ≡ 9)
refusal_status_is (Reading read.TooLong) = inr refl
refusal_status_is (Reading (read.Deep at)) = inr refl
refusal_status_is (Reading read.TooMany) = inr refl
refusal_status_is _ = inl refl

refusal_known : (r : TextRefusal) → Contains codes_known (refusal_status r)
refusal_known r = elim (refusal_status_is r) [ inl e ↦ known_by (refusal_status r) 3 e three_known | inr e ↦ known_by (refusal_status r) 9 e nine_known ]

status_is : (o : Outcome) (code : ℕ) (text : List ℕ) → o ≡ message code text → o.status ≡ code
status_is o code text e = ap (λ (p : Outcome). p.status) e

module _ (words : List (List ℕ)) (content : List ℕ → Option (List ℕ)) (o : Outcome) where
  -- the status of a row is a known one
  pub row_known : Answer words content o → Contains codes_known o.status
  row_known (no_job a is) = known_by o.status 2 (status_is o 2 _ is) (2, omega arith, refl)
  row_known (old_refused job r a b is) = known_by o.status (refusal_status r) (status_is o (refusal_status r) _ is) (refusal_known r)
  row_known (new_refused job old r a b c is) = known_by o.status (refusal_status r) (status_is o (refusal_status r) _ is) (refusal_known r)
  row_known (clashing job t r a b c is) = known_by o.status 4 (status_is o 4 _ is) (4, omega arith, refl)
  row_known (compared job t workers leaves name a b c r) = known_by o.status (status_of o.pairs) r.is_report.status (zero_or_one (list_all (λ v. is_safe v.state) o.pairs))
  row_known (too_long job t name a b c d is) = known_by o.status 9 (status_is o 9 _ is) nine_known
  row_known (certificate_refused job t name bytes e a b c d l r is) = known_by o.status 5 (status_is o 5 _ is) (5, omega arith, refl)
  row_known (replayed job t name bytes a b c d l r) = known_by o.status (status_of o.pairs) r.is_report.status (zero_or_one (list_all (λ v. is_safe v.state) o.pairs))

  pub same_job : (a b : JobNames) → job_of words ≡ Some a → job_of words ≡ Some b → a ≡ b
  same_job a b one other = let e : ◌≡◌ {A = Option JobNames} (Some a) (Some b) = sym one ∙ other in cc

  -- what holds of no pairs, and of the pairs of any two texts that are compared or have a certificate, holds of each row for the
  -- programs of the files that are told
  module _ (claim : Program → Program → List PairVerdict → Type 0) (none : (P Q : Program) → claim P Q []) where
    silent_for : (code : ℕ) (text : List ℕ) → o ≡ message code text → ForPrograms words content (λ P Q. claim P Q o.pairs)
    silent_for code text is j m ob ot nb nt P Q s t = subst (λ (p : Outcome). claim P Q p.pairs) (sym is) (none P Q)

    texts_for : (job : JobNames) (t : Texts) → job_of words ≡ Some job → AreRead content job t → claim t.old t.new o.pairs → ForPrograms words content (λ P Q. claim P Q o.pairs)
    texts_for job t named read h j m ob ot nb nt P Q s u =
        let same : job ≡ j = same_job job j named m in
        let old_same : ob ≡ t.old_bytes = read.old_content ob (ap (λ (k : JobNames). content k.old) same ∙ ot) in
        let new_same : nb ≡ t.new_bytes = read.new_content nb (ap (λ (k : JobNames). content k.new) same ∙ nt) in
        let old_is : t.old ≡ P = one_accepted t.old_bytes t.old P read.old_read (subst (λ (b : List ℕ). IsAccepted b P) old_same s) in
        let new_is : t.new ≡ Q = one_accepted t.new_bytes t.new Q read.new_read (subst (λ (b : List ℕ). IsAccepted b Q) new_same u) in
        subst (λ (q : Program). claim P q o.pairs) new_is (subst (λ (p : Program). claim p t.new o.pairs) old_is h)

  -- the headline holds of each row
  pub row_headline : Answer words content o → Headline words content o.pairs
  row_headline (no_job a is) = silent_for NoNewFailure (λ P Q. tt) 2 _ is
  row_headline (old_refused job r a b is) = silent_for NoNewFailure (λ P Q. tt) (refusal_status r) _ is
  row_headline (new_refused job old r a b c is) = silent_for NoNewFailure (λ P Q. tt) (refusal_status r) _ is
  row_headline (clashing job t r a b c is) = silent_for NoNewFailure (λ P Q. tt) 4 _ is
  row_headline (compared job t workers leaves name a b c r) =
      let s = c.are_read in texts_for NoNewFailure (λ P Q. tt) job t a s (right_safe t s.old_read s.new_read o.deaths o.pairs (compared_right t s.old_read s.new_read leaves name o r))
  row_headline (too_long job t name a b c d is) = silent_for NoNewFailure (λ P Q. tt) 9 _ is
  row_headline (certificate_refused job t name bytes e a b c d l r is) = silent_for NoNewFailure (λ P Q. tt) 5 _ is
  row_headline (replayed job t name bytes a b c d l r) =
      let s = c.are_read in texts_for NoNewFailure (λ P Q. tt) job t a s (right_safe t s.old_read s.new_read o.deaths o.pairs (replayed_right t s.old_read s.new_read bytes o r))

  -- and an unknown pair has a failure, without calls and loops
  abbrev Unknowns : Program → Program → List PairVerdict → Type 0
  Unknowns P Q pairs = IsPropositionalProgram P → IsPropositionalProgram Q → AreNewFailures P Q o.deaths pairs

  pub row_unknown : Answer words content o → UnknownIsFailure words content o.deaths o.pairs
  row_unknown (no_job a is) = silent_for Unknowns (λ P Q p q. tt) 2 _ is
  row_unknown (old_refused job r a b is) = silent_for Unknowns (λ P Q p q. tt) (refusal_status r) _ is
  row_unknown (new_refused job old r a b c is) = silent_for Unknowns (λ P Q p q. tt) (refusal_status r) _ is
  row_unknown (clashing job t r a b c is) = silent_for Unknowns (λ P Q p q. tt) 4 _ is
  row_unknown (compared job t workers leaves name a b c r) =
      let s = c.are_read in texts_for Unknowns (λ P Q p q. tt) job t a s (right_unknown t s.old_read s.new_read o.deaths o.pairs (compared_right t s.old_read s.new_read leaves name o r))
  row_unknown (too_long job t name a b c d is) = silent_for Unknowns (λ P Q p q. tt) 9 _ is
  row_unknown (certificate_refused job t name bytes e a b c d l r is) = silent_for Unknowns (λ P Q p q. tt) 5 _ is
  row_unknown (replayed job t name bytes a b c d l r) =
      let s = c.are_read in texts_for Unknowns (λ P Q p q. tt) job t a s (right_unknown t s.old_read s.new_read o.deaths o.pairs (replayed_right t s.old_read s.new_read bytes o r))

-- ---- rows

-- what was read, while the files stay
pub are_read : (content : List ℕ → Option (List ℕ)) (known : Option (List ℕ)) (job : JobNames) (t : Texts) → known ≡ content job.new → Holds (content job.old) t.old_bytes → IsAccepted t.old_bytes t.old → Holds known t.new_bytes → IsAccepted t.new_bytes t.new → AreRead content job t
are_read content known job t stay old_content old_read new_content new_read = record {
  old_content = old_content;
  new_content = λ bytes e. new_content bytes (stay ∙ e);
  old_read = old_read;
  new_read = new_read;
}

-- a text that is known and read
pub known_accepted : (known : Option (List ℕ)) (bytes : List ℕ) (P : Program) → Holds known bytes → IsAccepted bytes P → WhereKnown known (λ b. IsAccepted b P)
known_accepted known bytes P h r b e = subst (λ (x : List ℕ). IsAccepted x P) (sym (h b e)) r

pub old_row : (words : List (List ℕ)) (content : List ℕ → Option (List ℕ)) (o : Outcome) (job : JobNames) (f : TextFault) → job_of words ≡ Some job
    → ((r : TextRefusal) → ◌≡◌ {A = Result Text TextFault} (Err f) (Err (Refused r)) → WhereKnown (content job.old) (λ bytes. IsTextRefusal bytes r)) → IsTextReply (codes "old") f o → Answer words content o
old_row words content o job Memory named refused h = absurd h
old_row words content o job Failed named refused h = absurd h
old_row words content o job (Refused r) named refused h = old_refused job r named (refused r refl) h

pub new_row : (words : List (List ℕ)) (content : List ℕ → Option (List ℕ)) (o : Outcome) (job : JobNames) (old : Program) (f : TextFault) → job_of words ≡ Some job → WhereKnown (content job.old) (λ bytes. IsAccepted bytes old)
    → ((r : TextRefusal) → ◌≡◌ {A = Result Text TextFault} (Err f) (Err (Refused r)) → WhereKnown (content job.new) (λ bytes. IsTextRefusal bytes r)) → IsTextReply (codes "new") f o → Answer words content o
new_row words content o job old Memory named accepted refused h = absurd h
new_row words content o job old Failed named accepted refused h = absurd h
new_row words content o job old (Refused r) named accepted refused h = new_refused job old r named accepted (refused r refl) h

pub replay_row : (words : List (List ℕ)) (content : List ℕ → Option (List ℕ)) (o : Outcome) (job : JobNames) (t : Texts) (name : List ℕ) (known : Option (List ℕ)) → job_of words ≡ Some job → job.task ≡ replay name → AreMatched content job t → known ≡ content name → IsReplayReply known t o → Answer words content o
replay_row words content o job t name known named task read same (inl h) = too_long job t name named task read (λ bytes e. h.0 bytes (same ∙ e)) h.1
replay_row words content o job t name known named task read same (inr (bytes, holds, short, inl r)) = replayed job t name bytes named task read (λ b e. holds b (same ∙ e)) short r
replay_row words content o job t name known named task read same (inr (bytes, holds, short, inr (e, r, is))) = certificate_refused job t name bytes e named task read (λ b k. holds b (same ∙ k)) short r is

-- the row of two texts that were read, while the files stay
pub texts_row : (words : List (List ℕ)) (content mid : List ℕ → Option (List ℕ)) (o : Outcome) (job : JobNames) (t : Texts) → job_of words ≡ Some job → AreRead content job t → ((name : List ℕ) → mid name ≡ content name)
    → IsTextsReply job.task mid t o → Answer words content o
texts_row words content mid o job t named read same h = go job.task refl h
  where
    go : (k : Task) → job.task ≡ k → IsTextsReply k mid t o → Answer words content o
    go k e (inl (r, clash, is)) = clashing job t r named read clash is
    go (verify workers leaves name) e (inr (none, reply)) = compared job t workers leaves name named e (record { are_read = read; no_clash = none }) reply
    go (replay name) e (inr (none, reply)) = replay_row words content o job t name (mid name) named e (record { are_read = read; no_clash = none }) (same name) reply

-- ---- failed readings

-- the count rose from an earlier moment on, since which none had changed
pub rose_since : (first before now : List ℕ → ℕ) (name : List ℕ) → AllSame first before → Rose (before name) (now name) → Rose (first name) (now name)
rose_since first before now name same rose = subst (λ (k : ℕ). Rose k (now name)) (same name) rose

pub certificate_since : (task : Task) (first before now : List ℕ → ℕ) → AllSame first before → CertificateRose task before now → CertificateRose task first now
certificate_since (verify workers leaves name) first before now same rose = absurd rose
certificate_since (replay name) first before now same rose = rose_since first before now name same rose

-- ---- the job that the words name

pub named_by : (asked : Option JobNames) (found : Option Job) (job : Job) → option_map names_of found ≡ asked → found ≡ Some job → asked ≡ Some (names_of job)
named_by asked found job named is = sym named ∙ ap (option_map names_of) is

pub unnamed_by : (asked : Option JobNames) (found : Option Job) → option_map names_of found ≡ asked → found ≡ None → asked ≡ None
unnamed_by asked found named is = sym named ∙ ap (option_map names_of) is
