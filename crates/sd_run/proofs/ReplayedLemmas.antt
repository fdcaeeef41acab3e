-- A replay confirms what was written as a certificate.
use Rattle.std.proofs.Common.{◌≡◌, ◌∙◌, sym, ap, subst, refl, ℕ, Bool, true, false, ◌&&◌, List, [], ◌∷◌, ◌++◌, length, drop, ◌<◌, ◌≤◌, inl, inr, arith}
use Rattle.std.specs.Prelude.{Option, None, Some, ◌⊎◌, is_some, if◌then◌else◌}
use Rattle.std.specs.List.{list_all}
use Rattle.std.proofs.lemmas.Option.{none-some, same_Some}
use Rattle.sd_base.specs.Value.{Text}
use Rattle.sd_core.specs.declared.CoreProc.{CoreProc}
use Rattle.sd_match.specs.declared.pair.PairState.{PairState}
use Rattle.sd_match.specs.declared.pair.PairState.TheVariants as pair_state
use Rattle.sd_match.specs.declared.pair.Pair.{Pair}
use Rattle.sd_cand.specs.Words.{words_of}
use Rattle.sd_product.specs.Work.{PairedPrograms, pairs_in, candidates_in_pair}
use Rattle.sd_cert.specs.Accepts.{Accepts}
use Rattle.sd_run.specs.declared.verdict.PairVerdict.{PairVerdict}
use Rattle.sd_run.specs.declared.verdict.VerdictState.{VerdictState}
use Rattle.sd_run.specs.declared.verdict.VerdictState.TheVariants.{Safe}
use Rattle.sd_run.specs.declared.verdict.Otherwise.TheVariants.{Unknown, Unproved}
use Rattle.sd_words.specs.Words.{Task, JobNames, verify, replay, job_of}
use Rattle.sd_run.specs.Texts.{Texts, programs_of, digests_of, AreMatched}
use Rattle.sd_run.specs.Verdicts.{flag_live, state_of, verdict_by, verdict_of, verdicts_of}
use Rattle.sd_run.specs.Report.{is_safe, report}
use Rattle.sd_run.specs.Outcome.{Outcome, message, status_of, IsReport, IsCertified, IsComparison, IsReplay}
use Rattle.sd_run.specs.Answer.{Answer, no_job, old_refused, new_refused, clashing, compared, too_long, certificate_refused, replayed}
use Rattle.sd_run.specs.OneAnswer.{IsReported, IsCertificateKnown, AreKnown, AreAlike, same, reports, OneAnswer}
use Rattle.sd_run.specs.Replayed.{NamesTask, AgreeOnPair, Agree, Confirms, WrittenIsReplayed}
use Rattle.sd_run.proofs.Rows.{refusal_status_is, same_job}

-- ---- verdicts from one table

abbrev verdict_from : (old new : Text) → VerdictState → PairVerdict
verdict_from old new state = record { old = old; new = new; state = state; equal = false }

states_agree : (old new : Text) (s : PairState) (live : Bool) → AgreeOnPair (verdict_from old new (state_of Unknown s live)) (verdict_from old new (state_of Unproved s live))
states_agree old new pair_state.Open true = record {
  old = refl;
  new = refl;
  equal = refl;
  safe = (λ e. refl, λ e. refl);
  unproved = (λ e. absurd (cc), λ e. absurd (cc));
  signature = (λ e. absurd (cc), λ e. absurd (cc));
  unmatched = λ x. (λ e. absurd (cc), λ e. absurd (cc));
}
states_agree old new pair_state.Open false = record {
  old = refl;
  new = refl;
  equal = refl;
  safe = (λ e. absurd (cc), λ e. absurd (cc));
  unproved = (λ e. refl, λ e. refl);
  signature = (λ e. absurd (cc), λ e. absurd (cc));
  unmatched = λ x. (λ e. absurd (cc), λ e. absurd (cc));
}
states_agree old new pair_state.Signature live = record {
  old = refl;
  new = refl;
  equal = refl;
  safe = (λ e. absurd (cc), λ e. absurd (cc));
  unproved = (λ e. absurd (cc), λ e. absurd (cc));
  signature = (λ e. refl, λ e. refl);
  unmatched = λ x. (λ e. absurd (cc), λ e. absurd (cc));
}
states_agree old new (pair_state.UnmatchedRecursion y) live = record {
  old = refl;
  new = refl;
  equal = refl;
  safe = (λ e. absurd (cc), λ e. absurd (cc));
  unproved = (λ e. absurd (cc), λ e. absurd (cc));
  signature = (λ e. absurd (cc), λ e. absurd (cc));
  unmatched = λ x. (λ e. e, λ e. e);
}

agree_append : (vs ws more less : List PairVerdict) → Agree vs ws → Agree more less → Agree (vs ++ more) (ws ++ less)
agree_append [] [] more less a b = b
agree_append (v ∷ vs) (w ∷ ws) more less a b = (a.0, agree_append vs ws more less a.1 b)
agree_append [] (w ∷ ws) more less a b = absurd a
agree_append (v ∷ vs) [] more less a b = absurd a

pair_agrees : (pair : Pair) (live : Bool) (p q : Option CoreProc) → Agree (verdict_by Unknown pair live p q) (verdict_by Unproved pair live p q)
pair_agrees pair live None q = tt
pair_agrees pair live (Some p) None = tt
pair_agrees pair live (Some p) (Some q) = go (is_some p.parent)
  where
    go : (loop : Bool) → Agree (if loop then [] else verdict_from p.name q.name (state_of Unknown pair.state live) ∷ []) (if loop then [] else verdict_from p.name q.name (state_of Unproved pair.state live) ∷ [])
    go true = tt
    go false = (states_agree p.name q.name pair.state live, tt)

verdicts_agree : (work : PairedPrograms) (pairs : List Pair) (live : List Bool) → Agree (verdicts_of Unknown work pairs live) (verdicts_of Unproved work pairs live)
verdicts_agree work [] live = tt
verdicts_agree work (pair ∷ pairs) live =
    let rest = drop (length (candidates_in_pair work pair)) live in
    let now = flag_live (candidates_in_pair work pair) live in
    agree_append (verdict_of Unknown work pair now) (verdict_of Unproved work pair now) (verdicts_of Unknown work pairs rest) (verdicts_of Unproved work pairs rest)
    (pair_agrees pair now _ _) (verdicts_agree work pairs rest)

safe_is : (s : VerdictState) → is_safe s ≡ true → s ≡ Safe
safe_is Safe e = refl
safe_is _ e = absurd (cc)

equal_if : (a b : Bool) → (a ≡ true → b ≡ true) → (b ≡ true → a ≡ true) → a ≡ b
equal_if true b f g = sym (f refl)
equal_if false true f g = g refl
equal_if false false f g = refl

one_safety : (v w : PairVerdict) → AgreeOnPair v w → is_safe w.state ≡ is_safe v.state
one_safety v w a =
    equal_if (is_safe w.state) (is_safe v.state) (λ e. ap is_safe (a.safe.0 (safe_is w.state e))) (λ e. ap is_safe (a.safe.1 (safe_is v.state e)))

all_safety : (vs ws : List PairVerdict) → Agree vs ws → list_all (λ (w : PairVerdict). is_safe w.state) ws ≡ list_all (λ (v : PairVerdict). is_safe v.state) vs
all_safety [] [] a = refl
all_safety (v ∷ vs) (w ∷ ws) a = λ i. one_safety v w a.0 i && all_safety vs ws a.1 i
all_safety [] (w ∷ ws) a = absurd a
all_safety (v ∷ vs) [] a = absurd a

one_status : (vs ws : List PairVerdict) → Agree vs ws → status_of ws ≡ status_of vs
one_status vs ws a = ap (λ (b : Bool). if b then 0 else 1) (all_safety vs ws a)

-- ---- the replay of a table

abbrev replay_of : Texts → List Bool → Outcome
replay_of t live =
    let pairs = verdicts_of Unproved (programs_of t) (pairs_in (programs_of t)) live in
    record {
      status = status_of pairs;
      text = report (programs_of t).old (programs_of t).new pairs;
      pairs = pairs;
      table = words_of live;
      deaths = [];
      certificate = None;
    }

is_replay : (t : Texts) (live : List Bool) (bytes : List ℕ) → Accepts (programs_of t) (digests_of t) bytes live → IsReplay bytes t (replay_of t live)
is_replay t live bytes a = record {
  live = live;
  accepted = a;
  is_report = record { verdicts = refl; words = refl; status = refl; text = refl };
  no_death = refl;
  no_certificate = refl;
}

confirms : (t : Texts) (live : List Bool) (o : Outcome) → IsReport Unknown t live o → Confirms (replay_of t live) o
confirms t live o r =
    let work = programs_of t in
    let agree = subst (λ (vs : List PairVerdict). Agree vs (verdicts_of Unproved work (pairs_in work) live)) (sym r.verdicts) (verdicts_agree work (pairs_in work) live) in
    record {
      status = one_status o.pairs (verdicts_of Unproved work (pairs_in work) live) agree ∙ sym r.status;
      table = sym r.words;
      pairs = agree;
    }

-- ---- what was written

-- the texts that were compared, and the certificate
record IsCertifiedReport (content : List ℕ → Option (List ℕ)) (job : JobNames) (file : List ℕ) (o : Outcome) : Type 0 where
  texts : Texts
  matched : AreMatched content job texts
  leaves : ℕ
  comparison : IsComparison leaves (Some file) texts o

not_reported : (o : Outcome) (code : ℕ) (text : List ℕ) → o ≡ message code text → 1 < code → IsReported o → ⊥
not_reported o code text is more r =
    let e : o.status ≡ code = ap (λ (p : Outcome). p.status) is in
    elim r [ inl zero ↦ omega (arith, e, zero, more) | inr one ↦ omega (arith, e, one, more) ]

module _ (words : List (List ℕ)) (content : List ℕ → Option (List ℕ)) (o : Outcome) (job : JobNames) (workers leaves : ℕ) (file : List ℕ) (named : job_of words ≡ Some job) (task : job.task ≡ verify workers leaves (Some file)) (r : IsReported o) where
  no_message : (code : ℕ) (text : List ℕ) → o ≡ message code text → 1 < code → IsCertifiedReport content job file o
  no_message code text is more = absurd (not_reported o code text is more r)

  no_refusal : (code : ℕ) (text : List ℕ) → o ≡ message code text → (code ≡ 3) ⊎ (code ≡ 9) → IsCertifiedReport content job file o
  no_refusal code text is (inl e) = no_message code text is (omega (arith, e))
  no_refusal code text is (inr e) = no_message code text is (omega (arith, e))

  certified_report : Answer words content o → IsCertifiedReport content job file o
  certified_report (no_job none is) = absurd (none-some job (sym none ∙ named))
  certified_report (old_refused j x n a is) = no_refusal _ _ is (refusal_status_is x)
  certified_report (new_refused j P x n accepted a is) = no_refusal _ _ is (refusal_status_is x)
  certified_report (clashing j t x n h clash is) = no_message 4 _ is (omega arith)
  certified_report (compared j t ws ls name n k m c) =
      let s : j ≡ job = same_job words content o j job n named in
      let e : ◌≡◌ {A = Task} (verify ws ls name) (verify workers leaves (Some file)) = sym k ∙ (ap (λ (x : JobNames). x.task) s ∙ task) in
      record {
        texts = t;
        matched = subst (λ (x : JobNames). AreMatched content x t) s m;
        leaves = ls;
        comparison = subst (λ (x : Option (List ℕ)). IsComparison ls x t o) (cc) c;
      }
  certified_report (too_long j t name n k m long is) = no_message 9 _ is (omega arith)
  certified_report (certificate_refused j t name bytes e n k m holds short f is) = no_message 5 _ is (omega arith)
  certified_report (replayed j t name bytes n k m holds short c) =
      let s : j ≡ job = same_job words content o j job n named in
      let e : ◌≡◌ {A = Task} (replay name) (verify workers leaves (Some file)) = sym k ∙ (ap (λ (x : JobNames). x.task) s ∙ task) in
      absurd (cc)

-- a certificate that is there
record IsThere (t : Texts) (live : List Bool) (file : List ℕ) (certificate : Option (List ℕ × List ℕ)) : Type 0 where
  bytes : List ℕ
  written : certificate ≡ Some (file, bytes)
  accepted : Accepts (programs_of t) (digests_of t) bytes live
  short : length bytes ≤ 9223372036854775807

certificate_there : (t : Texts) (live : List Bool) (file : List ℕ) (certificate : Option (List ℕ × List ℕ)) → IsCertified t live (Some file) certificate → IsThere t live file certificate
certificate_there t live file None h = absurd h
certificate_there t live file (Some made) h = record {
  bytes = made.1;
  written = λ i. Some (h.0 i, made.1);
  accepted = h.1;
  short = h.2;
}

-- ---- answers to its replay

-- a report of a replay is the only answer
only_answer : (words : List (List ℕ)) (o p : Outcome) (job : JobNames) (name : List ℕ) → job_of words ≡ Some job → job.task ≡ replay name → IsReported o → AreAlike words o p → o ≡ p
only_answer words o p job name named task r (same e) = e
only_answer words o p job name named task r (reports j ws ls n m k a b) =
    let s : j ≡ job = same_job words (λ _. None) o j job m named in
    let e : ◌≡◌ {A = Task} (verify ws ls n) (replay name) = sym k ∙ (ap (λ (x : JobNames). x.task) s ∙ task) in
    absurd (cc)

module _ (one_answer : OneAnswer) (first : List ℕ → Option (List ℕ)) (before : JobNames) (t : Texts) (old_bytes new_bytes : List ℕ) (old_known : first before.old ≡ Some old_bytes) (new_known : first before.new ≡ Some new_bytes) (matched : AreMatched first before t) where
  module _ (words : List (List ℕ)) (content : List ℕ → Option (List ℕ)) (old new certificate : List ℕ) (named : NamesTask words old new (replay certificate)) (old_same : content old ≡ first before.old) (new_same : content new ≡ first before.new) where
    abbrev job : JobNames
    job = record { old = old; new = new; task = replay certificate }

    matched_again : AreMatched content job t
    matched_again =
        let h = matched.are_read in
        record {
          are_read = record {
            old_content = λ b e. h.old_content b (sym old_same ∙ e);
            new_content = λ b e. h.new_content b (sym new_same ∙ e);
            old_read = h.old_read;
            new_read = h.new_read;
          };
          no_clash = matched.no_clash;
        }

    all_known : (bytes : List ℕ) → content certificate ≡ Some bytes → AreKnown words content
    all_known bytes e j n =
        subst (λ (x : JobNames). ((b : List ℕ) × (content x.old ≡ Some b)) × ((b : List ℕ) × (content x.new ≡ Some b)) × IsCertificateKnown x.task content)
        (same_job words content (message 0 []) job j named n) ((old_bytes, old_same ∙ old_known), (new_bytes, new_same ∙ new_known), (bytes, e))

    replay_answers : (live : List Bool) (bytes : List ℕ) (o : Outcome) → Accepts (programs_of t) (digests_of t) bytes live → length bytes ≤ 9223372036854775807 → IsReport Unknown t live o → IsReported o → content certificate ≡ Some bytes
        → (p : Outcome) × Answer words content p × ((q : Outcome) → Answer words content q → Confirms q o)
    replay_answers live bytes o accepted short is_report reported held =
        let p = replay_of t live in
        let holds : (b : List ℕ) → content certificate ≡ Some b → b ≡ bytes = λ b e. same_Some b bytes (sym e ∙ held) in
        let a : Answer words content p = replayed job t certificate bytes named refl matched_again holds short (is_replay t live bytes accepted) in
        let c : Confirms p o = confirms t live o is_report in (
          p,
          a,
          λ q b.
              subst (λ (x : Outcome). Confirms x o)
              (only_answer words p q job certificate named refl (subst (λ (n : ℕ). (n ≡ 0) ⊎ (n ≡ 1)) (sym c.status) reported) (one_answer words content p q (all_known bytes held) a b)) c,
        )

pub written_is_replayed : OneAnswer → WrittenIsReplayed
written_is_replayed one_answer words content o old new file workers leaves named (old_bytes, old_known) (new_bytes, new_known) answer reported =
    let job : JobNames = record { old = old; new = new; task = verify workers leaves (Some file) } in
    let c = certified_report words content o job workers leaves file named refl reported answer in
    let r = c.comparison in
    let there = certificate_there c.texts r.live file o.certificate r.certified in
    record {
      bytes = there.bytes;
      written = there.written;
      replayed = λ again now old' new' certificate names old_same new_same held.
          replay_answers one_answer content job c.texts old_bytes new_bytes old_known new_known c.matched again now old' new' certificate names old_same new_same r.live there.bytes o there.accepted there.short r.is_report reported held;
    }
