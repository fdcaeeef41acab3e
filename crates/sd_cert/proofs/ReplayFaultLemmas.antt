-- The first line that is refused, and the first bad step.
use Rattle.std.proofs.Common.{◌≡◌, ℕ, ◌+◌, ◌-◌, Bool, true, false, List, [], ◌∷◌, ◌++◌, length, get_or, take, refl, sym, ap, ◌∙◌, subst, arith, append_assoc, inl, inr}
use Rattle.std.specs.Prelude.{Option, Some, None}
use Rattle.std.specs.Option.{option_and_then}
use Rattle.std.specs.List.{AllByRecursion}
use Rattle.std.proofs.lemmas.List.{append-nil}
use Rattle.std.proofs.Math.Seq.{take-append_seam}
use Rattle.std.proofs.lemmas.Option.{same_Some}
use Rattle.sd_term.specs.Tree.{Tree}
use Rattle.sd_kernel.specs.Proof.{verdict}
use Rattle.sd_kernel.specs.declared.step.Verdict.{Verdict}
use Rattle.sd_kernel.specs.declared.step.Verdict.TheVariants.{Accepted, Rejected}
use Rattle.sd_kernel.specs.declared.How.{How}
use Rattle.sd_kernel.specs.declared.How.TheVariants.{Steps}
use Rattle.sd_kernel.specs.declared.Proved.{Proved}
use Rattle.sd_product.specs.Work.{PairedPrograms, queries_of}
use Rattle.sd_cert.specs.declared.header.PairHeader.{PairHeader}
use Rattle.sd_cert.specs.declared.digest.Digests.{Digests}
use Rattle.sd_cert.specs.declared.certificate.CertPair.{CertPair}
use Rattle.sd_cert.specs.declared.certificate.Certificate.{Certificate}
use Rattle.sd_cert.specs.declared.fault.CertError.{CertError}
use Rattle.sd_cert.specs.declared.fault.CertError.TheVariants.{NoMemory, Version as OtherVersion, Line as BadLine, OtherOld, OtherNew, OtherSettings, Pair as OtherPair, Step as BadStep}
use Rattle.sd_cert.specs.declared.line.Line.{Line}
use Rattle.sd_cert.specs.declared.line.Line.TheVariants.{Version, Old, New, Settings, Pairs, Pair, Candidate, Step as StepLine, Rows, Row, End}
use Rattle.sd_cert.specs.declared.refusal.Position.{Position}
use Rattle.sd_cert.specs.Lines.{IsLine}
use Rattle.sd_cert.specs.Text.{lines_text, HasLines}
use Rattle.sd_cert.specs.Phases.{Phase, at_version, complete, after_lines}
use Rattle.sd_cert.specs.Certificates.{certificate_lines, certificate_text, IsCertificate}
use Rattle.sd_cert.specs.Faults.{IsFault}
use Rattle.sd_cert.specs.Refusals.{fault_unless, or_next, refusal, position_after, first_position, first_refusal, refusal_or, first_fault}
use Rattle.sd_cert.specs.BadSteps.{verdict_fault, how_fault, entry_fault, entries_fault, pairs_fault}
use Rattle.sd_cert.specs.Headers.{headers_of}
use Rattle.sd_cert.specs.Tables.{table_of}
use Rattle.sd_cert.specs.ReplayFaults.{IsRefused, HasBadStep, IsReplayFault, IsCertificateFault}
use Rattle.sd_cert.proofs.TextLemmas.{lines_text-append}
use Rattle.sd_cert.proofs.AcceptLemmas.{certificate-end}
use Rattle.sd_cert.proofs.FaultLemmas.{after_lines-append, front-of}
use Rattle.sd_base.proofs.Lists.{all-front}

-- ---- bad steps

-- the error is of a step
IsOfStep : CertError → Type 0
IsOfStep (BadStep n cause) = Unit {0}
IsOfStep _ = ⊥

IsOfSteps : Option CertError → Type 0
IsOfSteps None = Unit {0}
IsOfSteps (Some e) = IsOfStep e

next-steps : (a b : Option CertError) → IsOfSteps a → IsOfSteps b → IsOfSteps (or_next a b)
next-steps None b f g = g
next-steps (Some e) b f g = f

verdict-steps : (line : ℕ) (r : Verdict) → IsOfSteps (verdict_fault line r)
unfolding IsOfSteps IsOfStep
verdict-steps line Accepted = tt
verdict-steps line (Rejected n cause) = tt

how-steps : (line : ℕ) (facts : List Tree) (h : How) → IsOfSteps (how_fault line facts h)
how-steps line facts (Steps p) = verdict-steps line (verdict facts p.steps)

entries-steps : (queries : List (List Tree)) (first : ℕ) (ps : List Proved) (line : ℕ) → IsOfSteps (entries_fault queries first line ps)
unfolding IsOfSteps
entries-steps queries first [] line = tt
entries-steps queries first (p ∷ ps) line =
    next-steps (entry_fault queries first line p) _ (how-steps (line + 1) (get_or queries (first + p.candidate) []) p.how) (entries-steps queries first ps _)

pairs-steps : (queries : List (List Tree)) (ss : List PairHeader) (ps : List CertPair) (first line : ℕ) → IsOfSteps (pairs_fault queries first line ss ps)
unfolding IsOfSteps
pairs-steps queries [] ps first line = tt
pairs-steps queries (s ∷ ss) [] first line = tt
pairs-steps queries (s ∷ ss) (p ∷ ps) first line =
    next-steps (entries_fault queries first (line + 1) p.proved) _ (entries-steps queries first p.proved (line + 1)) (pairs-steps queries ss ps _ _)

step-fault : (h : PairedPrograms) (d : Digests) (text : List ℕ) (e : CertError) → IsOfSteps (Some e) → HasBadStep h d text e → IsReplayFault h d text e
unfolding IsOfSteps IsOfStep
step-fault h d text (BadStep n cause) f s = s
step-fault h d text _ f s = absurd f

-- ---- refused lines

-- the error is of a line that is refused
IsOfWork : CertError → Type 0
IsOfWork OtherOld = Unit {0}
IsOfWork OtherNew = Unit {0}
IsOfWork OtherSettings = Unit {0}
IsOfWork (OtherPair i) = Unit {0}
IsOfWork _ = ⊥

unless-work : (b : Bool) (o e : CertError) → IsOfWork o → fault_unless b o ≡ Some e → IsOfWork e
unless-work true o e f h = absurd (cc)
unless-work false o e f h = subst IsOfWork (same_Some o e h) f

refusal-work : (headers : List PairHeader) (d : Digests) (position : Position) (l : Line) (e : CertError) → refusal headers d position l ≡ Some e → IsOfWork e
unfolding IsOfWork
refusal-work headers d position (Version n) e h = absurd (cc)
refusal-work headers d position (Old o) e h = unless-work _ OtherOld e tt h
refusal-work headers d position (New o) e h = unless-work _ OtherNew e tt h
refusal-work headers d position (Settings o) e h = unless-work _ OtherSettings e tt h
refusal-work headers d position (Pairs n) e h = unless-work _ (OtherPair _) e tt h
refusal-work headers d position (Pair i s) e h = unless-work _ (OtherPair i) e tt h
refusal-work headers d position (Candidate k) e h = unless-work _ (OtherPair _) e tt h
refusal-work headers d position (StepLine s) e h = absurd (cc)
refusal-work headers d position (Rows n) e h = absurd (cc)
refusal-work headers d position (Row r) e h = absurd (cc)
refusal-work headers d position End e h = absurd (cc)

-- the lines up to the first that is refused
record Split (headers : List PairHeader) (d : Digests) (position : Position) (lines : List Line) (e : CertError) : Type 0 where
  front : List Line
  line : Line
  after : List Line
  whole : lines ≡ front ++ line ∷ after
  passed : first_refusal headers d position front ≡ None
  refused : first_refusal headers d position (front ++ line ∷ []) ≡ Some e
  work : IsOfWork e

split-refused : (headers : List PairHeader) (d : Digests) (position : Position) (ls : List Line) (e : CertError) → first_refusal headers d position ls ≡ Some e → Split headers d position ls e
split-refused headers d position [] e h = absurd (cc)
split-refused headers d position (l ∷ ls) e h = go (refusal headers d position l) refl (split-refused headers d (position_after position l) ls e) h
  where
    go : (o : Option CertError) → refusal headers d position l ≡ o → (first_refusal headers d (position_after position l) ls ≡ Some e → Split headers d (position_after position l) ls e) → or_next o (first_refusal headers d (position_after position l) ls) ≡ Some e → Split headers d position (l ∷ ls) e
    go None is others k =
        let more = others k in
        record {
          front = l ∷ more.front;
          line = more.line;
          after = more.after;
          whole = ap (λ t. l ∷ t) more.whole;
          passed = ap (λ o. or_next o (first_refusal headers d (position_after position l) more.front)) is ∙ more.passed;
          refused = ap (λ o. or_next o (first_refusal headers d (position_after position l) (more.front ++ more.line ∷ []))) is ∙ more.refused;
          work = more.work;
        }
    go (Some x) is others k = record {
      front = [];
      line = l;
      after = ls;
      whole = refl;
      passed = refl;
      refused = ap (λ o. or_next o None) is ∙ k;
      work = refusal-work headers d position l e (is ∙ k);
    }

front-stands : (p q : Phase) (xs ys : List Line) → after_lines p (xs ++ ys) ≡ Some q → (r : Phase) × (after_lines p xs ≡ Some r)
front-stands p q xs ys h = go (after_lines p xs) refl (sym (after_lines-append p xs ys) ∙ h)
  where
    go : (o : Option Phase) → after_lines p xs ≡ o → option_and_then (λ r. after_lines r ys) o ≡ Some q → (r : Phase) × (after_lines p xs ≡ Some r)
    go None is k = absurd (cc)
    go (Some r) is k = (r, is)

work-fault : (h : PairedPrograms) (d : Digests) (text : List ℕ) (e : CertError) → IsOfWork e → IsRefused (headers_of h) d text e → IsReplayFault h d text e
unfolding IsOfWork
work-fault h d text OtherOld f r = r
work-fault h d text OtherNew f r = r
work-fault h d text OtherSettings f r = r
work-fault h d text (OtherPair i) f r = r
work-fault h d text _ f r = absurd f

module _ (h : PairedPrograms) (d : Digests) (text : List ℕ) where
  refused-fault : (lines : List Line) (rest : List ℕ) (phase : Phase) (e : CertError) → AllByRecursion IsLine lines → text ≡ lines_text lines ++ rest → after_lines at_version lines ≡ Some phase → first_refusal (headers_of h) d first_position lines ≡ Some e → IsReplayFault h d text e
  refused-fault lines rest phase e fit whole stand f =
      let s = split-refused (headers_of h) d first_position lines e f in
      let upto = s.front ++ s.line ∷ [] in
      let parts : lines ≡ upto ++ s.after = s.whole ∙ sym (append_assoc s.front (s.line ∷ []) s.after) in
      let stands = front-stands at_version phase upto s.after (ap (after_lines at_version) (sym parts) ∙ stand) in
      work-fault h d text e s.work record {
        front = s.front;
        line = s.line;
        rest = lines_text s.after ++ rest;
        phase = stands.0;
        fit = all-front IsLine upto s.after (subst (λ (ls : List Line). AllByRecursion IsLine ls) parts fit);
        whole =
            whole ∙ ap (λ ls. lines_text ls ++ rest) parts ∙ ap (λ t. t ++ rest) (lines_text-append upto s.after)
            ∙ append_assoc (lines_text upto) (lines_text s.after) rest;
        stand = stands.1;
        passed = s.passed;
        refused = s.refused;
      }

  pub certificate-fault : (c : Certificate) (e : CertError) → IsCertificate c → text ≡ certificate_text c → IsCertificateFault h d c e → IsReplayFault h d text e
  certificate-fault c e f t (inl m) = subst (λ (x : CertError). IsReplayFault h d text x) (sym m) tt
  certificate-fault c e f t (inr (inl r)) = refused-fault (certificate_lines c) [] complete e f (t ∙ sym (append-nil (certificate_text c))) (certificate-end c) r
  certificate-fault c e f t (inr (inr s)) =
      step-fault h d text e (subst IsOfSteps s.2 (pairs-steps (queries_of h (table_of (headers_of h) c.pairs)) (headers_of h) c.pairs 0 6)) record {
        certificate = c;
        form = f;
        whole = t;
        same_digests = s.0;
        fits = s.1;
        step = s.2;
      }

-- ---- lines that were read

module _ (h : PairedPrograms) (d : Digests) (text : List ℕ) (lines : List Line) (rest : List ℕ) (has : HasLines text lines rest) where
  before-is : (n : ℕ) (ls : List Line) (others : List ℕ) → AllByRecursion IsLine ls → text ≡ lines_text ls ++ others → n ≡ length ls + 1 → ls ≡ take (n - 1) lines
  before-is n ls others f w e =
      let count : length ls ≡ n - 1 = omega arith in
      let parts = front-of ls lines others rest f has.fit has.stop (sym w ∙ has.whole) in
      sym (take-append_seam ls parts.0) ∙ ap (take (length ls)) (sym parts.1) ∙ ap (λ k. take k lines) count

  line-fault : (n : ℕ) → IsFault text (BadLine n) → (o : Option CertError) → first_refusal (headers_of h) d first_position (take (n - 1) lines) ≡ o → IsReplayFault h d text (refusal_or o (BadLine n))
  line-fault n fault None is = (fault, λ ls others f w e. ap (first_refusal (headers_of h) d first_position) (before-is n ls others f w e) ∙ is)
  line-fault n fault (Some e) is =
      let at = fault.0 in
      refused-fault h d text at.lines at.rest at.phase e at.fit at.whole at.before (ap (first_refusal (headers_of h) d first_position) (before-is n at.lines at.rest at.fit at.whole at.number) ∙ is)

  pub reading-fault : (fault : CertError) → IsFault text fault → IsReplayFault h d text (first_fault (headers_of h) d lines fault)
  reading-fault NoMemory f = tt
  reading-fault (OtherVersion v) f = f
  reading-fault (BadLine n) f = line-fault n f (first_refusal (headers_of h) d first_position (take (n - 1) lines)) refl
  reading-fault _ f = absurd f
