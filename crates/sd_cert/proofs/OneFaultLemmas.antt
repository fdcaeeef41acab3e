-- The lines in front of a text that stand and are not refused lead to one fault.
use Rattle.std.proofs.Common.{◌≡◌, ◌≢◌, ℕ, ◌==◌, Bool, true, false, cond, List, [], ◌∷◌, ◌++◌, length, refl, sym, ap, ◌∙◌, arith, append_assoc, length-append, inl, inr}
use Rattle.std.specs.Prelude.{Option, Some, None, ◌⊎◌}
use Rattle.std.specs.Option.{option_and_then}
use Rattle.std.specs.List.{AllByRecursion}
use Rattle.std.proofs.lemmas.List.{append-nil}
use Rattle.std.proofs.lemmas.Option.{same_Some, none-some}
use borrow.Author.Tests.{eqb-true}
use Rattle.sd_product.specs.Work.{PairedPrograms}
use Rattle.sd_cert.specs.declared.header.PairHeader.{PairHeader}
use Rattle.sd_cert.specs.declared.digest.Digests.{Digests}
use Rattle.sd_cert.specs.declared.certificate.Certificate.{Certificate}
use Rattle.sd_cert.specs.declared.fault.CertError.{CertError}
use Rattle.sd_cert.specs.declared.fault.CertError.TheVariants.{NoMemory, Version as OtherVersion, Line as BadLine, Step as BadStep}
use Rattle.sd_cert.specs.declared.line.Line.{Line}
use Rattle.sd_cert.specs.declared.line.Line.TheVariants.{Version}
use Rattle.sd_cert.specs.declared.refusal.Position.{Position}
use Rattle.sd_cert.specs.Lines.{line_text, IsLine}
use Rattle.sd_cert.specs.Text.{lines_text}
use Rattle.sd_cert.specs.Phases.{Phase, at_version, at_old, after_line, after_lines}
use Rattle.sd_cert.specs.Certificates.{certificate_lines, certificate_text, IsCertificate}
use Rattle.sd_cert.specs.Faults.{StopsAt, HasVersion, IsFault}
use Rattle.sd_cert.specs.Refusals.{or_next, refusal, position_after, first_position, first_refusal}
use Rattle.sd_cert.specs.BadSteps.{step_fault}
use Rattle.sd_cert.specs.Headers.{headers_of}
use Rattle.sd_cert.specs.Accepts.{Accepts}
use Rattle.sd_cert.specs.ReplayFaults.{IsRefused, HasBadStep, IsReplayFault}
use Rattle.sd_cert.specs.OneFault.{HasOneFault, AcceptedHasNoFault}
use Rattle.sd_cert.proofs.TextLemmas.{no_feed, first_line-unique}
use Rattle.sd_cert.proofs.OneLine.{line_text-injective}
use Rattle.sd_cert.proofs.OneCertificate.{one_certificate}
use Rattle.sd_cert.proofs.AcceptLemmas.{no_fault}
use Rattle.sd_cert.proofs.FaultLemmas.{after_lines-append, front-of}
use Rattle.sd_cert.proofs.RefusalLemmas.{certificate-passes}
use Rattle.sd_cert.proofs.ReplayLemmas.{check-only}

-- ---- lines in front of one text

-- more lines follow the one front of a text to the other
record Follow (ls ms : List Line) (rest others : List ℕ) : Type 0 where
  more : List Line
  whole : ms ≡ ls ++ more
  left : rest ≡ lines_text more ++ others
  fit : AllByRecursion IsLine more

fronts : (ls ms : List Line) (rest others : List ℕ) → AllByRecursion IsLine ls → AllByRecursion IsLine ms → lines_text ls ++ rest ≡ lines_text ms ++ others → Follow ls ms rest others ⊎ Follow ms ls others rest
fronts [] ms rest others f g e = inl (record { more = ms; whole = refl; left = e; fit = g })
fronts (l ∷ ls) [] rest others f g e = inr (record { more = l ∷ ls; whole = refl; left = sym e; fit = f })
fronts (l ∷ ls) (m ∷ ms) rest others f g e =
    let parts = first_line-unique (line_text l) (lines_text ls ++ rest) (line_text m) (lines_text ms ++ others) (no_feed l f.0) (no_feed m g.0)
    (sym (append_assoc (line_text l) (10 ∷ lines_text ls) rest) ∙ e ∙ append_assoc (line_text m) (10 ∷ lines_text ms) others) in
    go (line_text-injective l m f.0 g.0 parts.0) (fronts ls ms rest others f.1 g.1 parts.1)
  where
    go : l ≡ m → Follow ls ms rest others ⊎ Follow ms ls others rest → Follow (l ∷ ls) (m ∷ ms) rest others ⊎ Follow (m ∷ ms) (l ∷ ls) others rest
    go same (inl p) = inl (record { more = p.more; whole = (let w = p.whole in cc); left = p.left; fit = p.fit })
    go same (inr p) = inr (record { more = p.more; whole = (let w = p.whole in cc); left = p.left; fit = p.fit })

one_version : (text : List ℕ) (v w : ℕ) → HasVersion text v → HasVersion text w → v ≡ w
one_version text v w a b =
    let parts = first_line-unique (line_text (Version v)) a.more (line_text (Version w)) b.more (no_feed (Version v) a.fits) (no_feed (Version w) b.fits) (sym a.line ∙ b.line) in
    let same : Version v ≡ Version w = line_text-injective (Version v) (Version w) a.fits b.fits parts.0 in cc

-- ---- where a text stops

other_version : (v : ℕ) → v ≢ 1 → after_line at_version (Version v) ≡ None
other_version v n = go (v == 1) refl
  where
    go : (b : Bool) → (v == 1) ≡ b → cond (v == 1) (Some at_old) None ≡ None
    go true e = absurd (n (eqb-true v 1 e))
    go false e = ap (λ (b : Bool). cond b (Some at_old) None) e

stops_at_version : (text : List ℕ) (v : ℕ) → HasVersion text v → v ≢ 1 → StopsAt text 1
stops_at_version text v has n = record {
  lines = [];
  rest = text;
  phase = at_version;
  fit = tt;
  whole = refl;
  before = refl;
  stuck = λ l more f e.
      let parts = first_line-unique (line_text (Version v)) has.more (line_text l) more (no_feed (Version v) has.fits) (no_feed l f) (sym has.line ∙ e) in
      ap (after_line at_version) (sym (line_text-injective (Version v) l has.fits f parts.0)) ∙ other_version v n;
  unfinished = λ e. absurd (cc);
  number = refl;
}

-- lines that stand are in front of the stop
stop_follows : (text : List ℕ) (n : ℕ) (at : StopsAt text n) (ls : List Line) (others : List ℕ) (q : Phase) → AllByRecursion IsLine ls → text ≡ lines_text ls ++ others → after_lines at_version ls ≡ Some q → (more : List Line) × (at.lines ≡ ls ++ more)
stop_follows text n at ls others q f w stand = go (fronts at.lines ls at.rest others at.fit f (sym at.whole ∙ w))
  where
    none : (more : List Line) → ls ≡ at.lines ++ more → at.rest ≡ lines_text more ++ others → AllByRecursion IsLine more → more ≡ []
    none [] e left fit = refl
    none (l ∷ more) e left fit =
        let stuck = at.stuck l (lines_text more ++ others) fit.0 (left ∙ append_assoc (line_text l) (10 ∷ lines_text more) others) in
        let all = ap (after_lines at_version) e ∙ after_lines-append at_version at.lines (l ∷ more) ∙ ap (option_and_then (λ r. after_lines r (l ∷ more))) at.before in
        absurd (none-some q (sym (ap (option_and_then (λ r. after_lines r more)) stuck) ∙ sym all ∙ stand))

    go : Follow at.lines ls at.rest others ⊎ Follow ls at.lines others at.rest → (more : List Line) × (at.lines ≡ ls ++ more)
    go (inl p) = ([], sym (p.whole ∙ ap (λ t. at.lines ++ t) (none p.more p.whole p.left p.fit) ∙ append-nil at.lines) ∙ sym (append-nil ls))
    go (inr p) = (p.more, p.whole)

one_stop : (text : List ℕ) (m n : ℕ) → StopsAt text m → StopsAt text n → m ≡ n
one_stop text m n a b =
    let first = stop_follows text m a b.lines b.rest b.phase b.fit b.whole b.before in
    let second = stop_follows text n b a.lines a.rest a.phase a.fit a.whole a.before in
    omega (arith, a.number, b.number, ap length first.1, ap length second.1, length-append b.lines first.0, length-append a.lines second.0)

one_text_fault : (text : List ℕ) (e f : CertError) → e ≢ NoMemory → f ≢ NoMemory → IsFault text e → IsFault text f → e ≡ f
one_text_fault text NoMemory f m n a b = absurd (m refl)
one_text_fault text (OtherVersion v) NoMemory m n a b = absurd (n refl)
one_text_fault text (OtherVersion v) (OtherVersion w) m n a b = ap OtherVersion (one_version text v w a.0 b.0)
one_text_fault text (OtherVersion v) (BadLine k) m n a b = absurd (a.1 (b.1 v a.0))
one_text_fault text (OtherVersion v) _ m n a b = absurd b
one_text_fault text (BadLine i) NoMemory m n a b = absurd (n refl)
one_text_fault text (BadLine i) (OtherVersion w) m n a b = absurd (b.1 (a.1 w b.0))
one_text_fault text (BadLine i) (BadLine k) m n a b = ap BadLine (one_stop text i k a.0 b.0)
one_text_fault text (BadLine i) _ m n a b = absurd b
one_text_fault text _ f m n a b = absurd a

-- ---- lines that are refused

refusal-more : (headers : List PairHeader) (d : Digests) (position : Position) (ls more : List Line) (e : CertError) → first_refusal headers d position ls ≡ Some e → first_refusal headers d position (ls ++ more) ≡ Some e
refusal-more headers d position [] more e h = absurd (cc)
refusal-more headers d position (l ∷ ls) more e h = go (refusal headers d position l) h (refusal-more headers d (position_after position l) ls more e)
  where
    go : (o : Option CertError) → or_next o (first_refusal headers d (position_after position l) ls) ≡ Some e → (first_refusal headers d (position_after position l) ls ≡ Some e → first_refusal headers d (position_after position l) (ls ++ more) ≡ Some e)
        → or_next o (first_refusal headers d (position_after position l) (ls ++ more)) ≡ Some e
    go None k later = later k
    go (Some x) k later = k

-- ---- the kinds of faults

data Kind (h : PairedPrograms) (d : Digests) (text : List ℕ) (e : CertError) : Type 0 where
  stopped : (n : ℕ) (at : StopsAt text n) → IsFault text e → first_refusal (headers_of h) d first_position at.lines ≡ None → Kind h d text e
  refused : IsRefused (headers_of h) d text e → Kind h d text e
  stepped : HasBadStep h d text e → Kind h d text e

module _ (h : PairedPrograms) (d : Digests) (text : List ℕ) where
  kind_of : (e : CertError) → e ≢ NoMemory → IsReplayFault h d text e → Kind h d text e
  unfolding stops_at_version
  kind_of NoMemory n f = absurd (n refl)
  kind_of (OtherVersion v) n f = stopped 1 (stops_at_version text v f.0 f.1) f refl
  kind_of (BadLine k) n f = let at = f.0.0 in stopped k at f.0 (f.1 at.lines at.rest at.fit at.whole at.number)
  kind_of (BadStep k cause) n f = stepped f
  kind_of _ n f = refused f

  refused_more : (e : CertError) (r : IsRefused (headers_of h) d text e) (ls more : List Line) → ls ≡ (r.front ++ r.line ∷ []) ++ more → first_refusal (headers_of h) d first_position ls ≡ Some e
  refused_more e r ls more is = ap (first_refusal (headers_of h) d first_position) is ∙ refusal-more (headers_of h) d first_position (r.front ++ r.line ∷ []) more e r.refused

  one_refusal : (e f : CertError) → IsRefused (headers_of h) d text e → IsRefused (headers_of h) d text f → e ≡ f
  one_refusal e f r s = go (fronts upto_r upto_s r.rest s.rest r.fit s.fit (sym r.whole ∙ s.whole))
    where
      upto_r : List Line
      upto_r = r.front ++ r.line ∷ []

      upto_s : List Line
      upto_s = s.front ++ s.line ∷ []

      go : Follow upto_r upto_s r.rest s.rest ⊎ Follow upto_s upto_r s.rest r.rest → e ≡ f
      go (inl p) = same_Some e f (sym (refused_more e r upto_s p.more p.whole) ∙ s.refused)
      go (inr p) = same_Some e f (sym r.refused ∙ refused_more f s upto_r p.more p.whole)

  refused_certificate : (e : CertError) (c : Certificate) → IsCertificate c → text ≡ certificate_text c → IsRefused (headers_of h) d text e → first_refusal (headers_of h) d first_position (certificate_lines c) ≡ Some e
  refused_certificate e c f w r =
      let p = front-of (r.front ++ r.line ∷ []) (certificate_lines c) r.rest [] r.fit f (λ l more g k. absurd (omega (arith, ap length k, length-append (line_text l) (10 ∷ more)))) (sym r.whole ∙ w ∙ sym (append-nil (certificate_text c))) in
      refused_more e r (certificate_lines c) p.0 p.1

  one_step : (e f : CertError) → HasBadStep h d text e → HasBadStep h d text f → e ≡ f
  one_step e f a b =
      let same = one_certificate a.certificate b.certificate a.form b.form (sym a.whole ∙ b.whole) in
      same_Some e f (sym a.step ∙ ap (λ (c : Certificate). step_fault h c.pairs) same ∙ b.step)

  not_refused : (e : CertError) (n : ℕ) (at : StopsAt text n) → first_refusal (headers_of h) d first_position at.lines ≡ None → IsRefused (headers_of h) d text e → ⊥
  not_refused e n at pass r =
      let p = stop_follows text n at (r.front ++ r.line ∷ []) r.rest r.phase r.fit r.whole r.stand in
      none-some e (sym pass ∙ refused_more e r at.lines p.0 p.1)

  fits : (e f : CertError) → IsRefused (headers_of h) d text e → HasBadStep h d text f → ⊥
  fits e f r s = none-some e (sym (certificate-passes (headers_of h) d s.certificate s.same_digests s.fits) ∙ refused_certificate e s.certificate s.form s.whole r)

  one_kind : (e f : CertError) → e ≢ NoMemory → f ≢ NoMemory → Kind h d text e → Kind h d text f → e ≡ f
  one_kind e f m n (stopped i at a pass) (stopped k _ b _) = one_text_fault text e f m n a b
  one_kind e f m n (stopped i at a pass) (refused s) = absurd (not_refused f i at pass s)
  one_kind e f m n (stopped i at a pass) (stepped s) = absurd (m (no_fault text s.certificate e s.form s.whole a))
  one_kind e f m n (refused r) (stopped i at b pass) = absurd (not_refused e i at pass r)
  one_kind e f m n (refused r) (refused s) = one_refusal e f r s
  one_kind e f m n (refused r) (stepped s) = absurd (fits e f r s)
  one_kind e f m n (stepped r) (stopped i at b pass) = absurd (n (no_fault text r.certificate f r.form r.whole b))
  one_kind e f m n (stepped r) (refused s) = absurd (fits f e s r)
  one_kind e f m n (stepped r) (stepped s) = one_step e f r s

  no_kind : (t : List Bool) (e : CertError) → Accepts h d text t → e ≢ NoMemory → Kind h d text e → ⊥
  no_kind t e a m (stopped i at f pass) = m (no_fault text a.certificate e a.form a.text f)
  no_kind t e a m (refused r) = check-only h d text a.certificate e a.form a.text (inr (inl (refused_certificate e a.certificate a.form a.text r))) m t a
  no_kind t e a m (stepped s) = check-only h d text s.certificate e s.form s.whole (inr (inr (s.same_digests, s.fits, s.step))) m t a

pub one_fault : HasOneFault
one_fault h d text e f a b = one_kind h d text e f a.named b.named (kind_of h d text e a.named a.fault) (kind_of h d text f b.named b.fault)

pub no_fault_accepted : AcceptedHasNoFault
no_fault_accepted h d text t e a f = no_kind h d text t e a f.named (kind_of h d text e f.named f.fault)
