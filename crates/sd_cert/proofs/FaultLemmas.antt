-- Where lines stop to follow one another.
use Rattle.std.proofs.Common.{◌≡◌, ◌≢◌, ℕ, zero, suc, ◌+◌, ◌<◌, ◌==◌, Bool, true, false, cond, List, [], ◌∷◌, ◌++◌, length, get_or, take, drop, refl, sym, ap, ◌∙◌, subst, arith, append_assoc, length-append}
use Rattle.std.specs.Prelude.{Option, Some, None}
use Rattle.std.specs.Option.{option_and_then}
use Rattle.std.specs.List.{AllByRecursion}
use Rattle.std.proofs.lemmas.List.{take-append-drop, drop_more, take_more, length-take-le}
use Rattle.std.proofs.lemmas.Option.{same_Some}
use borrow.Author.Tests.{eqb-true}
use Rattle.sd_base.proofs.Lists.{all-front, all-back}
use Rattle.sd_cert.specs.declared.certificate.Certificate.{Certificate}
use Rattle.sd_cert.specs.declared.prefix.Prefix.{Prefix}
use Rattle.sd_cert.specs.declared.prefix.Prefix.TheVariants as prefix
use Rattle.sd_cert.specs.declared.fault.CertError.{CertError}
use Rattle.sd_cert.specs.declared.fault.CertError.TheVariants.{NoMemory, Version as OtherVersion, Line as BadLine}
use Rattle.sd_cert.specs.declared.line.Line.{Line}
use Rattle.sd_cert.specs.declared.line.Line.TheVariants.{Version}
use Rattle.sd_cert.specs.Lines.{line_text, IsLine}
use Rattle.sd_cert.specs.Text.{lines_text, BeginsWithoutLine, HasLines}
use Rattle.sd_cert.specs.Phases.{Phase, at_version, at_old, complete, after_line, after_lines}
use Rattle.sd_cert.specs.Prefixes.{prefix_lines, phase_of, IsExtension}
use Rattle.sd_cert.specs.Faults.{StopsAt, HasVersion, IsFault, IsStuckAt, IsLineFault, IsPlaceFault}
use Rattle.sd_cert.proofs.TextLemmas.{no_feed, first_line-unique, lines_text-append}
use Rattle.sd_cert.proofs.OneLine.{line_text-injective}

then_some : {A : Type 0} (o : Option A) → option_and_then (λ (q : A). Some q) o ≡ o
then_some None = refl
then_some (Some x) = refl

pub after_lines-append : (p : Phase) (ls ms : List Line) → after_lines p (ls ++ ms) ≡ option_and_then (λ q. after_lines q ms) (after_lines p ls)
after_lines-append p [] ms = refl
after_lines-append p (l ∷ ls) ms = go (after_line p l) (λ q. after_lines-append q ls ms)
  where
    go : (o : Option Phase) → ((q : Phase) → after_lines q (ls ++ ms) ≡ option_and_then (λ r. after_lines r ms) (after_lines q ls)) → option_and_then (λ q. after_lines q (ls ++ ms)) o ≡ option_and_then (λ r. after_lines r ms) (option_and_then (λ q. after_lines q ls) o)
    go None h = refl
    go (Some q) h = h q

module _ (lines : List Line) (i : ℕ) (d : Line) (reading : Prefix) (within : i < length lines) (same : prefix_lines reading ≡ take i lines) (phase : after_lines at_version (take i lines) ≡ Some (phase_of reading)) where
  pub prefix-step : (longer : Prefix) → IsExtension reading (get_or lines i d) (Some longer) → (prefix_lines longer ≡ take (i + 1) lines) × (after_lines at_version (take (i + 1) lines) ≡ Some (phase_of longer))
  prefix-step longer g = (
    g.0 ∙ ap (λ ls. ls ++ get_or lines i d ∷ []) same ∙ sym (take_more lines i d within),
    ap (after_lines at_version) (take_more lines i d within) ∙ after_lines-append at_version (take i lines) (get_or lines i d ∷ [])
        ∙ ap (option_and_then (λ q. after_lines q (get_or lines i d ∷ []))) phase ∙ then_some (after_line (phase_of reading) (get_or lines i d)) ∙ g.1,
  )

-- a first line of a version that can be followed is that of this version
follows_version : (v : ℕ) (ls : List Line) (p : Phase) → after_lines at_version (Version v ∷ ls) ≡ Some p → v ≡ 1
follows_version v ls p h = go (v == 1) refl h
  where
    go : (t : Bool) → (v == 1) ≡ t → option_and_then (λ q. after_lines q ls) (cond t (Some at_old) None) ≡ Some p → v ≡ 1
    go true e k = eqb-true v 1 e
    go false e k = absurd (cc)

stuck_version : (v : ℕ) → after_line at_version (Version v) ≡ None → v ≢ 1
stuck_version v h e = let k = ap (λ n. after_line at_version (Version n)) e in absurd (cc)

version-follows : (lines : List Line) (i : ℕ) (p : Phase) → after_lines at_version (take (suc i) lines) ≡ Some p → (v : ℕ) (after : List Line) → lines ≡ Version v ∷ after → v ≡ 1
version-follows lines i p h v after e = follows_version v (take i after) p (ap (λ ls. after_lines at_version (take (suc i) ls)) (sym e) ∙ h)

bad_version : (lines : List Line) (i : ℕ) (d : Line) (p : Phase) → after_lines at_version (take i lines) ≡ Some p → ((v : ℕ) → i ≡ 0 → get_or lines i d ≢ Version v) → (v : ℕ) (after : List Line) → lines ≡ Version v ∷ after → v ≡ 1
bad_version lines zero d p h other v after e = absurd (other v refl (ap (λ ls. get_or ls 0 d) e))
bad_version lines (suc i) d p h other v after e = version-follows lines i p h v after e

pub stuck_fault : (lines : List Line) (i : ℕ) (d : Line) (reading : Prefix) (e : CertError) → i < length lines → after_lines at_version (take i lines) ≡ Some (phase_of reading) → IsExtension reading (get_or lines i d) None → IsPlaceFault i (get_or lines i d) e → IsLineFault lines e
stuck_fault lines i d reading NoMemory within phase stuck place = tt
stuck_fault lines i d reading (OtherVersion v) within phase stuck place =
    let first : 0 < length lines = omega arith
    in let begins = same_Some at_version (phase_of reading) (ap (λ k. after_lines at_version (take k lines)) (sym place.0) ∙ phase)
    in (
      drop 1 lines,
      drop_more lines 0 d first ∙ ap (λ l. l ∷ drop 1 lines) (ap (λ k. get_or lines k d) (sym place.0) ∙ place.1),
      stuck_version v (ap (λ p. after_line p (Version v)) begins ∙ ap (after_line (phase_of reading)) (sym place.1) ∙ stuck),
    )
stuck_fault lines i d reading (BadLine n) within phase stuck place = (
  record {
    front = take i lines;
    line = get_or lines i d;
    after = drop (i + 1) lines;
    phase = phase_of reading;
    whole = sym (take-append-drop i lines) ∙ ap (λ t. take i lines ++ t) (drop_more lines i d within);
    before = phase;
    stuck = stuck;
    number = place.0 ∙ ap (λ k. k + 1) (sym (length-take-le i lines (omega arith)));
  },
  λ v after e. bad_version lines i d (phase_of reading) phase place.1 v after e,
)
stuck_fault lines i d reading _ within phase stuck place = absurd place

pub not_complete : (reading : Prefix) → ((c : Certificate) → reading ≡ prefix.Complete c → ⊥) → phase_of reading ≡ complete → ⊥
not_complete (prefix.Complete c) n e = n c refl
not_complete _ n e = absurd (cc)

-- lines in front of a text are a front of its lines
pub front-of : (ls ms : List Line) (rest others : List ℕ) → AllByRecursion IsLine ls → AllByRecursion IsLine ms → BeginsWithoutLine others → lines_text ls ++ rest ≡ lines_text ms ++ others → (more : List Line) × (ms ≡ ls ++ more) × (rest ≡ lines_text more ++ others) × AllByRecursion IsLine more
front-of [] ms rest others f g stop e = (ms, refl, e, g)
front-of (l ∷ ls) [] rest others f g stop e = absurd (stop l (lines_text ls ++ rest) f.0 (sym e ∙ append_assoc (line_text l) (10 ∷ lines_text ls) rest))
front-of (l ∷ ls) (m ∷ ms) rest others f g stop e =
    let parts = first_line-unique (line_text l) (lines_text ls ++ rest) (line_text m) (lines_text ms ++ others) (no_feed l f.0) (no_feed m g.0)
    (sym (append_assoc (line_text l) (10 ∷ lines_text ls) rest) ∙ e ∙ append_assoc (line_text m) (10 ∷ lines_text ms) others) in
    let same : l ≡ m = line_text-injective l m f.0 g.0 parts.0 in
    let more = front-of ls ms rest others f.1 g.1 stop parts.1 in
    (more.0, (let r = more.1 in cc), more.2, more.3)

version_is_first : (text : List ℕ) (lines : List Line) (rest : List ℕ) → HasLines text lines rest → (v : ℕ) → HasVersion text v → (after : List Line) × (lines ≡ Version v ∷ after)
version_is_first text lines rest has v version =
    let parts = front-of (Version v ∷ []) lines version.more rest (version.fits, tt) has.fit has.stop
    (append_assoc (line_text (Version v)) (10 ∷ []) version.more ∙ sym version.line ∙ has.whole) in
    (parts.0, parts.1)

pub end_fault : (text : List ℕ) (lines : List Line) (rest : List ℕ) (reading : Prefix) → HasLines text lines rest → after_lines at_version lines ≡ Some (phase_of reading) → (phase_of reading ≡ complete → rest ≡ [] → ⊥) → IsFault text (BadLine (length lines + 1))
end_fault text lines rest reading has phase unfinished = (
  record {
    lines = lines;
    rest = rest;
    phase = phase_of reading;
    fit = has.fit;
    whole = has.whole;
    before = phase;
    stuck = λ l more f e. absurd (has.stop l more f e);
    unfinished = unfinished;
    number = refl;
  },
  λ v version. let first = version_is_first text lines rest has v version in follows_version v first.0 (phase_of reading) (ap (after_lines at_version) (sym first.1) ∙ phase),
)

stops : (text : List ℕ) (lines : List Line) (rest : List ℕ) (n : ℕ) → HasLines text lines rest → IsStuckAt lines n → StopsAt text n
stops text lines rest n has at =
    let fit = subst (λ (ls : List Line). AllByRecursion IsLine ls) at.whole has.fit
    in let one = (all-back IsLine at.front (at.line ∷ at.after) fit).0
    in let left = line_text at.line ++ 10 ∷ (lines_text at.after ++ rest)
    in record {
      lines = at.front;
      rest = left;
      phase = at.phase;
      fit = all-front IsLine at.front (at.line ∷ at.after) fit;
      whole =
          has.whole ∙ ap (λ ls. lines_text ls ++ rest) at.whole ∙ ap (λ t. t ++ rest) (lines_text-append at.front (at.line ∷ at.after))
          ∙ append_assoc (lines_text at.front) (line_text at.line ++ 10 ∷ lines_text at.after) rest
          ∙ ap (λ t. lines_text at.front ++ t) (append_assoc (line_text at.line) (10 ∷ lines_text at.after) rest);
      before = at.before;
      stuck = λ l more f e.
          let parts = first_line-unique (line_text at.line) (lines_text at.after ++ rest) (line_text l) more (no_feed at.line one) (no_feed l f) e
          in ap (after_line at.phase) (sym (line_text-injective at.line l one f parts.0)) ∙ at.stuck;
      unfinished = λ d e. absurd (omega (arith, ap length e, length-append (line_text at.line) (10 ∷ (lines_text at.after ++ rest))));
      number = at.number;
    }

pub line_fault : (text : List ℕ) (lines : List Line) (rest : List ℕ) (e : CertError) → HasLines text lines rest → IsLineFault lines e → IsFault text e
line_fault text lines rest NoMemory has f = tt
line_fault text lines rest (OtherVersion v) has f = (
  record {
    more = lines_text f.0 ++ rest;
    fits = (subst (λ (ls : List Line). AllByRecursion IsLine ls) f.1 has.fit).0;
    line = has.whole ∙ ap (λ ls. lines_text ls ++ rest) f.1 ∙ append_assoc (line_text (Version v)) (10 ∷ lines_text f.0) rest;
  },
  f.2,
)
line_fault text lines rest (BadLine n) has f = (stops text lines rest n has f.0, λ v version. let first = version_is_first text lines rest has v version in f.1 v first.0 first.1)
line_fault text lines rest _ has f = absurd f
