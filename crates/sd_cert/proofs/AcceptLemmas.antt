-- The lines of a certificate follow one another to the end.
use Rattle.std.proofs.Common.{◌≡◌, ℕ, ◌+◌, ◌<◌, Bool, true, false, cond, List, [], ◌∷◌, ◌++◌, map, length, refl, sym, ap, ◌∙◌, subst, arith, append_assoc, length-append, inl, inr, eq-eqb, lt-ltb}
use Rattle.std.specs.Prelude.{Some, None, Result, Ok, Err, IfOk, IfErr, ◌⊎◌}
use Rattle.std.specs.Cmp.Derive.{both_true}
use Rattle.std.specs.Option.{option_and_then}
use Rattle.std.proofs.lemmas.List.{append-nil}
use Rattle.std.proofs.lemmas.Option.{same_Some}
use Rattle.std.specs.List.{AllByRecursion, flat_map}
use Rattle.sd_kernel.specs.declared.Step.{Step}
use Rattle.sd_kernel.specs.declared.Step.TheVariants.{Rows as RowsStep}
use Rattle.sd_kernel.specs.declared.RowLine.{RowLine}
use Rattle.sd_kernel.specs.declared.How.{How}
use Rattle.sd_kernel.specs.declared.How.TheVariants.{Steps}
use Rattle.sd_kernel.specs.declared.Proved.{Proved}
use Rattle.sd_cert.specs.declared.certificate.CertPair.{CertPair}
use Rattle.sd_cert.specs.declared.certificate.Certificate.{Certificate}
use Rattle.sd_cert.specs.declared.fault.CertError.{CertError}
use Rattle.sd_cert.specs.declared.fault.CertError.TheVariants.{NoMemory, Version as OtherVersion, Line as BadLine}
use Rattle.sd_cert.specs.declared.line.Line.{Line}
use Rattle.sd_cert.specs.declared.line.Line.TheVariants.{Version, Row, End}
use Rattle.sd_cert.specs.Lines.{line_text, IsLine}
use Rattle.sd_cert.specs.Text.{lines_text, HasLines}
use Rattle.sd_cert.specs.Certificates.{step_lines, how_lines, proved_lines, pair_lines, certificate_lines, certificate_text, IsCertificate}
use Rattle.sd_cert.specs.Phases.{at_version, in_pairs, complete, after_lines}
use Rattle.sd_cert.specs.Faults.{StopsAt, IsFault}
use Rattle.sd_cert.proofs.FaultLemmas.{after_lines-append, front-of}
use Rattle.sd_cert.proofs.TextLemmas.{no_feed, first_line-unique}
use Rattle.sd_cert.proofs.OneLine.{line_text-injective}
use Rattle.sd_cert.proofs.OneCertificate.{one_certificate}

-- these lines lead to the end, with a candidate before them or without
Ends : ℕ → ℕ → List Line → Type 0
Ends n i ls = (c : Bool) → after_lines (in_pairs n i c 0) ls ≡ Some complete

rows-end : (n i : ℕ) (rows : List RowLine) (ls : List Line) → after_lines (in_pairs n i true (length rows)) (map Row rows ++ ls) ≡ after_lines (in_pairs n i true 0) ls
rows-end n i [] ls = refl
rows-end n i (r ∷ rows) ls = rows-end n i rows ls

step-end : (n i : ℕ) (s : Step) (ls : List Line) → after_lines (in_pairs n i true 0) (step_lines s ++ ls) ≡ after_lines (in_pairs n i true 0) ls
step-end n i (RowsStep rows) ls = rows-end n i rows ls
step-end n i _ ls = refl

steps-end : (n i : ℕ) (ss : List Step) (ls : List Line) → Ends n i ls → after_lines (in_pairs n i true 0) (flat_map step_lines ss ++ ls) ≡ Some complete
unfolding Ends
steps-end n i [] ls h = h true
steps-end n i (s ∷ ss) ls h =
    ap (after_lines (in_pairs n i true 0)) (append_assoc (step_lines s) (flat_map step_lines ss) ls) ∙ step-end n i s (flat_map step_lines ss ++ ls)
    ∙ steps-end n i ss ls h

how-end : (n i : ℕ) (h : How) (ls : List Line) → Ends n i ls → after_lines (in_pairs n i true 0) (how_lines h ++ ls) ≡ Some complete
how-end n i (Steps p) ls h = steps-end n i p.steps ls h

proved-end : (n i : ℕ) (ps : List Proved) (ls : List Line) → 0 < i → Ends n i ls → Ends n i (flat_map proved_lines ps ++ ls)
unfolding Ends
proved-end n i [] ls b h c = h c
proved-end n i (p ∷ ps) ls b h c =
    ap (λ t. after_lines (in_pairs n i c 0) t) (append_assoc (proved_lines p) (flat_map proved_lines ps) ls)
    ∙ ap (λ t. option_and_then (λ q. after_lines q (how_lines p.how ++ (flat_map proved_lines ps ++ ls))) (cond t (Some (in_pairs n i true 0)) None)) (lt-ltb 0 i b)
    ∙ how-end n i p.how (flat_map proved_lines ps ++ ls) (proved-end n i ps ls b h)

pairs-end : (n i : ℕ) (ps : List CertPair) → i + length ps ≡ n → Ends n i (pair_lines i ps ++ End ∷ [])
unfolding Ends
pairs-end n i [] e c = ap (λ t. option_and_then (λ q. after_lines q []) (cond t (Some complete) None)) (eq-eqb i n (omega arith))
pairs-end n i (p ∷ ps) e c =
    ap (λ t. option_and_then (λ q. after_lines q ((flat_map proved_lines p.proved ++ pair_lines (i + 1) ps) ++ End ∷ [])) (cond t (Some (in_pairs n (i + 1) false 0)) None)) (both_true (eq-eqb i i refl) (lt-ltb i n (omega arith)))
    ∙ ap (after_lines (in_pairs n (i + 1) false 0)) (append_assoc (flat_map proved_lines p.proved) (pair_lines (i + 1) ps) (End ∷ []))
    ∙ proved-end n (i + 1) p.proved (pair_lines (i + 1) ps ++ End ∷ []) (omega arith) (pairs-end n (i + 1) ps (omega arith)) false

pub certificate-end : (c : Certificate) → after_lines at_version (certificate_lines c) ≡ Some complete
unfolding Ends
certificate-end c = pairs-end (length c.pairs) 0 c.pairs (omega arith) false

-- the text of a certificate stops nowhere
no_stop : (c : Certificate) → IsCertificate c → (n : ℕ) → StopsAt (certificate_text c) n → ⊥
no_stop c f n at =
    let parts = front-of at.lines (certificate_lines c) at.rest [] at.fit f (λ l more g e. absurd (omega (arith, ap length e, length-append (line_text l) (10 ∷ more)))) (sym at.whole ∙ sym (append-nil (certificate_text c)))
    in let left : after_lines at.phase parts.0 ≡ Some complete = sym (after_lines-append at_version at.lines parts.0 ∙ ap (option_and_then (λ q. after_lines q parts.0)) at.before) ∙ ap (after_lines at_version) (sym parts.1) ∙ certificate-end c
    in go parts.0 parts.2 parts.3 left
  where
    go : (more : List Line) → at.rest ≡ lines_text more ++ [] → AllByRecursion IsLine more → after_lines at.phase more ≡ Some complete → ⊥
    go [] e f k = at.unfinished (same_Some at.phase complete k) e
    go (l ∷ ls) e f k = absurd (let s = at.stuck l (lines_text ls ++ []) f.0 (e ∙ append_assoc (line_text l) (10 ∷ lines_text ls) []) in let j = ap (option_and_then (λ q. after_lines q ls)) s in cc)

pub no_fault : (text : List ℕ) (c : Certificate) (e : CertError) → IsCertificate c → text ≡ certificate_text c → IsFault text e → e ≡ NoMemory
no_fault text c NoMemory f t h = refl
no_fault text c (OtherVersion v) f t h =
    let parts = first_line-unique (line_text (Version v)) h.0.more (line_text (Version 1)) _ (no_feed (Version v) h.0.fits) (no_feed (Version 1) f.0) (sym h.0.line ∙ t)
    in absurd (h.1 (let s : Version v ≡ Version 1 = line_text-injective (Version v) (Version 1) h.0.fits f.0 parts.0 in cc))
no_fault text c (BadLine n) f t h = absurd (no_stop c f n (subst (λ (x : List ℕ). StopsAt x n) t h.0))
no_fault text c _ f t h = absurd h

pub only : (text : List ℕ) (r : Result Certificate CertError) → IfOk r (λ c. IsCertificate c × (text ≡ certificate_text c)) → IfErr r (IsFault text) → (c : Certificate) → IsCertificate c → text ≡ certificate_text c → (r ≡ Ok c) ⊎ (r ≡ Err NoMemory)
only text (Ok d) found fault c f t = inl (ap Ok (one_certificate d c found.0 f (sym found.1 ∙ t)))
only text (Err e) found fault c f t = inr (ap Err (no_fault text c e f t fault))

-- what the lines of a text spell, where nothing follows them
pub read-of : (text : List ℕ) (lines ls : List Line) (rest : List ℕ) (c : Certificate) → HasLines text lines rest → ls ≡ lines → (ls ≡ certificate_lines c) × (rest ≡ []) → IsCertificate c × (text ≡ certificate_text c)
read-of text lines ls rest c has are e =
    let same : lines ≡ certificate_lines c = sym are ∙ e.0 in (
      subst (λ (x : List Line). AllByRecursion IsLine x) same has.fit,
      has.whole ∙ ap (λ x. lines_text x ++ rest) same ∙ ap (λ t. certificate_text c ++ t) e.1 ∙ append-nil (certificate_text c),
    )

pub read-fault : (text : List ℕ) (lines ls : List Line) (rest : List ℕ) (e : CertError) → HasLines text lines rest → ls ≡ lines → IsFault (lines_text ls ++ rest) e → IsFault text e
read-fault text lines ls rest e has are f = subst (λ (t : List ℕ). IsFault t e) (ap (λ x. lines_text x ++ rest) are ∙ sym has.whole) f

pub read-whole : (text : List ℕ) (lines ls : List Line) (rest : List ℕ) (r : Result Certificate CertError) → HasLines text lines rest → ls ≡ lines → IfOk r (λ c. (ls ≡ certificate_lines c) × (rest ≡ [])) → IfErr r (IsFault (lines_text ls ++ rest)) → IfOk r (λ c. IsCertificate c × (text ≡ certificate_text c)) × IfErr r (IsFault text)
read-whole text lines ls rest (Ok c) has are found fault = (read-of text lines ls rest c has are found, tt)
read-whole text lines ls rest (Err e) has are found fault = (tt, read-fault text lines ls rest e has are fault)
