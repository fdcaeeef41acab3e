-- The lines of a certificate tell the certificate.
use Rattle.std.proofs.Common.{◌≡◌, ℕ, ◌+◌, List, [], ◌∷◌, ◌++◌, map, length, refl, sym, ap, ◌∙◌, append_assoc}
use Rattle.std.specs.List.{flat_map}
use Rattle.sd_kernel.specs.declared.Step.{Step}
use Rattle.sd_kernel.specs.declared.Step.TheVariants.{Rows as RowsStep}
use Rattle.sd_kernel.specs.declared.RowLine.{RowLine}
use Rattle.sd_kernel.specs.declared.How.{How}
use Rattle.sd_kernel.specs.declared.How.TheVariants.{Steps}
use Rattle.sd_kernel.specs.declared.Proved.{Proved}
use Rattle.sd_cert.specs.declared.certificate.CertPair.{CertPair}
use Rattle.sd_cert.specs.declared.certificate.Certificate.{Certificate}
use Rattle.sd_cert.specs.declared.line.Line.{Line}
use Rattle.sd_cert.specs.declared.line.Line.TheVariants.{Pair, Candidate, Step as StepLine, Rows, Row, End}
use Rattle.sd_cert.specs.Certificates.{step_lines, how_lines, proved_lines, pair_lines, certificate_lines, certificate_text, IsCertificate}
use Rattle.sd_cert.proofs.OneLine.{lines_text-injective}

-- what lines show, read from the last one on: the rows of a step that is above them, the steps of a candidate above them, the
-- candidates of a pair above them, and the pairs
record Shown : Type 0 where
  rows : List RowLine
  steps : List Step
  proved : List Proved
  pairs : List CertPair

abbrev shown : List RowLine → List Step → List Proved → List CertPair → Shown
shown rows steps proved pairs = record { rows = rows; steps = steps; proved = proved; pairs = pairs }

abbrev below : Line → Shown → Shown
below (Row r) s = shown (r ∷ s.rows) s.steps s.proved s.pairs
below (Rows n) s = shown [] (RowsStep s.rows ∷ s.steps) s.proved s.pairs
below (StepLine step) s = shown s.rows (step ∷ s.steps) s.proved s.pairs
below (Candidate k) s = shown s.rows [] (record { candidate = k; how = Steps (record { steps = s.steps }) } ∷ s.proved) s.pairs
below (Pair i state) s = shown s.rows s.steps [] (record { state = state; proved = s.proved } ∷ s.pairs)
below _ s = s

abbrev shown_by : List Line → Shown
shown_by [] = shown [] [] [] []
shown_by (l ∷ ls) = below l (shown_by ls)

module _ (ls : List Line) (qs : List Proved) (pairs : List CertPair) where
  by-rows : (rows : List RowLine) (ts : List Step) → shown_by ls ≡ shown [] ts qs pairs → shown_by (map Row rows ++ ls) ≡ shown rows ts qs pairs
  by-rows [] ts e = e
  by-rows (r ∷ rows) ts e = ap (below (Row r)) (by-rows rows ts e)

  by-step : (s : Step) (ts : List Step) → shown_by ls ≡ shown [] ts qs pairs → shown_by (step_lines s ++ ls) ≡ shown [] (s ∷ ts) qs pairs
  by-step (RowsStep rows) ts e = ap (below (Rows (length rows))) (by-rows rows ts e)
  by-step s ts e = ap (below (StepLine s)) e

by-steps : (ss : List Step) (qs : List Proved) (pairs : List CertPair) (ls : List Line) → shown_by ls ≡ shown [] [] qs pairs → shown_by (flat_map step_lines ss ++ ls) ≡ shown [] ss qs pairs
by-steps [] qs pairs ls e = e
by-steps (s ∷ ss) qs pairs ls e =
    ap shown_by (append_assoc (step_lines s) (flat_map step_lines ss) ls)
    ∙ by-step (flat_map step_lines ss ++ ls) qs pairs s ss (by-steps ss qs pairs ls e)

by-how : (k : ℕ) (h : How) (qs : List Proved) (pairs : List CertPair) (ls : List Line) → shown_by ls ≡ shown [] [] qs pairs → shown_by (Candidate k ∷ (how_lines h ++ ls)) ≡ shown [] [] (record { candidate = k; how = h } ∷ qs) pairs
by-how k (Steps p) qs pairs ls e = ap (below (Candidate k)) (by-steps p.steps qs pairs ls e)

by-proved : (ps : List Proved) (pairs : List CertPair) (ls : List Line) → shown_by ls ≡ shown [] [] [] pairs → shown_by (flat_map proved_lines ps ++ ls) ≡ shown [] [] ps pairs
by-proved [] pairs ls e = e
by-proved (p ∷ ps) pairs ls e =
    ap shown_by (append_assoc (proved_lines p) (flat_map proved_lines ps) ls)
    ∙ by-how p.candidate p.how ps pairs (flat_map proved_lines ps ++ ls) (by-proved ps pairs ls e)

by-pairs : (i : ℕ) (ps : List CertPair) → shown_by (pair_lines i ps ++ End ∷ []) ≡ shown [] [] [] ps
by-pairs i [] = refl
by-pairs i (p ∷ ps) =
    ap (λ ls. below (Pair i p.state) (shown_by ls)) (append_assoc (flat_map proved_lines p.proved) (pair_lines (i + 1) ps) (End ∷ []))
    ∙ ap (below (Pair i p.state)) (by-proved p.proved ps (pair_lines (i + 1) ps ++ End ∷ []) (by-pairs (i + 1) ps))

pub one_certificate : (c d : Certificate) → IsCertificate c → IsCertificate d → certificate_text c ≡ certificate_text d → c ≡ d
one_certificate c d f g e =
    let lines = lines_text-injective (certificate_lines c) (certificate_lines d) f g e in
    let old : c.digests.old ≡ d.digests.old = cc in
    let new : c.digests.new ≡ d.digests.new = cc in
    let settings : c.digests.settings ≡ d.digests.settings = cc in
    let pairs : c.pairs ≡ d.pairs = ap (λ (s : Shown). s.pairs) (sym (by-pairs 0 c.pairs) ∙ ap shown_by lines ∙ by-pairs 0 d.pairs) in
    λ i. record { digests = record { old = old i; new = new i; settings = settings i }; pairs = pairs i }
