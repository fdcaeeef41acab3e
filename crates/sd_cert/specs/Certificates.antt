-- The lines of a certificate, and its text.
use Rattle.std.specs.Prelude.{ℕ, ◌+◌, List, [], ◌∷◌, ◌++◌, map, length}
use Rattle.std.specs.List.{flat_map, AllByRecursion}
use Rattle.sd_kernel.specs.declared.Step.{Step}
use Rattle.sd_kernel.specs.declared.Step.TheVariants.{Rows as RowsStep}
use Rattle.sd_kernel.specs.declared.How.{How}
use Rattle.sd_kernel.specs.declared.How.TheVariants.{Steps}
use Rattle.sd_kernel.specs.declared.Proved.{Proved}
use Rattle.sd_cert.specs.declared.certificate.CertPair.{CertPair}
use Rattle.sd_cert.specs.declared.certificate.Certificate.{Certificate}
use Rattle.sd_cert.specs.declared.line.Line.{Line}
use Rattle.sd_cert.specs.declared.line.Line.TheVariants.{Version, Old, New, Settings, Pairs, Pair, Candidate}
use Rattle.sd_cert.specs.declared.line.Line.TheVariants.{Step as StepLine, Rows, Row, End}
use Rattle.sd_cert.specs.Lines.{IsLine}
use Rattle.sd_cert.specs.Text.{lines_text}

-- a step has one line, and a rows step one more for each row
abbrev pub step_lines : Step → List Line
step_lines (RowsStep rows) = Rows (length rows) ∷ map Row rows
step_lines step = StepLine step ∷ []

abbrev pub how_lines : How → List Line
how_lines (Steps proof) = flat_map step_lines proof.steps

-- a live candidate and the steps of its proof
abbrev pub proved_lines : Proved → List Line
proved_lines p = Candidate p.candidate ∷ how_lines p.how

-- the pairs from a number on, each with its live candidates
abbrev pub pair_lines : ℕ → List CertPair → List Line
pair_lines i [] = []
pair_lines i (p ∷ ps) = Pair i p.state ∷ (flat_map proved_lines p.proved ++ pair_lines (i + 1) ps)

abbrev pub certificate_lines : Certificate → List Line
certificate_lines c =
    Version 1 ∷ Old c.digests.old ∷ New c.digests.new ∷ Settings c.digests.settings ∷ Pairs (length c.pairs)
    ∷ (pair_lines 0 c.pairs ++ End ∷ [])

abbrev pub certificate_text : Certificate → List ℕ
certificate_text c = lines_text (certificate_lines c)

-- its digests are digests, and its numbers are within their types
abbrev pub IsCertificate : Certificate → Type 0
IsCertificate c = AllByRecursion IsLine (certificate_lines c)
