-- The lines of a prefix, and what comes next.
use Rattle.std.specs.Prelude.{◌≡◌, ℕ, suc, ◌+◌, Bool, true, false, List, [], ◌∷◌, ◌++◌, map, length, Option, Some, None}
use Rattle.std.specs.Prelude.{MatchOption, is_some, if◌then◌else◌}
use Rattle.std.specs.List.{flat_map}
use Rattle.sd_cert.specs.declared.digest.Digests.{Digests}
use Rattle.sd_cert.specs.declared.certificate.CertPair.{CertPair}
use Rattle.sd_cert.specs.declared.prefix.PartialProof.{PartialProof}
use Rattle.sd_cert.specs.declared.prefix.PartialPair.{PartialPair}
use Rattle.sd_cert.specs.declared.prefix.Body.{Body}
use Rattle.sd_cert.specs.declared.prefix.PartialRows.{PartialRows}
use Rattle.sd_cert.specs.declared.prefix.Prefix.{Prefix}
use Rattle.sd_cert.specs.declared.prefix.Prefix.TheVariants as prefix
use Rattle.sd_cert.specs.declared.line.Line.{Line}
use Rattle.sd_cert.specs.declared.line.Line.TheVariants.{Version, Old, New, Settings, Pairs, Pair, Candidate, Rows, Row}
use Rattle.sd_cert.specs.Certificates.{step_lines, proved_lines, pair_lines, certificate_lines}
use Rattle.sd_cert.specs.Phases.{Phase, at_version, at_old, at_new, at_settings, at_pairs, in_pairs, complete}
use Rattle.sd_cert.specs.Phases.{after_line}

abbrev pub proof_lines : Option PartialProof → List Line
proof_lines None = []
proof_lines (Some p) = Candidate p.candidate ∷ flat_map step_lines p.steps

abbrev pub partial_lines : ℕ → Option PartialPair → List Line
partial_lines i None = []
partial_lines i (Some p) = Pair i p.state ∷ (flat_map proved_lines p.proved ++ proof_lines p.proof)

-- the pairs and the one that is being read
abbrev pub body_lines : List CertPair → Option PartialPair → List Line
body_lines pairs last = pair_lines 0 pairs ++ partial_lines (length pairs) last

-- how many pairs there are with the one that is being read
abbrev pub pair_count : List CertPair → Option PartialPair → ℕ
pair_count pairs last = length pairs + (if is_some last then 1 else 0)

-- a candidate's steps can follow
abbrev pub has_candidate : Option PartialPair → Bool
has_candidate None = false
has_candidate (Some p) = is_some p.proof

abbrev pub digest_lines : Digests → List Line
digest_lines d = Version 1 ∷ Old d.old ∷ New d.new ∷ Settings d.settings ∷ []

abbrev pub lines_in : Body → List Line
lines_in b = digest_lines b.digests ++ Pairs b.count ∷ body_lines b.pairs b.last

-- the last pair, as far as before a rows step
abbrev pub pair_before : PartialRows → PartialPair
pair_before r = record { state = r.state; proved = r.proved; proof = Some r.proof }

-- a rows step with the rows that were read, the next one and the later ones
abbrev pub lines_in_rows : PartialRows → List Line
lines_in_rows r =
    digest_lines r.digests
    ++ Pairs r.count
    ∷ (body_lines r.pairs (Some (pair_before r)) ++ Rows (length r.rows + suc r.later) ∷ map Row r.rows)

abbrev pub prefix_lines : Prefix → List Line
prefix_lines prefix.Empty = []
prefix_lines prefix.WithVersion = Version 1 ∷ []
prefix_lines (prefix.WithOld old) = Version 1 ∷ Old old ∷ []
prefix_lines (prefix.WithNew old new) = Version 1 ∷ Old old ∷ New new ∷ []
prefix_lines (prefix.WithDigests d) = digest_lines d
prefix_lines (prefix.Body b) = lines_in b
prefix_lines (prefix.Rows r) = lines_in_rows r
prefix_lines (prefix.Complete c) = certificate_lines c

abbrev pub phase_in : Body → Phase
phase_in b = in_pairs b.count (pair_count b.pairs b.last) (has_candidate b.last) 0

abbrev pub phase_in_rows : PartialRows → Phase
phase_in_rows r = in_pairs r.count (length r.pairs + 1) true (suc r.later)

abbrev pub phase_of : Prefix → Phase
phase_of prefix.Empty = at_version
phase_of prefix.WithVersion = at_old
phase_of (prefix.WithOld old) = at_new
phase_of (prefix.WithNew old new) = at_settings
phase_of (prefix.WithDigests d) = at_pairs
phase_of (prefix.Body b) = phase_in b
phase_of (prefix.Rows r) = phase_in_rows r
phase_of (prefix.Complete c) = complete

-- the line follows these lines with this phase, and gives the prefix; or it can't stand there
abbrev pub IsExtensionOf : List Line → Phase → Line → Option Prefix → Type 0
IsExtensionOf lines phase line result =
    MatchOption result (after_line phase line ≡ None)
    (λ p. (prefix_lines p ≡ lines ++ line ∷ []) × (after_line phase line ≡ Some (phase_of p)))

abbrev pub IsExtension : Prefix → Line → Option Prefix → Type 0
IsExtension d line result = IsExtensionOf (prefix_lines d) (phase_of d) line result

abbrev pub IsBodyExtension : Body → Line → Option Prefix → Type 0
IsBodyExtension b line result = IsExtensionOf (lines_in b) (phase_in b) line result

abbrev pub IsRowsExtension : PartialRows → Line → Option Prefix → Type 0
IsRowsExtension r line result = IsExtensionOf (lines_in_rows r) (phase_in_rows r) line result
