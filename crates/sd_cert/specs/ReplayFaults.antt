-- Why bytes are not accepted as a certificate of two programs.
use Rattle.std.specs.Prelude.{◌≡◌, ℕ, ◌+◌, List, [], ◌∷◌, ◌++◌, length, Some, None, ◌⊎◌}
use Rattle.std.specs.List.{AllByRecursion}
use Rattle.sd_product.specs.Work.{PairedPrograms}
use Rattle.sd_cert.specs.declared.header.PairHeader.{PairHeader}
use Rattle.sd_cert.specs.declared.digest.Digests.{Digests}
use Rattle.sd_cert.specs.declared.certificate.Certificate.{Certificate}
use Rattle.sd_cert.specs.declared.fault.CertError.{CertError}
use Rattle.sd_cert.specs.declared.fault.CertError.TheVariants.{NoMemory, Version, Line as BadLine, Step as BadStep}
use Rattle.sd_cert.specs.declared.line.Line.{Line}
use Rattle.sd_cert.specs.Lines.{IsLine}
use Rattle.sd_cert.specs.Text.{lines_text}
use Rattle.sd_cert.specs.Certificates.{certificate_lines, certificate_text, IsCertificate}
use Rattle.sd_cert.specs.Phases.{Phase, at_version, after_lines}
use Rattle.sd_cert.specs.Faults.{IsFault}
use Rattle.sd_cert.specs.Accepts.{FitsPairs}
use Rattle.sd_cert.specs.Refusals.{first_position, first_refusal}
use Rattle.sd_cert.specs.BadSteps.{step_fault}
use Rattle.sd_cert.specs.Headers.{headers_of}

-- The text begins with lines that can stand there, of which the last is refused with this error and none before it.
pub record IsRefused (headers : List PairHeader) (digests : Digests) (text : List ℕ) (e : CertError) : Type 0 where
  pub front : List Line
  pub line : Line
  pub rest : List ℕ
  pub phase : Phase
  pub fit : AllByRecursion IsLine (front ++ line ∷ [])
  pub whole : text ≡ lines_text (front ++ line ∷ []) ++ rest
  pub stand : after_lines at_version (front ++ line ∷ []) ≡ Some phase
  pub passed : first_refusal headers digests first_position front ≡ None
  pub refused : first_refusal headers digests first_position (front ++ line ∷ []) ≡ Some e

-- none of the lines before the one with this number is refused
abbrev pub PassBefore : List PairHeader → Digests → List ℕ → ℕ → Type 0
PassBefore headers digests text n =
    (lines : List Line) (rest : List ℕ) → AllByRecursion IsLine lines → text ≡ lines_text lines ++ rest →
    n ≡ length lines + 1 → first_refusal headers digests first_position lines ≡ None

-- The text is that of a certificate that fits the digests and the pairs, and the error names its first bad step.
pub record HasBadStep (work : PairedPrograms) (digests : Digests) (text : List ℕ) (e : CertError) : Type 0 where
  pub certificate : Certificate
  pub form : IsCertificate certificate
  pub whole : text ≡ certificate_text certificate
  pub same_digests : certificate.digests ≡ digests
  pub fits : FitsPairs (headers_of work) certificate.pairs
  pub step : step_fault work certificate.pairs ≡ Some e

abbrev pub IsReplayFault : PairedPrograms → Digests → List ℕ → CertError → Type 0
IsReplayFault work digests text NoMemory = Unit {0}
IsReplayFault work digests text (Version version) = IsFault text (Version version)
IsReplayFault work digests text (BadLine n) = IsFault text (BadLine n) × PassBefore (headers_of work) digests text n
IsReplayFault work digests text (BadStep n cause) = HasBadStep work digests text (BadStep n cause)
IsReplayFault work digests text e = IsRefused (headers_of work) digests text e

-- ---- the same of a certificate that was read

abbrev pub IsCertificateFault : PairedPrograms → Digests → Certificate → CertError → Type 0
IsCertificateFault work digests c e =
    (e ≡ NoMemory)
    ⊎ ((first_refusal (headers_of work) digests first_position (certificate_lines c) ≡ Some e)
    ⊎ ((c.digests ≡ digests) × FitsPairs (headers_of work) c.pairs × (step_fault work c.pairs ≡ Some e)))
