-- Why bytes spell no certificate.
use Rattle.std.specs.Prelude.{◌≡◌, ◌≢◌, ℕ, ◌+◌, ◌<◌, ◌^◌, List, [], ◌∷◌, ◌++◌, length, Some, None}
use Rattle.std.specs.List.{AllByRecursion}
use Rattle.sd_cert.specs.declared.fault.CertError.{CertError}
use Rattle.sd_cert.specs.declared.fault.CertError.TheVariants.{NoMemory, Version as OtherVersion, Line as BadLine}
use Rattle.sd_cert.specs.declared.line.Line.{Line}
use Rattle.sd_cert.specs.declared.line.Line.TheVariants.{Version}
use Rattle.sd_cert.specs.Lines.{line_text, IsLine}
use Rattle.sd_cert.specs.Text.{lines_text}
use Rattle.sd_cert.specs.Phases.{Phase, at_version, complete, after_line, after_lines}

-- The lines before the one with this number follow one another, and no line with a form that can follow them comes
-- next; and the text doesn't end with them as a certificate does.
pub record StopsAt (text : List ℕ) (n : ℕ) : Type 0 where
  pub lines : List Line
  pub rest : List ℕ
  pub phase : Phase
  pub fit : AllByRecursion IsLine lines
  pub whole : text ≡ lines_text lines ++ rest
  pub before : after_lines at_version lines ≡ Some phase
  pub stuck : (l : Line) (more : List ℕ) → IsLine l → rest ≡ line_text l ++ 10 ∷ more → after_line phase l ≡ None
  pub unfinished : phase ≡ complete → rest ≡ [] → ⊥
  pub number : n ≡ length lines + 1

-- the first line is that of a version
pub record HasVersion (text : List ℕ) (version : ℕ) : Type 0 where
  pub more : List ℕ
  pub fits : version < 2 ^ 64
  pub line : text ≡ line_text (Version version) ++ 10 ∷ more

abbrev pub IsFault : List ℕ → CertError → Type 0
IsFault text NoMemory = Unit {0}
IsFault text (OtherVersion version) = HasVersion text version × (version ≢ 1)
IsFault text (BadLine n) = StopsAt text n × ((version : ℕ) → HasVersion text version → version ≡ 1)
IsFault text _ = ⊥

-- ---- the same of lines that were read

-- a line that can't follow those before it
pub record IsStuckAt (lines : List Line) (n : ℕ) : Type 0 where
  pub front : List Line
  pub line : Line
  pub after : List Line
  pub phase : Phase
  pub whole : lines ≡ front ++ line ∷ after
  pub before : after_lines at_version front ≡ Some phase
  pub stuck : after_line phase line ≡ None
  pub number : n ≡ length front + 1

abbrev pub IsLineFault : List Line → CertError → Type 0
IsLineFault lines NoMemory = Unit {0}
IsLineFault lines (OtherVersion version) = (after : List Line) × (lines ≡ Version version ∷ after) × (version ≢ 1)
IsLineFault lines (BadLine n) =
    IsStuckAt lines n × ((version : ℕ) (after : List Line) → lines ≡ Version version ∷ after → version ≡ 1)
IsLineFault lines _ = ⊥

-- what is said of a bad line at this place, from 0
abbrev pub IsPlaceFault : ℕ → Line → CertError → Type 0
IsPlaceFault place line (OtherVersion version) = (place ≡ 0) × (line ≡ Version version)
IsPlaceFault place line (BadLine n) = (n ≡ place + 1) × ((version : ℕ) → place ≡ 0 → line ≢ Version version)
IsPlaceFault place line _ = ⊥
