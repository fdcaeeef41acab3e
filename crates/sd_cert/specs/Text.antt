-- A text as lines, each of which ends with a line feed.
use Rattle.std.specs.Prelude.{◌≡◌, ℕ, Bool, List, [], ◌∷◌, ◌++◌}
use Rattle.std.specs.List.{AllByRecursion}
use Rattle.sd_cert.specs.declared.line.Line.{Line}
use Rattle.sd_cert.specs.Fields.{has_byte}
use Rattle.sd_cert.specs.Lines.{line_text, IsLine}

abbrev pub has_feed : List ℕ → Bool
has_feed text = has_byte 10 text

abbrev pub lines_text : List Line → List ℕ
lines_text [] = []
lines_text (l ∷ ls) = line_text l ++ 10 ∷ lines_text ls

-- no line stands at the front of the text
abbrev pub BeginsWithoutLine : List ℕ → Type 0
BeginsWithoutLine text = (l : Line) (more : List ℕ) → IsLine l → text ≡ line_text l ++ 10 ∷ more → ⊥

-- the text is these lines and a rest that begins without a line
pub record HasLines (text : List ℕ) (lines : List Line) (rest : List ℕ) : Type 0 where
  pub fit : AllByRecursion IsLine lines
  pub whole : text ≡ lines_text lines ++ rest
  pub stop : BeginsWithoutLine rest
