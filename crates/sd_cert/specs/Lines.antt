-- The spelling of each line, without its end.
use Rattle.std.specs.Prelude.{ℕ, ◌<◌, ◌^◌, List, [], ◌∷◌, ◌++◌, codes}
use Rattle.std.specs.Fmt.{decimal}
use Rattle.hex.specs.Hex.{encode_lower}
use Rattle.sd_kernel.specs.declared.Step.{Step}
use Rattle.sd_kernel.specs.declared.Step.TheVariants.{Term, Split, Order, Ite, Chain, Close, Rows as RowsStep}
use Rattle.sd_kernel.specs.declared.NodeLine.{NodeLine}
use Rattle.sd_kernel.specs.declared.NodeLine.TheVariants.{Eq, Le, Read, Diff}
use Rattle.sd_kernel.specs.declared.RowLine.{RowLine}
use Rattle.sd_kernel.specs.declared.RowLine.TheVariants.{Fact, Back, Add, Cut}
use Rattle.sd_cert.specs.declared.line.CertState.{CertState}
use Rattle.sd_cert.specs.declared.line.CertState.TheVariants.{Open, Refused}
use Rattle.sd_cert.specs.declared.line.Line.{Line}
use Rattle.sd_cert.specs.declared.line.Line.TheVariants.{Version, Old, New, Settings, Pairs, Pair, Candidate}
use Rattle.sd_cert.specs.declared.line.Line.TheVariants.{Step as StepLine, Rows, Row, End}
use Rattle.sd_cert.specs.Fields.{IsDigest, AreSmall, numbers_text}

abbrev pub state_text : CertState → List ℕ
state_text Open = codes " open"
state_text Refused = codes " refused"

abbrev pub pair_fields : ℕ × CertState → List ℕ
pair_fields pair = decimal pair.0 ++ state_text pair.1

abbrev pub IsPairField : ℕ × CertState → Type 0
IsPairField pair = pair.0 < 2 ^ 32

abbrev pub node_text : NodeLine → List ℕ
node_text (Eq a b) = codes "term eq " ++ numbers_text (a ∷ b ∷ [])
node_text (Le a b) = codes "term le " ++ numbers_text (a ∷ b ∷ [])
node_text (Read a b) = codes "term read " ++ numbers_text (a ∷ b ∷ [])
node_text (Diff a b) = codes "term diff " ++ numbers_text (a ∷ b ∷ [])

-- a step of one line; a rows step has lines of its own
abbrev pub step_text : Step → List ℕ
step_text (Term node) = node_text node
step_text (Split term) = codes "split " ++ decimal term
step_text (Order e l r) = codes "order " ++ numbers_text (e ∷ l ∷ r ∷ [])
step_text (Ite t e) = codes "ite " ++ numbers_text (t ∷ e ∷ [])
step_text (Chain e fs) = codes "chain " ++ numbers_text (e ∷ fs)
step_text (Close fact) = codes "close " ++ decimal fact
step_text (RowsStep rows) = []

abbrev pub row_text : RowLine → List ℕ
row_text (Fact k) = codes "fact " ++ decimal k
row_text (Back k) = codes "back " ++ decimal k
row_text (Add a m b n) = codes "add " ++ numbers_text (a ∷ m ∷ b ∷ n ∷ [])
row_text (Cut a) = codes "cut " ++ decimal a

abbrev pub line_text : Line → List ℕ
line_text (Version n) = codes "symdiff-certificate " ++ decimal n
line_text (Old digest) = codes "old " ++ encode_lower digest
line_text (New digest) = codes "new " ++ encode_lower digest
line_text (Settings digest) = codes "settings " ++ encode_lower digest
line_text (Pairs n) = codes "pairs " ++ decimal n
line_text (Pair i state) = codes "pair " ++ (decimal i ++ state_text state)
line_text (Candidate k) = codes "candidate " ++ decimal k
line_text (StepLine step) = step_text step
line_text (Rows n) = codes "rows " ++ decimal n
line_text (Row row) = row_text row
line_text End = codes "end"

abbrev pub IsNode : NodeLine → Type 0
IsNode (Eq a b) = (a < 2 ^ 32) × (b < 2 ^ 32)
IsNode (Le a b) = (a < 2 ^ 32) × (b < 2 ^ 32)
IsNode (Read a b) = (a < 2 ^ 32) × (b < 2 ^ 32)
IsNode (Diff a b) = (a < 2 ^ 32) × (b < 2 ^ 32)

-- the step has one line, and its numbers are within their types
abbrev pub IsStep : Step → Type 0
IsStep (Term node) = IsNode node
IsStep (Split term) = term < 2 ^ 32
IsStep (Order e l r) = (e < 2 ^ 32) × (l < 2 ^ 32) × (r < 2 ^ 32)
IsStep (Ite t e) = (t < 2 ^ 32) × (e < 2 ^ 32)
IsStep (Chain e fs) = (e < 2 ^ 32) × AreSmall fs
IsStep (Close fact) = fact < 2 ^ 32
IsStep (RowsStep rows) = ⊥

abbrev pub IsRow : RowLine → Type 0
IsRow (Fact k) = k < 2 ^ 32
IsRow (Back k) = k < 2 ^ 32
IsRow (Add a m b n) = (a < 2 ^ 32) × (m < 2 ^ 64) × (b < 2 ^ 32) × (n < 2 ^ 64)
IsRow (Cut a) = a < 2 ^ 32

-- the fields of a line are within their types
abbrev pub IsLine : Line → Type 0
IsLine (Version n) = n < 2 ^ 64
IsLine (Old digest) = IsDigest digest
IsLine (New digest) = IsDigest digest
IsLine (Settings digest) = IsDigest digest
IsLine (Pairs n) = n < 2 ^ 64
IsLine (Pair i state) = i < 2 ^ 32
IsLine (Candidate k) = k < 2 ^ 32
IsLine (StepLine step) = IsStep step
IsLine (Rows n) = n < 2 ^ 64
IsLine (Row row) = IsRow row
IsLine End = Unit {0}
