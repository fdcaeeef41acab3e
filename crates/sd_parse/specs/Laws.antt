-- That each text has one answer, and where the refusal of a text stands that only begins a program.
use Rattle.std.specs.Prelude.{◌≡◌, ◌≢◌, ℕ, ◌≤◌, length, Result, Err}
use Rattle.sd_lex.specs.Pieces.{Bytes}
use Rattle.sd_lex.specs.Tokens as lex
use Rattle.sd_ast.specs.declared.Program.{Program}
use Rattle.sd_parse.specs.declared.answer.ReadError.{ReadError}
use Rattle.sd_parse.specs.declared.answer.ReadError.TheVariants.{NoMemory, Syntax}
use Rattle.sd_parse.specs.Grammar.{Tokens}
use Rattle.sd_parse.specs.Programs.{Spells}
use Rattle.sd_parse.specs.Refusals.{BeginsWithin}
use Rattle.sd_parse.specs.Answer.{end_of, IsReading}

-- A text has one answer at most, unless memory runs out.
abbrev pub OneAnswer : Type 0
OneAnswer =
    (bytes : Bytes) (r q : Result Program ReadError) → IsReading bytes r → IsReading bytes q
    → r ≢ Err NoMemory → q ≢ Err NoMemory → r ≡ q

-- A text has an answer besides that memory runs out.
abbrev pub SomeAnswer : Type 0
SomeAnswer = (bytes : Bytes) → (r : Result Program ReadError) × IsReading bytes r × (r ≢ Err NoMemory)

-- Where the tokens of a text begin a program and are none, of any height, as where its last `}` is missing, the text is
-- refused at its end.
abbrev pub MissingAtEnd : Type 0
MissingAtEnd =
    (bytes : Bytes) (ts : Tokens) → length bytes ≤ 16777216 → lex.Tokens 0 bytes ts → BeginsWithin Spells 200 ts
    → ((d : ℕ) (P : Program) → Spells d ts P → ⊥) → IsReading bytes (Err (Syntax (end_of bytes)))
