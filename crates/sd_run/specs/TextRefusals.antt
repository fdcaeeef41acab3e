-- Which texts are accepted, and what is said of others.
use Rattle.std.specs.Prelude.{◌≡◌, ◌≢◌, ℕ, List, [], ◌++◌, Some, Ok, Err, codes, decimal}
use Rattle.sd_base.specs.declared.Place.{Place}
use Rattle.sd_base.specs.Value.{Text}
use Rattle.sd_ast.specs.declared.Program.{Program}
use Rattle.sd_run.specs.ComparedPrograms.{IsComparedProgram}
use Rattle.sd_lex.specs.declared.token.LexError.{LexError}
use Rattle.sd_lex.specs.declared.token.LexError.TheVariants as lex
use Rattle.sd_parse.specs.declared.answer.ReadError.{ReadError}
use Rattle.sd_parse.specs.declared.answer.ReadError.TheVariants as read
use Rattle.sd_parse.specs.Answer.{IsReading}
use Rattle.sd_types.specs.declared.refusal.TypeError.{TypeError}
use Rattle.sd_types.specs.declared.refusal.TypeError.TheVariants as kind
use Rattle.sd_types.specs.Declarations.{first_broken, WellTyped}
use Rattle.sd_run.specs.declared.text.TextRefusal.{TextRefusal}
use Rattle.sd_run.specs.declared.text.TextRefusal.TheVariants.{Reading, Typing, NotYet}
use Rattle.sd_run.specs.Report.{line_end}

-- The text is read as this program, which is well typed and of the form that this version takes.
pub record IsAccepted (bytes : List ℕ) (P : Program) : Type 0 where
  pub read : IsReading bytes (Ok P)
  pub typed : WellTyped P
  pub form : IsComparedProgram P

-- The text isn't read, or it breaks a rule on names and types, or its form isn't accepted yet.
abbrev pub IsTextRefusal : List ℕ → TextRefusal → Type 0
IsTextRefusal bytes (Reading e) = IsReading bytes (Err e) × (e ≢ read.NoMemory)
IsTextRefusal bytes (Typing e) =
    (P : Program) × IsReading bytes (Ok P) × (first_broken P ≡ Some e) × (e ≢ kind.NoMemory)
IsTextRefusal bytes NotYet = (P : Program) × IsReading bytes (Ok P) × WellTyped P × (IsComparedProgram P → ⊥)

-- ---- what is said

abbrev pub placed : List ℕ → Place → List ℕ
placed words at = words ++ codes " at " ++ decimal at.byte

abbrev pub naming : List ℕ → Text → List ℕ
naming words name = words ++ name

abbrev pub unsupported : Place → Text → List ℕ
unsupported at word = codes "unsupported " ++ word ++ codes " at " ++ decimal at.byte

abbrev pub lex_text : LexError → List ℕ
lex_text lex.NoMemory = []
lex_text (lex.Wide at) = placed (codes "wide literal") at
lex_text (lex.Unsupported at word) = unsupported at word
lex_text (lex.BadByte at) = placed (codes "bad byte") at
lex_text (lex.OpenComment at) = placed (codes "open comment") at
lex_text (lex.OpenString at) = placed (codes "open string") at

abbrev pub read_text : ReadError → List ℕ
read_text read.NoMemory = []
read_text read.TooLong = codes "size"
read_text (read.Lex e) = lex_text e
read_text (read.Star at) = placed (codes "unsupported *") at
read_text (read.Syntax at) = placed (codes "syntax") at
read_text (read.Deep at) = placed (codes "nesting") at
read_text read.TooMany = codes "procedures"

abbrev pub type_text : TypeError → List ℕ
type_text kind.NoMemory = []
type_text (kind.Unknown name) = naming (codes "unknown ") name
type_text (kind.Twice name) = naming (codes "twice ") name
type_text (kind.Kind at) = placed (codes "kind") at
type_text (kind.Arity at) = placed (codes "arity") at
type_text (kind.ReadOnly name) = naming (codes "read only ") name
type_text (kind.NotModified name) = naming (codes "not modified ") name
type_text (kind.NoBody name) = naming (codes "no body ") name
type_text (kind.NoLoop at) = placed (codes "no loop") at

abbrev pub refusal_text : TextRefusal → List ℕ
refusal_text (Reading e) = read_text e
refusal_text (Typing e) = type_text e
refusal_text NotYet = codes "not yet"

-- 9 where a limit is passed, else 3
abbrev pub refusal_status : TextRefusal → ℕ
refusal_status (Reading read.TooLong) = 9
refusal_status (Reading (read.Deep at)) = 9
refusal_status (Reading read.TooMany) = 9
refusal_status _ = 3

-- the line on the text that this word names
abbrev pub text_error : List ℕ → TextRefusal → List ℕ
text_error word r = codes "error: " ++ word ++ codes " " ++ refusal_text r ++ line_end
