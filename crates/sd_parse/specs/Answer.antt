-- Which answer a text has: its program, or the one refusal that is its own.
use Rattle.std.specs.Prelude.{◌≡◌, ℕ, suc, ◌≤◌, ◌<◌, Bool, true, false, ◌&&◌, [], ◌∷◌, ◌++◌, length, drop, Result, Ok, Err}
use Rattle.sd_base.specs.declared.Place.{Place}
use Rattle.sd_lex.specs.Pieces.{Bytes}
use Rattle.sd_lex.specs.Tokens as lex
use Rattle.sd_lex.specs.declared.Token.{Token}
use Rattle.sd_ast.specs.declared.Program.{Program}
use Rattle.sd_parse.specs.declared.class.TokenClass.{TokenClass}
use Rattle.sd_parse.specs.declared.class.TokenClass.TheVariants as s
use Rattle.sd_parse.specs.declared.answer.ReadError.{ReadError}
use Rattle.sd_parse.specs.declared.answer.ReadError.TheVariants.{NoMemory, TooLong, Lex, Star, Syntax, Deep, TooMany}
use Rattle.sd_parse.specs.TokenClasses.{class, same_class}
use Rattle.sd_parse.specs.Grammar.{Tokens}
use Rattle.sd_parse.specs.Programs.{Spells}
use Rattle.sd_parse.specs.Refusals.{IsSyntax, IsDeep}
use Rattle.sd_parse.specs.Counts.{procedures}

-- the words before a guard
abbrev pub guards : TokenClass → Bool
guards s.If = true
guards s.While = true
guards _ = false

-- At the place stands a `*` directly after `if (` or `while (`.
pub data IsStar (ts : Tokens) : Place → Type 0 where
  star : (u : Tokens) (word o t : Token) (r : Tokens) → ts ≡ u ++ (word ∷ o ∷ t ∷ r) → guards (class word) ≡ true
      → class o ≡ s.Open → class t ≡ s.Star → IsStar ts t.at

-- the place after the last byte
abbrev pub end_of : Bytes → Place
end_of bytes = record { byte = length bytes }

-- how the tokens of a text that ends at this place are answered
abbrev pub IsAnswer : Tokens → Place → Result Program ReadError → Type 0
IsAnswer ts end (Ok P) = Spells 200 ts P × (procedures P.decls ≤ 4096)
IsAnswer ts end (Err (Star at)) = IsSyntax Spells 200 ts end at × IsStar ts at
IsAnswer ts end (Err (Syntax at)) = IsSyntax Spells 200 ts end at × (IsStar ts at → ⊥)
IsAnswer ts end (Err (Deep at)) = IsDeep Spells 200 ts at
IsAnswer ts end (Err TooMany) = (P : Program) × Spells 200 ts P × (4096 < procedures P.decls)
IsAnswer ts end (Err _) = ⊥

-- the tokens of the text are answered so
pub record IsParsed (bytes : Bytes) (r : Result Program ReadError) : Type 0 where
  pub short : length bytes ≤ 16777216
  pub tokens : Tokens
  pub cut : lex.Tokens 0 bytes tokens
  pub answer : IsAnswer tokens (end_of bytes) r

-- How a text is answered. Out of memory says nothing of it.
abbrev pub IsReading : Bytes → Result Program ReadError → Type 0
IsReading bytes (Err NoMemory) = Unit {0}
IsReading bytes (Err TooLong) = 16777216 < length bytes
IsReading bytes (Err (Lex e)) = (length bytes ≤ 16777216) × lex.Refused 0 bytes e
IsReading bytes r = IsParsed bytes r

-- ---- where tokens stand

-- Each token stands before the next, from the first place on and before the second.
abbrev pub Rising : ℕ → Tokens → ℕ → Type 0
Rising from [] to = from ≤ to
Rising from (t ∷ ts) to = (from ≤ t.at.byte) × Rising (suc t.at.byte) ts to

-- whether these tokens begin with the word before a guard, a parenthesis and a star
abbrev pub guarded : Tokens → Bool
guarded (word ∷ o ∷ t ∷ r) = (guards (class word) && same_class (class o) s.Open) && same_class (class t) s.Star
guarded _ = false

-- the same of the tokens from the second before this one on
unfoldable pub star_at : Tokens → ℕ → Bool
star_at ts (suc (suc n)) = guarded (drop n ts)
star_at ts _ = false

-- the answer, or out of memory
abbrev pub IsParsing : Tokens → Place → Result Program ReadError → Type 0
IsParsing ts end (Err NoMemory) = Unit {0}
IsParsing ts end r = IsAnswer ts end r
