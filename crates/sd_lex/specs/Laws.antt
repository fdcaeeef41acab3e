-- That the cut into tokens has one answer, and no more.
use Rattle.std.specs.Prelude.{◌≡◌, ℕ, List, ◌⊎◌}
use Rattle.sd_lex.specs.declared.token.Token.{Token}
use Rattle.sd_lex.specs.declared.token.LexError.{LexError}
use Rattle.sd_lex.specs.Pieces.{Bytes}
use Rattle.sd_lex.specs.Tokens.{Tokens, Refused}

abbrev pub NeverBoth : Type 0
NeverBoth =
    (at : ℕ) (text : Bytes) (ts : List Token) (e : LexError) → Tokens at text ts → Refused at text e → ⊥

abbrev pub OneList : Type 0
OneList =
    (at : ℕ) (text : Bytes) (ts us : List Token) → Tokens at text ts → Tokens at text us → ts ≡ us

abbrev pub OneRefusal : Type 0
OneRefusal =
    (at : ℕ) (text : Bytes) (e f : LexError) → Refused at text e → Refused at text f → e ≡ f

abbrev pub SomeAnswer : Type 0
SomeAnswer = (text : Bytes) → ((ts : List Token) × Tokens 0 text ts) ⊎ ((e : LexError) × Refused 0 text e)
