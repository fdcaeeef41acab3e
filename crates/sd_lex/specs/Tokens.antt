-- The tokens of a text, with their places, or its first refusal.
use Rattle.std.specs.Prelude.{◌≡◌, ℕ, ◌+◌, List, [], ◌∷◌, ◌++◌, length}
use Rattle.sd_lex.specs.declared.token.Token.{Token}
use Rattle.sd_lex.specs.declared.token.TokenKind.{TokenKind}
use Rattle.sd_lex.specs.declared.token.LexError.{LexError}
use Rattle.sd_lex.specs.declared.token.LexError.TheVariants as error
use Rattle.sd_lex.specs.declared.token.Piece.{Piece}
use Rattle.sd_lex.specs.declared.token.Piece.TheVariants.{Gap, Whole, Wide, Unsupported, BadByte, OpenComment, OpenString}
use Rattle.sd_lex.specs.Pieces.{Bytes, Cut}

abbrev pub token_at : ℕ → TokenKind → Token
token_at at kind = record { at = record { byte = at }; kind = kind }

-- The text, which begins at this place, is cut into blanks, comments and these tokens.
pub data Tokens : ℕ → Bytes → List Token → Type 0 where
  ended : {at : ℕ} → Tokens at [] []
  gap : {at : ℕ} {text rest whole : Bytes} {ts : List Token}
      → Cut text rest Gap → whole ≡ text ++ rest → Tokens (at + length text) rest ts → Tokens at whole ts
  token : {at : ℕ} {text rest whole : Bytes} {ts : List Token} {kind : TokenKind}
      → Cut text rest (Whole kind) → whole ≡ text ++ rest → Tokens (at + length text) rest ts
      → Tokens at whole (token_at at kind ∷ ts)

abbrev pub IsRefusal : ℕ → Piece → LexError → Type 0
IsRefusal at Wide e = e ≡ error.Wide (record { byte = at })
IsRefusal at (Unsupported w) e = e ≡ error.Unsupported (record { byte = at }) w
IsRefusal at BadByte e = e ≡ error.BadByte (record { byte = at })
IsRefusal at OpenComment e = e ≡ error.OpenComment (record { byte = at })
IsRefusal at OpenString e = e ≡ error.OpenString (record { byte = at })
IsRefusal at _ e = ⊥

-- The text, which begins at this place, is refused so, at the first piece that is no blank, comment or token.
pub data Refused : ℕ → Bytes → LexError → Type 0 where
  here : {at : ℕ} {text rest whole : Bytes} {p : Piece} {e : LexError}
      → Cut text rest p → whole ≡ text ++ rest → IsRefusal at p e → Refused at whole e
  gap_later : {at : ℕ} {text rest whole : Bytes} {e : LexError}
      → Cut text rest Gap → whole ≡ text ++ rest → Refused (at + length text) rest e → Refused at whole e
  token_later : {at : ℕ} {text rest whole : Bytes} {kind : TokenKind} {e : LexError}
      → Cut text rest (Whole kind) → whole ≡ text ++ rest → Refused (at + length text) rest e
      → Refused at whole e
