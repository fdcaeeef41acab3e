-- What a blank, a comment and a token are, each as a whole text.
use Rattle.std.specs.Prelude.{◌≡◌, ℕ, ◌+◌, ◌-◌, ◌*◌, ◌≤◌, ◌<◌, length, take, drop, Bool, true, false, not, ◌&&◌, ◌||◌, if◌then◌else◌, ◌==◌, nat_le, nat_eq, List, [], ◌∷◌, ◌++◌, Option, Some, None, ◌⊎◌}
use Rattle.std.specs.List.{fold, starts_with}
use Rattle.std.specs.Str.{bytes_eq}
use Rattle.std.specs.Char.{is_ascii_digit, is_ascii_alphabetic}
use Rattle.sd_lex.specs.declared.token.TokenKind.TheVariants.{Word, Ident, Number, Text, Symbol}
use Rattle.sd_lex.specs.declared.token.Piece.{Piece}
use Rattle.sd_lex.specs.declared.token.Piece.TheVariants.{Gap, Whole, Wide, Unsupported, BadByte, OpenComment, OpenString}
use Rattle.sd_lex.specs.Tables.{reserved_words, unsupported_words, marks}

abbrev pub Bytes : Type 0
Bytes = List ℕ

-- space, tab, CR and LF
abbrev pub is_blank : ℕ → Bool
is_blank b = b == 32 || b == 9 || b == 13 || b == 10

-- a letter, or one of `_`, `.`, `$`, `#`, `'`, `~`, `^`, `?` and the backquote
abbrev pub is_letter : ℕ → Bool
is_letter b =
    is_ascii_alphabetic b || b == 95 || b == 46 || b == 36 || b == 35 || b == 39 || b == 126 || b == 94 || b == 63
    || b == 96

abbrev pub is_name_byte : ℕ → Bool
is_name_byte b = is_letter b || is_ascii_digit b

-- a byte of a comment that ends at the line's end
abbrev pub is_in_line : ℕ → Bool
is_in_line b = not (b == 10)

-- a byte between the quotes of a string
abbrev pub is_in_string : ℕ → Bool
is_in_string b = not (b == 34 || b == 10)

-- every byte passes
abbrev pub Each : (ℕ → Bool) → Bytes → Type 0
Each p [] = Unit {0}
Each p (b ∷ bs) = (p b ≡ true) × Each p bs

abbrev pub is_among : List Bytes → Bytes → Bool
is_among [] text = false
is_among (word ∷ words) text = if bytes_eq text word then true else is_among words text

-- a name, a reserved word, or a word that is kept for what the language leaves out
unfoldable pub word : Bytes → Piece
word text =
    if is_among unsupported_words text then Unsupported text
    else (if is_among reserved_words text then Whole (Word text) else Whole (Ident text))

-- the number that decimal digits stand for
abbrev pub decimal : Bytes → ℕ
decimal = fold (λ n b. 10 * n + (b - 48)) 0

unfoldable pub number : Bytes → Piece
number text =
    if nat_le (decimal text) 18446744073709551615 then Whole (Number (decimal text)) else Wide

unfoldable pub mark : Bytes → Bool → Piece
mark text true = Whole (Symbol text)
mark text false = Unsupported text

-- What follows the end of a comment in which `depth` further comments are open; none where it doesn't end.
-- A comment begins with `/*` and ends with `*/`.
unfoldable pub after_comment : ℕ → Bytes → Option Bytes
after_comment depth [] = None
after_comment depth (a ∷ []) = None
after_comment depth (a ∷ b ∷ more) =
    if a == 42 && b == 47 then (if depth == 0 then Some more else after_comment (depth - 1) more)
    else (if a == 47 && b == 42 then after_comment (depth + 1) more else after_comment depth (b ∷ more))

-- the kinds of bytes that begin a piece
pub data First : Type 0 where
  Blank : First
  Letter : First
  Digit : First
  Quote : First
  Slash : First
  Other : First

abbrev pub first : ℕ → First
first b =
    if is_blank b then Blank
    else (if is_letter b then Letter
    else (if is_ascii_digit b then Digit
    else (if b == 34 then Quote else (if b == 47 then Slash else Other))))

-- The text is an entry of the table.
unfoldable pub IsIn : List (Bytes × Bool) → Bytes → Bool → Type 0
IsIn [] text supported = ⊥
IsIn (m ∷ ms) text supported = ((m.0 ≡ text) × (m.1 ≡ supported)) ⊎ IsIn ms text supported

-- a symbol, or a byte that is none
abbrev pub IsMark : Bytes → Piece → Type 0
IsMark text p =
    ((supported : Bool) × IsIn marks text supported × (p ≡ mark text supported))
    ⊎ ((length text ≡ 1) × ((supported : Bool) → IsIn marks text supported → ⊥) × (p ≡ BadByte))

-- after a slash
abbrev pub IsAfterSlash : Bytes → Piece → Type 0
IsAfterSlash [] p = p ≡ Unsupported (47 ∷ [])
IsAfterSlash (b ∷ body) p =
    ((b ≡ 47) × Each is_in_line body × (p ≡ Gap))
    ⊎ ((b ≡ 42)
    × (((after_comment 0 body ≡ Some []) × (p ≡ Gap)) ⊎ ((after_comment 0 body ≡ None) × (p ≡ OpenComment))))

-- after a quotation mark
abbrev pub IsAfterQuote : Bytes → Piece → Type 0
IsAfterQuote more p =
    ((body : Bytes) × (more ≡ body ++ 34 ∷ []) × Each is_in_string body × (p ≡ Whole (Text body)))
    ⊎ (Each is_in_string more × (p ≡ OpenString))

abbrev pub Begins : First → ℕ → Bytes → Piece → Type 0
Begins Blank b more p = (more ≡ []) × (p ≡ Gap)
Begins Letter b more p = Each is_name_byte more × (p ≡ word (b ∷ more))
Begins Digit b more p = Each is_ascii_digit more × (p ≡ number (b ∷ more))
Begins Quote b more p = IsAfterQuote more p
Begins Slash b more p = IsAfterSlash more p
Begins Other b more p = IsMark (b ∷ more) p

-- The whole text is this piece.
abbrev pub IsPiece : Bytes → Piece → Type 0
IsPiece [] p = ⊥
IsPiece (b ∷ more) p = Begins (first b) b more p

-- The text is cut rightly before the rest: it is this piece, and no longer piece stands there.
pub record Cut (text rest : Bytes) (p : Piece) : Type 0 where
  pub piece : IsPiece text p
  pub longest : (b : ℕ) (extra more : Bytes) (q : Piece) → rest ≡ b ∷ extra ++ more
      → IsPiece (text ++ b ∷ extra) q → ⊥

-- The text begins with this piece, of n bytes, and with no longer one.
pub record BeginsWith (text : Bytes) (p : Piece) (n : ℕ) : Type 0 where
  pub some : 0 < n
  pub within : n ≤ length text
  pub cut : Cut (take n text) (drop n text) p

-- the kind of the first byte
abbrev pub BeginsAs : First → Bytes → Type 0
BeginsAs f [] = ⊥
BeginsAs f (b ∷ more) = first b ≡ f

-- the first entry of the table with which the text begins
abbrev pub first_mark : List (Bytes × Bool) → Bytes → Option (Bytes × Bool)
first_mark [] text = None
first_mark (m ∷ ms) text = if starts_with nat_eq text m.0 then Some m else first_mark ms text
