-- Which token is refused, and why, in any language whose texts have heights.
use Rattle.std.specs.Prelude.{◌≡◌, ℕ, [], ◌∷◌, ◌++◌}
use Rattle.sd_base.specs.declared.Place.{Place}
use Rattle.sd_lex.specs.declared.Token.{Token}
use Rattle.sd_parse.specs.Grammar.{Tokens}

-- The tokens begin a text of this height at most.
pub record BeginsWithin {A : Type 0} (L : ℕ → Tokens → A → Type 0) (d : ℕ) (u : Tokens) : Type 0 where
  pub more : Tokens
  pub value : A
  pub spelled : L d (u ++ more) value

-- The tokens begin a text of some height.
pub record BeginsSome {A : Type 0} (L : ℕ → Tokens → A → Type 0) (u : Tokens) : Type 0 where
  pub height : ℕ
  pub begins : BeginsWithin L height u

-- The place of the first token with which the tokens so far begin no text; or of the end, where the tokens begin one
-- and
-- are none, so that a token is missing there, as the last `}`.
pub data IsSyntax {A : Type 0} (L : ℕ → Tokens → A → Type 0) (limit : ℕ) (ts : Tokens) (end : Place)
    : Place → Type 0 where
  at_token : {u : Tokens} (t : Token) (r : Tokens) → ts ≡ u ++ t ∷ r → BeginsWithin L limit u
      → (BeginsSome L (u ++ t ∷ []) → ⊥) → IsSyntax L limit ts end t.at
  missing_at_end : BeginsWithin L limit ts → ((d : ℕ) (x : A) → L d ts x → ⊥) → IsSyntax L limit ts end end

-- The place of the first token with which the tokens so far begin a text, but none within the limit.
pub data IsDeep {A : Type 0} (L : ℕ → Tokens → A → Type 0) (limit : ℕ) (ts : Tokens) : Place → Type 0 where
  at_token : {u : Tokens} (t : Token) (r : Tokens) → ts ≡ u ++ t ∷ r → BeginsWithin L limit u
      → BeginsSome L (u ++ t ∷ []) → (BeginsWithin L limit (u ++ t ∷ []) → ⊥) → IsDeep L limit ts t.at

-- the place of the next token; or of the end, where none is left, as where the last `}` is missing
abbrev pub place_of : Place → Tokens → Place
place_of end [] = end
place_of end (t ∷ ts) = t.at

-- what is said of a text: its value, or the place that is refused
pub data Verdict (A : Type 0) : Type 0 where
  Read : A → Verdict A
  Syntax : Place → Verdict A
  Deep : Place → Verdict A

abbrev pub IsVerdict : {A : Type 0} (L : ℕ → Tokens → A → Type 0) (limit : ℕ) (ts : Tokens) (end : Place) → Verdict A
    → Type 0
IsVerdict L limit ts end (Read x) = L limit ts x
IsVerdict L limit ts end (Syntax at) = IsSyntax L limit ts end at
IsVerdict L limit ts end (Deep at) = IsDeep L limit ts at
