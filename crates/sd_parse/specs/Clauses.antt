-- The grammar of attributes, and of what states one expression with a word before it.
use Rattle.std.specs.Prelude.{ℕ, max, ◌≤◌, Bool, true, false, [], ◌∷◌, ◌++◌}
use Rattle.sd_base.specs.declared.Place.{Place}
use Rattle.sd_base.specs.Value.{Text}
use Rattle.sd_lex.specs.declared.Token.{Token}
use Rattle.sd_ast.specs.declared.Expr.{Expr}
use Rattle.sd_parse.specs.declared.class.TokenClass.{TokenClass}
use Rattle.sd_parse.specs.declared.class.TokenClass.TheVariants as s
use Rattle.sd_parse.specs.Grammar.{Tokens, Whole, Phrase, Is, IsName}

-- a whole expression, wherever it begins
pub data Expression : Tokens → Expr → ℕ → Type 0 where
  whole : {u : Tokens} {e : Expr} {h : ℕ} {p : Place} → Phrase Whole u e h p → Expression u e h

-- ---- attributes, which leave nothing in the tree

-- an expression, or a text between quotes
pub data Datum : Tokens → ℕ → Type 0 where
  expression : {u : Tokens} {e : Expr} {h : ℕ} → Expression u e h → Datum u h
  text : {t : Token} → Is s.Text t → Datum (t ∷ []) 0

pub data Data : Tokens → ℕ → Type 0 where
  one : {u : Tokens} {h : ℕ} → Datum u h → Data u h
  more : {c : Token} {u v : Tokens} {h k : ℕ} → Datum u h → Is s.Comma c → Data v k → Data (u ++ c ∷ v) (max h k)

pub data Attribute : Tokens → ℕ → Type 0 where
  bare : {o n c : Token} {x : Text}
      → Is s.OpenAttribute o → IsName x n → Is s.CloseBrace c → Attribute (o ∷ n ∷ c ∷ []) 0
  full : {o n c : Token} {x : Text} {u : Tokens} {h : ℕ}
      → Is s.OpenAttribute o → IsName x n → Data u h → Is s.CloseBrace c → Attribute (o ∷ n ∷ u ++ c ∷ []) h

-- attributes one after another, each held to the limit by itself
pub data Attributes (limit : ℕ) : Tokens → Type 0 where
  none : Attributes limit []
  more : {u v : Tokens} {h : ℕ} → Attribute u h → h ≤ limit → Attributes limit v → Attributes limit (u ++ v)

-- ---- a word, attributes, an expression and a semicolon, at the word's place

pub data Claim (limit : ℕ) (word : TokenClass) : Tokens → Place × Expr → ℕ → Type 0 where
  claim : {t c : Token} {a u : Tokens} {e : Expr} {h : ℕ}
      → Is word t → Attributes limit a → Expression u e h → Is s.Semi c
      → Claim limit word (t ∷ a ++ (u ++ c ∷ [])) (t.at, e) h

-- a claim that may be free
pub data Clause (limit : ℕ) (word : TokenClass) : Tokens → Bool → Expr → ℕ → Type 0 where
  checked : {p : Place} {e : Expr} {u : Tokens} {h : ℕ} → Claim limit word u (p, e) h → Clause limit word u false e h
  free : {f : Token} {p : Place} {e : Expr} {u : Tokens} {h : ℕ}
      → Is s.Free f → Claim limit word u (p, e) h → Clause limit word (f ∷ u) true e h
