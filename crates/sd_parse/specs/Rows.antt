-- Lists of items, each with its height; a list is as high as its highest item.
use Rattle.std.specs.Prelude.{ℕ, max, List, [], ◌∷◌, ◌++◌}
use Rattle.sd_lex.specs.declared.Token.{Token}
use Rattle.sd_parse.specs.declared.class.TokenClass.TheVariants as s
use Rattle.sd_parse.specs.Grammar.{Tokens, Is}

-- items one after another
pub data Row {A : Type 0} (F : Tokens → A → ℕ → Type 0) : Tokens → List A → ℕ → Type 0 where
  none : Row F [] [] 0
  more : {u v : Tokens} {x : A} {xs : List A} {h k : ℕ} → F u x h → Row F v xs k → Row F (u ++ v) (x ∷ xs) (max h k)

-- lists one after another, as one list
pub data Joined {A : Type 0} (F : Tokens → List A → ℕ → Type 0) : Tokens → List A → ℕ → Type 0 where
  none : Joined F [] [] 0
  more : {u v : Tokens} {xs ys : List A} {h k : ℕ} → F u xs h → Joined F v ys k → Joined F (u ++ v) (xs ++ ys) (max h k)

-- items with commas between them
pub data Commas {A : Type 0} (F : Tokens → A → ℕ → Type 0) : Tokens → List A → ℕ → Type 0 where
  one : {u : Tokens} {x : A} {h : ℕ} → F u x h → Commas F u (x ∷ []) h
  more : {c : Token} {u v : Tokens} {x : A} {xs : List A} {h k : ℕ}
      → F u x h → Is s.Comma c → Commas F v xs k → Commas F (u ++ c ∷ v) (x ∷ xs) (max h k)

-- in parentheses, with commas between them, or none
pub data Enclosed {A : Type 0} (F : Tokens → A → ℕ → Type 0) : Tokens → List A → ℕ → Type 0 where
  none : {o c : Token} → Is s.Open o → Is s.Close c → Enclosed F (o ∷ c ∷ []) [] 0
  some : {o c : Token} {u : Tokens} {xs : List A} {h : ℕ}
      → Is s.Open o → Commas F u xs h → Is s.Close c → Enclosed F (o ∷ u ++ c ∷ []) xs h
