-- The languages of sequences, tokens and items.
use Rattle.std.proofs.Common.{◌≡◌, ℕ, zero, suc, true, false, cond, [], ◌∷◌, ◌++◌, refl, ap, sym, ◌∙◌, subst, append_assoc}
use Rattle.std.specs.Prelude.{Bool}
use Rattle.std.proofs.lemmas.List.{append-nil}
use denote.Enum.Bare.{same_true}
use Rattle.sd_base.specs.declared.Place.{Place}
use Rattle.sd_base.specs.Value.{Text}
use Rattle.sd_lex.specs.declared.Token.{Token}
use Rattle.sd_lex.specs.declared.TokenKind.{TokenKind}
use Rattle.sd_lex.specs.declared.TokenKind.TheVariants as kind
use Rattle.sd_parse.specs.declared.class.TokenClass.{TokenClass}
use Rattle.sd_parse.specs.contracts.class.TokenClass.{the_type}
use Rattle.sd_parse.specs.TokenClasses.{same_class}
use Rattle.sd_parse.specs.Grammar.{Tokens, Is, IsName, IsNumber}
use Rattle.sd_parse.specs.Reading.{Syntax, Step, Got, Bad, Reader, and_then, ahead, class_of, skip, want, name_by, name, number_by, number, many, deeper}

-- ---- a sequence

-- one token of a class
pub data Wanted (x : TokenClass) : Tokens → Place → Type 0 where
  wanted : {t : Token} → Is x t → Wanted x (t ∷ []) t.at

pub data Named : Tokens → Text × Place → Type 0 where
  named : {t : Token} {x : Text} → IsName x t → Named (t ∷ []) (x, t.at)

pub data Counted : Tokens → ℕ × Place → Type 0 where
  counted : {t : Token} {n : ℕ} → IsNumber n t → Counted (t ∷ []) (n, t.at)

-- nothing more, and a value
pub data Nothing {A : Type 0} (y : A) : Tokens → A → Type 0 where
  nothing : Nothing y [] y

pub settle : {A : Type 0} {y : A} {w : Tokens} {x : A} → Nothing y w x → (G : Tokens → A → Type 0) → G [] y → G w x
settle nothing G g = g

-- one text after another
pub data Both {A B : Type 0} (F : Tokens → A → Type 0) (G : A → Tokens → B → Type 0) : Tokens → B → Type 0 where
  both : {u v : Tokens} {x : A} {y : B} → F u x → G x v y → Both F G (u ++ v) y

-- ---- tokens

pub same_is : (a b : TokenClass) → same_class a b ≡ true → a ≡ b
unfolding same_class
same_is a b e = same_true the_type tt a b e

-- ---- items

-- texts of the language one after another, each added to what stood before
pub data Repeat {A B : Type 0} (F : Tokens → A → Type 0) (begins : TokenClass → Bool) (add : B → A → B) : B → Tokens → B → Type 0 where
  none : {acc : B} → Repeat F begins add acc [] acc
  more : {u v : Tokens} {x : A} {acc y : B} → F u x → Repeat F begins add (add acc x) v y → Repeat F begins add acc (u ++ v) y
