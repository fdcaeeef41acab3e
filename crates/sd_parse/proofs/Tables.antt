-- Only a number has the class of numbers, and only an identifier that of names.
use Rattle.std.proofs.Common.{◌≡◌, ℕ, true, false, cond, List, [], ◌∷◌, refl, sym, ◌∙◌}
use Rattle.std.specs.Prelude.{Bool}
use Rattle.std.specs.Str.{bytes_eq}
use denote.Enum.Bare.{true_same}
use Rattle.sd_base.specs.Value.{Text}
use Rattle.sd_lex.specs.declared.Token.{Token}
use Rattle.sd_lex.specs.declared.TokenKind.{TokenKind}
use Rattle.sd_lex.specs.declared.TokenKind.TheVariants as kind
use Rattle.sd_parse.specs.declared.class.TokenClass.{TokenClass}
use Rattle.sd_parse.specs.declared.class.TokenClass.TheVariants as s
use Rattle.sd_parse.specs.contracts.class.TokenClass.{the_type}
use Rattle.sd_parse.specs.TokenClasses.{class, class_of_kind, same_class, class_in, words, symbols}
use Rattle.sd_parse.specs.Grammar.{IsName, IsNumber}

-- no entry has the class
abbrev lacks : List (Text × TokenClass) → TokenClass → Bool
lacks [] x = true
lacks (m ∷ ms) x = cond (same_class m.1 x) false (lacks ms x)

same_classes : (a b : TokenClass) → a ≡ b → same_class a b ≡ true
unfolding same_class
same_classes a b e = true_same the_type a b e

not_in : (ms : List (Text × TokenClass)) (w : Text) (x : TokenClass) → lacks ms x ≡ true → (s.Other ≡ x → ⊥) → class_in ms w ≡ x → ⊥
not_in [] w x none real e = real e
not_in (m ∷ ms) w x none real e = by_entry (same_class m.1 x) refl none (λ rest. not_in ms w x rest real)
  where
    by_text : (b : Bool) → same_class m.1 x ≡ false → (class_in ms w ≡ x → ⊥) → cond b m.1 (class_in ms w) ≡ x → ⊥
    by_text true other rest e = let z : true ≡ false = sym (same_classes m.1 x e) ∙ other in cc
    by_text false other rest e = rest e

    by_entry : (b : Bool) → same_class m.1 x ≡ b → cond b false (lacks ms x) ≡ true → (lacks ms x ≡ true → class_in ms w ≡ x → ⊥) → ⊥
    by_entry true same none rest = absurd (cc)
    by_entry false other none rest = by_text (bytes_eq w m.0) other (rest none) e

-- no word and no symbol has the class of numbers or that of names
record LacksKinds (ms : List (Text × TokenClass)) : Type 0 where
  numbers : lacks ms s.Number ≡ true
  names : lacks ms s.Name ≡ true

words_lack : LacksKinds words
unfolding same_class words
words_lack = record { numbers = refl; names = refl }

symbols_lack : LacksKinds symbols
unfolding same_class symbols
symbols_lack = record { numbers = refl; names = refl }

number_kind : (k : TokenKind) → class_of_kind k ≡ s.Number → (n : ℕ) × (k ≡ kind.Number n)
unfolding class_of_kind
number_kind (kind.Word w) e = absurd (not_in words w s.Number words_lack.numbers (λ z. cc) e)
number_kind (kind.Symbol w) e = absurd (not_in symbols w s.Number symbols_lack.numbers (λ z. cc) e)
number_kind (kind.Ident x) e = absurd (let z : s.Name ≡ s.Number = e in cc)
number_kind (kind.Number n) e = (n, refl)
number_kind (kind.Text x) e = absurd (let z : s.Text ≡ s.Number = e in cc)

name_kind : (k : TokenKind) → class_of_kind k ≡ s.Name → (x : Text) × (k ≡ kind.Ident x)
unfolding class_of_kind
name_kind (kind.Word w) e = absurd (not_in words w s.Name words_lack.names (λ z. cc) e)
name_kind (kind.Symbol w) e = absurd (not_in symbols w s.Name symbols_lack.names (λ z. cc) e)
name_kind (kind.Ident x) e = (x, refl)
name_kind (kind.Number n) e = absurd (let z : s.Number ≡ s.Name = e in cc)
name_kind (kind.Text x) e = absurd (let z : s.Text ≡ s.Name = e in cc)

pub is_number : (t : Token) → class t ≡ s.Number → (n : ℕ) × IsNumber n t
is_number t e = let k = number_kind t.kind e in (k.0, record { same = k.1 })

pub is_name : (t : Token) → class t ≡ s.Name → (x : Text) × IsName x t
is_name t e = let k = name_kind t.kind e in (k.0, record { same = k.1 })
