-- Each class but that of no token of the grammar is the class of some token.
use Rattle.std.proofs.Common.{◌≡◌, true, false, cond, List, [], ◌∷◌, refl, ap, ◌∙◌}
use Rattle.std.specs.Prelude.{Bool, Option, Some, None}
use Rattle.sd_base.specs.Value.{Text}
use Rattle.sd_lex.specs.declared.Token.{Token}
use Rattle.sd_lex.specs.declared.TokenKind.{TokenKind}
use Rattle.sd_lex.specs.declared.TokenKind.TheVariants as kind
use Rattle.sd_parse.specs.declared.class.TokenClass.{TokenClass}
use Rattle.sd_parse.specs.declared.class.TokenClass.TheVariants as s
use Rattle.sd_parse.specs.TokenClasses.{words, symbols, class_of_kind, same_class}
use Rattle.sd_parse.specs.Grammar.{Is}

-- a token of this class, which isn't the end
pub record Spelled (x : TokenClass) : Type 0 where
  pub token : Token
  pub is : Is x token
  pub real : s.Other ≡ x → ⊥

abbrev pub is_real : TokenClass → Bool
is_real s.Other = false
is_real _ = true

-- the text of the first entry of this class
abbrev text_of : List (Text × TokenClass) → TokenClass → Option Text
text_of [] x = None
text_of (m ∷ ms) x = cond (same_class m.1 x) (Some m.0) (text_of ms x)

abbrev by_symbol : Option Text → TokenKind
by_symbol None = kind.Ident []
by_symbol (Some w) = kind.Symbol w

abbrev by_word : TokenClass → Option Text → TokenKind
by_word x None = by_symbol (text_of symbols x)
by_word x (Some w) = kind.Word w

abbrev kind_for : TokenClass → TokenKind
kind_for s.Number = kind.Number 0
kind_for s.Text = kind.Text []
kind_for x = by_word x (text_of words x)

spell : (x : TokenClass) (k : TokenKind) → is_real x ≡ true → class_of_kind k ≡ x → Spelled x
spell x k real e = record { token = record { at = record { byte = 0 }; kind = k }; is = record { same = e }; real = λ f. let z : false ≡ true = ap is_real f ∙ real in cc }

pub spelled : (x : TokenClass) → is_real x ≡ true → Spelled x
unfolding class_of_kind same_class words symbols
spelled s.Other real = absurd (cc)
spelled x real = spell x (kind_for x) real refl
