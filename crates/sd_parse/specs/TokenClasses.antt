-- What a token is to the grammar: a word, a symbol, or a kind.
use Rattle.std.specs.Prelude.{Bool, List, [], ◌∷◌, codes, if◌then◌else◌}
use Rattle.std.specs.Str.{bytes_eq}
use Rattle.sd_base.specs.Value.{Text}
use Rattle.sd_lex.specs.declared.Token.{Token}
use Rattle.sd_lex.specs.declared.TokenKind.{TokenKind}
use Rattle.sd_lex.specs.declared.TokenKind.TheVariants as kind
use Rattle.sd_parse.specs.declared.class.TokenClass.{TokenClass}
use Rattle.sd_parse.specs.declared.class.TokenClass.TheVariants as s
use Rattle.sd_parse.specs.contracts.class.TokenClass.{the_type}
use denote.Enum.Bare.{sameb}

-- the class of the first entry with this text
abbrev pub class_in : List (Text × TokenClass) → Text → TokenClass
class_in [] text = s.Other
class_in (m ∷ ms) text = if bytes_eq text m.0 then m.1 else class_in ms text

-- the words that the grammar has
unfoldable pub words : List (Text × TokenClass)
words =
    (codes "true", s.True) ∷
    (codes "false", s.False) ∷
    (codes "assert", s.Assert) ∷
    (codes "if", s.If) ∷
    (codes "else", s.Else) ∷
    (codes "return", s.Return) ∷
    (codes "procedure", s.Procedure) ∷
    (codes "var", s.Var) ∷
    (codes "bool", s.Bool) ∷
    (codes "type", s.Type) ∷
    (codes "const", s.Const) ∷
    (codes "unique", s.Unique) ∷
    (codes "function", s.Function) ∷
    (codes "returns", s.Returns) ∷
    (codes "axiom", s.Axiom) ∷
    (codes "implementation", s.Implementation) ∷
    (codes "modifies", s.Modifies) ∷
    (codes "requires", s.Requires) ∷
    (codes "ensures", s.Ensures) ∷
    (codes "free", s.Free) ∷
    (codes "invariant", s.Invariant) ∷
    (codes "assume", s.Assume) ∷
    (codes "call", s.Call) ∷
    (codes "while", s.While) ∷
    (codes "break", s.Break) ∷
    (codes "old", s.Old) ∷
    (codes "int", s.Int) ∷
    []

-- the symbols that the grammar has
unfoldable pub symbols : List (Text × TokenClass)
symbols =
    (codes ";", s.Semi) ∷
    (codes ":=", s.Becomes) ∷
    (codes "(", s.Open) ∷
    (codes ")", s.Close) ∷
    (codes "&&", s.And) ∷
    (codes "||", s.Or) ∷
    (codes "!", s.Not) ∷
    (codes "==>", s.Implies) ∷
    (codes "{", s.OpenBrace) ∷
    (codes "}", s.CloseBrace) ∷
    (codes ",", s.Comma) ∷
    (codes ":", s.Colon) ∷
    (codes "<==>", s.Iff) ∷
    (codes "<==", s.Explies) ∷
    (codes "==", s.Equal) ∷
    (codes "!=", s.Unequal) ∷
    (codes "<", s.Less) ∷
    (codes "<=", s.AtMost) ∷
    (codes ">", s.Greater) ∷
    (codes ">=", s.AtLeast) ∷
    (codes "+", s.Plus) ∷
    (codes "-", s.Minus) ∷
    (codes "*", s.Star) ∷
    (codes "[", s.OpenBracket) ∷
    (codes "]", s.CloseBracket) ∷
    (codes "{:", s.OpenAttribute) ∷
    (codes "=", s.Same) ∷
    []

unfoldable pub class_of_kind : TokenKind → TokenClass
class_of_kind (kind.Word w) = class_in words w
class_of_kind (kind.Symbol w) = class_in symbols w
class_of_kind (kind.Ident x) = s.Name
class_of_kind (kind.Number n) = s.Number
class_of_kind (kind.Text x) = s.Text

abbrev pub class : Token → TokenClass
class t = class_of_kind t.kind

-- whether two classes are one
unfoldable pub same_class : TokenClass → TokenClass → Bool
same_class = sameb the_type
