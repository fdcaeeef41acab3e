-- The grammar of types: from a type to the lists of tokens that spell it, with the height of the phrase.
use Rattle.std.specs.Prelude.{ℕ, suc, max, [], ◌∷◌, ◌++◌}
use Rattle.sd_base.specs.declared.Sort.{Sort}
use Rattle.sd_base.specs.declared.Sort.TheVariants as sort
use Rattle.sd_base.specs.Value.{Text}
use Rattle.sd_lex.specs.declared.Token.{Token}
use Rattle.sd_parse.specs.declared.class.TokenClass.TheVariants as s
use Rattle.sd_parse.specs.Grammar.{Tokens, Is, IsName}

pub data TypeText : Tokens → Sort → ℕ → Type 0 where
  int : {t : Token} → Is s.Int t → TypeText (t ∷ []) sort.Int 1
  bool : {t : Token} → Is s.Bool t → TypeText (t ∷ []) sort.Bool 1
  named : {t : Token} {x : Text} → IsName x t → TypeText (t ∷ []) (sort.Named x) 1
  map : {o c : Token} {u v : Tokens} {a b : Sort} {h k : ℕ}
      → Is s.OpenBracket o → TypeText u a h → Is s.CloseBracket c → TypeText v b k
      → TypeText (o ∷ u ++ c ∷ v) (sort.Map a b) (suc (max h k))
