-- The words and marks of the language.
use Rattle.std.specs.Prelude.{Bool, true, false, List, [], ◌∷◌, codes}
use Rattle.sd_base.specs.Value.{Text}

-- the words that are no names, as the grammar has them
unfoldable pub reserved_words : List Text
reserved_words =
    codes "type" ∷
    codes "const" ∷
    codes "unique" ∷
    codes "function" ∷
    codes "returns" ∷
    codes "axiom" ∷
    codes "var" ∷
    codes "procedure" ∷
    codes "implementation" ∷
    codes "modifies" ∷
    codes "requires" ∷
    codes "ensures" ∷
    codes "free" ∷
    codes "invariant" ∷
    codes "assert" ∷
    codes "assume" ∷
    codes "call" ∷
    codes "if" ∷
    codes "else" ∷
    codes "while" ∷
    codes "break" ∷
    codes "return" ∷
    codes "old" ∷
    codes "true" ∷
    codes "false" ∷
    codes "int" ∷
    codes "bool" ∷
    []

-- the words that are no names, as they are kept for what the language leaves out
unfoldable pub unsupported_words : List Text
unsupported_words =
    codes "havoc" ∷
    codes "goto" ∷
    codes "where" ∷
    codes "forall" ∷
    codes "exists" ∷
    codes "lambda" ∷
    codes "real" ∷
    codes "div" ∷
    codes "mod" ∷
    codes "extends" ∷
    codes "complete" ∷
    []

-- The marks, and whether the grammar has them. Those that it hasn't are kept for what the language leaves out.
unfoldable pub marks : List (Text × Bool)
marks =
    (codes "<==>", true) ∷
    (codes "==>", true) ∷
    (codes "<==", true) ∷
    (codes "{:", true) ∷
    (codes ":=", true) ∷
    (codes "==", true) ∷
    (codes "!=", true) ∷
    (codes "<=", true) ∷
    (codes ">=", true) ∷
    (codes "&&", true) ∷
    (codes "||", true) ∷
    (codes "++", false) ∷
    (codes "<:", false) ∷
    (codes "(", true) ∷
    (codes ")", true) ∷
    (codes "[", true) ∷
    (codes "]", true) ∷
    (codes "{", true) ∷
    (codes "}", true) ∷
    (codes ":", true) ∷
    (codes ",", true) ∷
    (codes ";", true) ∷
    (codes "=", true) ∷
    (codes "<", true) ∷
    (codes ">", true) ∷
    (codes "!", true) ∷
    (codes "+", true) ∷
    (codes "-", true) ∷
    (codes "*", true) ∷
    (codes "/", false) ∷
    (codes "%", false) ∷
    []
