-- The grammar of statements: from a tree to the lists of tokens that spell it, with the height. Attributes are held to
-- a limit of their own.
use Rattle.std.specs.Prelude.{ℕ, suc, max, Bool, List, [], ◌∷◌, ◌++◌}
use Rattle.sd_base.specs.declared.Place.{Place}
use Rattle.sd_base.specs.Value.{Text}
use Rattle.sd_lex.specs.declared.Token.{Token}
use Rattle.sd_ast.specs.declared.Expr.{Expr}
use Rattle.sd_ast.specs.declared.Left.{Left}
use Rattle.sd_ast.specs.declared.Invariant.{Invariant}
use Rattle.sd_ast.specs.declared.Stmt.{Stmt}
use Rattle.sd_ast.specs.declared.StmtKind.{StmtKind, Assert, Assume, Assign, Call, If, While, Break, Return}
use Rattle.sd_parse.specs.declared.class.TokenClass.TheVariants as s
use Rattle.sd_parse.specs.Grammar.{Tokens, Is, IsName}
use Rattle.sd_parse.specs.Rows.{Row, Commas, Enclosed}
use Rattle.sd_parse.specs.Clauses.{Expression, Attributes, Claim, Clause}

-- a statement at a place
abbrev pub stated : Place → StmtKind → Stmt
stated p k = record { at = p; kind = k }

-- names with commas between them
pub data Names : Tokens → List Text → Type 0 where
  one : {t : Token} {x : Text} → IsName x t → Names (t ∷ []) (x ∷ [])
  more : {t c : Token} {x : Text} {u : Tokens} {xs : List Text}
      → IsName x t → Is s.Comma c → Names u xs → Names (t ∷ c ∷ u) (x ∷ xs)

-- an index in brackets
pub data Index : Tokens → Expr → ℕ → Type 0 where
  index : {o c : Token} {u : Tokens} {e : Expr} {h : ℕ}
      → Is s.OpenBracket o → Expression u e h → Is s.CloseBracket c → Index (o ∷ u ++ c ∷ []) e h

-- A left side is no phrase; its indices are.
pub data LeftSide : Tokens → Left → ℕ → Type 0 where
  left : {t : Token} {x : Text} {u : Tokens} {es : List Expr} {h : ℕ}
      → IsName x t → Row Index u es h → LeftSide (t ∷ u) (record { name = x; indices = es }) h

-- the receivers of a call
pub data Receivers : Tokens → List Text → Type 0 where
  none : Receivers [] []
  some : {b : Token} {u : Tokens} {xs : List Text} → Names u xs → Is s.Becomes b → Receivers (u ++ b ∷ []) xs

pub data InvariantLine (limit : ℕ) : Tokens → Invariant → ℕ → Type 0 where
  line : {u : Tokens} {f : Bool} {e : Expr} {h : ℕ}
      → Clause limit s.Invariant u f e h → InvariantLine limit u (record { free = f; expr = e }) h

mutual
  -- These tokens spell this statement, and it is this high.
  pub data Statement (limit : ℕ) : Tokens → Stmt → ℕ → Type 0 where
    asserted : {u : Tokens} {p : Place} {e : Expr} {h : ℕ}
        → Claim limit s.Assert u (p, e) h → Statement limit u (stated p (Assert e)) (suc h)
    assumed : {u : Tokens} {p : Place} {e : Expr} {h : ℕ}
        → Claim limit s.Assume u (p, e) h → Statement limit u (stated p (Assume e)) (suc h)
    assigned : {t b c : Token} {u v : Tokens} {ls : List Left} {es : List Expr} {h k : ℕ}
        → Commas LeftSide (t ∷ u) ls h → Is s.Becomes b → Commas Expression v es k → Is s.Semi c
        → Statement limit (t ∷ u ++ b ∷ (v ++ c ∷ [])) (stated t.at (Assign ls es)) (suc (max h k))
    called : {t n c : Token} {f : Text} {a u v : Tokens} {xs : List Text} {es : List Expr} {h : ℕ}
        → Is s.Call t → Attributes limit a → Receivers u xs → IsName f n → Enclosed Expression v es h → Is s.Semi c
        → Statement limit (t ∷ a ++ (u ++ n ∷ (v ++ c ∷ []))) (stated t.at (Call xs f es)) (suc h)
    conditional : {t o c : Token} {u v w : Tokens} {e : Expr} {a b : List Stmt} {h k m : ℕ}
        → Is s.If t → Is s.Open o → Expression u e h → Is s.Close c → Block limit v a k → Otherwise limit w b m
        → Statement limit (t ∷ o ∷ u ++ c ∷ (v ++ w)) (stated t.at (If e a b)) (suc (max h (max k m)))
    loop : {t o c : Token} {u v w : Tokens} {e : Expr} {is : List Invariant} {ss : List Stmt} {h k m : ℕ}
        → Is s.While t → Is s.Open o → Expression u e h → Is s.Close c → Row (InvariantLine limit) v is k
        → Block limit w ss m
        → Statement limit (t ∷ o ∷ u ++ c ∷ (v ++ w)) (stated t.at (While e is ss)) (suc (max h (max k m)))
    broken : {t c : Token} → Is s.Break t → Is s.Semi c → Statement limit (t ∷ c ∷ []) (stated t.at Break) 1
    returned : {t c : Token} → Is s.Return t → Is s.Semi c → Statement limit (t ∷ c ∷ []) (stated t.at Return) 1

  -- what follows the first block of an `if`: nothing, or `else` with a block or with another `if`
  pub data Otherwise (limit : ℕ) : Tokens → List Stmt → ℕ → Type 0 where
    nothing : Otherwise limit [] [] 0
    block : {l : Token} {u : Tokens} {xs : List Stmt} {h : ℕ}
        → Is s.Else l → Block limit u xs h → Otherwise limit (l ∷ u) xs h
    chained : {l i : Token} {u : Tokens} {x : Stmt} {h : ℕ}
        → Is s.Else l → Is s.If i → Statement limit (i ∷ u) x h → Otherwise limit (l ∷ i ∷ u) (x ∷ []) h

  pub data Block (limit : ℕ) : Tokens → List Stmt → ℕ → Type 0 where
    braces : {o c : Token} {u : Tokens} {xs : List Stmt} {h : ℕ}
        → Is s.OpenBrace o → Statements limit u xs h → Is s.CloseBrace c → Block limit (o ∷ u ++ c ∷ []) xs h

  -- statements one after another, and the height of the highest
  pub data Statements (limit : ℕ) : Tokens → List Stmt → ℕ → Type 0 where
    none : Statements limit [] [] 0
    more : {u v : Tokens} {x : Stmt} {xs : List Stmt} {h k : ℕ}
        → Statement limit u x h → Statements limit v xs k → Statements limit (u ++ v) (x ∷ xs) (max h k)
