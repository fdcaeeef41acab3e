-- The grammar of expressions: from a tree to the lists of tokens that spell it, with the height of the phrase and the
-- place where it begins.
use Rattle.std.specs.Prelude.{◌≡◌, ℕ, suc, max, Bool, true, false, List, [], ◌∷◌, ◌++◌, Option, Some, None}
use Rattle.sd_base.specs.declared.Place.{Place}
use Rattle.sd_base.specs.Value.{Text}
use Rattle.sd_lex.specs.declared.Token.{Token}
use Rattle.sd_lex.specs.declared.TokenKind.TheVariants as kind
use Rattle.sd_ast.specs.declared.Expr.{Expr}
use Rattle.sd_ast.specs.declared.ExprKind.{ExprKind, Num, Truth, Var, Apply, Old, Unary, Binary, Select, Store}
use Rattle.sd_ast.specs.declared.UnOp.{UnOp}
use Rattle.sd_ast.specs.declared.UnOp.TheVariants as un
use Rattle.sd_ast.specs.declared.BinOp.{BinOp}
use Rattle.sd_ast.specs.declared.BinOp.TheVariants as op
use Rattle.sd_parse.specs.declared.class.TokenClass.{TokenClass}
use Rattle.sd_parse.specs.declared.class.TokenClass.TheVariants as s
use Rattle.sd_parse.specs.TokenClasses.{class}
pub use Rattle.sd_parse.specs.declared.level.Level.{Level}
pub use Rattle.sd_parse.specs.declared.level.Level.TheVariants.{Whole, Implication, Right, Explied, Junction, Conjunction, Disjunction, Relation, Sum, Product, Prefix, Postfix, Atom}

abbrev pub Tokens : Type 0
Tokens = List Token

-- the operators that are repeated at a level, and group to the left
abbrev pub repeated : Level → TokenClass → Option BinOp
repeated Whole s.Iff = Some op.Iff
repeated Explied s.Explies = Some op.Explies
repeated Conjunction s.And = Some op.And
repeated Disjunction s.Or = Some op.Or
repeated Sum s.Plus = Some op.Add
repeated Sum s.Minus = Some op.Sub
repeated Product s.Star = Some op.Mul
repeated _ _ = None

-- what stands between them, which is a phrase of the level by itself
abbrev pub operand : Level → Level
operand Whole = Implication
operand Explied = Junction
operand Conjunction = Relation
operand Disjunction = Relation
operand Sum = Product
operand Product = Prefix
operand _ = Atom

abbrev pub has_operand : Level → Bool
has_operand Whole = true
has_operand Explied = true
has_operand Conjunction = true
has_operand Disjunction = true
has_operand Sum = true
has_operand Product = true
has_operand _ = false

-- comparisons, which are not repeated
abbrev pub compares : TokenClass → Option BinOp
compares s.Equal = Some op.Eq
compares s.Unequal = Some op.Ne
compares s.Less = Some op.Lt
compares s.AtMost = Some op.Le
compares s.Greater = Some op.Gt
compares s.AtLeast = Some op.Ge
compares _ = None

abbrev pub prefixes : TokenClass → Option UnOp
prefixes s.Not = Some un.Not
prefixes s.Minus = Some un.Neg
prefixes _ = None

-- the token is this class
pub record Is (x : TokenClass) (t : Token) : Type 0 where
  pub same : class t ≡ x

-- the token is this identifier
pub record IsName (x : Text) (t : Token) : Type 0 where
  pub same : t.kind ≡ kind.Ident x

pub record IsNumber (n : ℕ) (t : Token) : Type 0 where
  pub same : t.kind ≡ kind.Number n

pub record Repeats (l : Level) (t : Token) (f : BinOp) : Type 0 where
  pub operator : repeated l (class t) ≡ Some f

pub record Compares (t : Token) (f : BinOp) : Type 0 where
  pub operator : compares (class t) ≡ Some f

pub record Prefixes (t : Token) (f : UnOp) : Type 0 where
  pub operator : prefixes (class t) ≡ Some f

-- an expression at a place
abbrev pub placed : Place → ExprKind → Expr
placed p k = record { at = p; kind = k }

mutual
  -- These tokens spell this expression at this level; the phrase is this high, and its first token stands at this
  -- place.
  pub data Phrase : Level → Tokens → Expr → ℕ → Place → Type 0 where
    number : {t : Token} {n : ℕ} → IsNumber n t → Phrase Atom (t ∷ []) (placed t.at (Num n)) 1 t.at
    yes : {t : Token} → Is s.True t → Phrase Atom (t ∷ []) (placed t.at (Truth true)) 1 t.at
    no : {t : Token} → Is s.False t → Phrase Atom (t ∷ []) (placed t.at (Truth false)) 1 t.at
    name : {t : Token} {x : Text} → IsName x t → Phrase Atom (t ∷ []) (placed t.at (Var x)) 1 t.at
    application : {t o c : Token} {x : Text} {u : Tokens} {es : List Expr} {h : ℕ}
        → IsName x t → Is s.Open o → Arguments u es h → Is s.Close c
        → Phrase Atom (t ∷ o ∷ u ++ c ∷ []) (placed t.at (Apply x es)) (suc h) t.at
    old : {t o c : Token} {u : Tokens} {e : Expr} {h : ℕ} {p : Place}
        → Is s.Old t → Is s.Open o → Phrase Whole u e h p → Is s.Close c
        → Phrase Atom (t ∷ o ∷ u ++ c ∷ []) (placed t.at (Old e)) (suc h) t.at
    parens : {o c : Token} {u : Tokens} {e : Expr} {h : ℕ} {p : Place}
        → Is s.Open o → Phrase Whole u e h p → Is s.Close c → Phrase Atom (o ∷ u ++ c ∷ []) e (suc h) o.at
    atom : {u : Tokens} {e : Expr} {h : ℕ} {p : Place} → Phrase Atom u e h p → Phrase Postfix u e h p
    select : {o c : Token} {u v : Tokens} {m i : Expr} {h k : ℕ} {p q : Place}
        → Phrase Postfix u m h p → Is s.OpenBracket o → Phrase Whole v i k q → Is s.CloseBracket c
        → Phrase Postfix (u ++ o ∷ (v ++ c ∷ [])) (placed p (Select m i)) (suc (max h k)) p
    store : {o b c : Token} {u v w : Tokens} {m i e : Expr} {h k j : ℕ} {p q r : Place}
        → Phrase Postfix u m h p → Is s.OpenBracket o → Phrase Whole v i k q → Is s.Becomes b → Phrase Whole w e j r
        → Is s.CloseBracket c
        → Phrase Postfix (u ++ o ∷ (v ++ b ∷ (w ++ c ∷ []))) (placed p (Store m i e)) (suc (max h (max k j))) p
    postfix : {u : Tokens} {e : Expr} {h : ℕ} {p : Place} → Phrase Postfix u e h p → Phrase Prefix u e h p
    unary : {t : Token} {f : UnOp} {u : Tokens} {e : Expr} {h : ℕ} {p : Place}
        → Prefixes t f → Phrase Prefix u e h p → Phrase Prefix (t ∷ u) (placed t.at (Unary f e)) (suc h) t.at
    only : {l : Level} {u : Tokens} {e : Expr} {h : ℕ} {p : Place}
        → has_operand l ≡ true → Phrase (operand l) u e h p → Phrase l u e h p
    repeat : {l : Level} {t : Token} {f : BinOp} {u v : Tokens} {a b : Expr} {h k : ℕ} {p q : Place}
        → Phrase l u a h p → Repeats l t f → Phrase (operand l) v b k q
        → Phrase l (u ++ t ∷ v) (placed p (Binary f a b)) (suc (max h k)) p
    sum : {u : Tokens} {e : Expr} {h : ℕ} {p : Place} → Phrase Sum u e h p → Phrase Relation u e h p
    compare : {t : Token} {f : BinOp} {u v : Tokens} {a b : Expr} {h k : ℕ} {p q : Place}
        → Phrase Sum u a h p → Compares t f → Phrase Sum v b k q
        → Phrase Relation (u ++ t ∷ v) (placed p (Binary f a b)) (suc (max h k)) p
    all : {u : Tokens} {e : Expr} {h : ℕ} {p : Place} → Phrase Conjunction u e h p → Phrase Junction u e h p
    any : {u : Tokens} {e : Expr} {h : ℕ} {p : Place} → Phrase Disjunction u e h p → Phrase Junction u e h p
    last : {u : Tokens} {e : Expr} {h : ℕ} {p : Place} → Phrase Junction u e h p → Phrase Right u e h p
    right : {t : Token} {u v : Tokens} {a b : Expr} {h k : ℕ} {p q : Place}
        → Phrase Junction u a h p → Is s.Implies t → Phrase Right v b k q
        → Phrase Right (u ++ t ∷ v) (placed p (Binary op.Implies a b)) (suc (max h k)) p
    implies : {u : Tokens} {e : Expr} {h : ℕ} {p : Place} → Phrase Right u e h p → Phrase Implication u e h p
    explied : {u : Tokens} {e : Expr} {h : ℕ} {p : Place} → Phrase Explied u e h p → Phrase Implication u e h p

  -- what stands between the parentheses of an application, and the height of the highest
  pub data Arguments : Tokens → List Expr → ℕ → Type 0 where
    none : Arguments [] [] 0
    some : {u : Tokens} {es : List Expr} {h : ℕ} → Expressions u es h → Arguments u es h

  -- expressions with commas between them, and the height of the highest
  pub data Expressions : Tokens → List Expr → ℕ → Type 0 where
    one : {u : Tokens} {e : Expr} {h : ℕ} {p : Place} → Phrase Whole u e h p → Expressions u (e ∷ []) h
    more : {c : Token} {u v : Tokens} {e : Expr} {es : List Expr} {h k : ℕ} {p : Place}
        → Phrase Whole u e h p → Is s.Comma c → Expressions v es k → Expressions (u ++ c ∷ v) (e ∷ es) (max h k)
