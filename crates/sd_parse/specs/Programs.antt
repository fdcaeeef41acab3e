-- The grammar of declarations. The height of a declaration is that of its highest type, clause or statement: it adds
-- nothing.
use Rattle.std.specs.Prelude.{ℕ, max, ◌≤◌, Bool, true, false, List, [], ◌∷◌, ◌++◌, map, Some, None}
use Rattle.sd_base.specs.declared.Place.{Place}
use Rattle.sd_base.specs.declared.Var.{Var}
use Rattle.sd_base.specs.declared.Sort.{Sort}
use Rattle.sd_base.specs.Value.{Text}
use Rattle.sd_lex.specs.declared.Token.{Token}
use Rattle.sd_ast.specs.declared.Expr.{Expr}
use Rattle.sd_ast.specs.declared.Stmt.{Stmt}
use Rattle.sd_ast.specs.declared.Body.{Body}
use Rattle.sd_ast.specs.declared.Head.{Head}
use Rattle.sd_ast.specs.declared.Spec.{Spec}
use Rattle.sd_ast.specs.declared.Spec.TheVariants as spec
use Rattle.sd_ast.specs.declared.Decl.{Decl}
use Rattle.sd_ast.specs.declared.Decl.TheVariants as decl
use Rattle.sd_ast.specs.declared.Program.{Program}
use Rattle.sd_parse.specs.declared.class.TokenClass.TheVariants as s
use Rattle.sd_parse.specs.Grammar.{Tokens, Is, IsName}
use Rattle.sd_parse.specs.Rows.{Row, Joined, Enclosed}
use Rattle.sd_parse.specs.Types.{TypeText}
use Rattle.sd_parse.specs.Clauses.{Attributes, Claim, Clause}
use Rattle.sd_parse.specs.Statements.{Names, Statements}

-- variables of these names, of one type
abbrev pub variables : List Text → Sort → List Var
variables xs T = map (λ x. record { name = x; sort = T }) xs

-- names and their type
pub data Typed : Tokens → List Text → Sort → ℕ → Type 0 where
  typed : {c : Token} {u v : Tokens} {xs : List Text} {T : Sort} {h : ℕ}
      → Names u xs → Is s.Colon c → TypeText v T h → Typed (u ++ c ∷ v) xs T h

pub data Vars : Tokens → List Var → ℕ → Type 0 where
  one : {u : Tokens} {xs : List Text} {T : Sort} {h : ℕ} → Typed u xs T h → Vars u (variables xs T) h
  more : {c : Token} {u v : Tokens} {xs : List Text} {T : Sort} {ys : List Var} {h k : ℕ}
      → Typed u xs T h → Is s.Comma c → Vars v ys k → Vars (u ++ c ∷ v) (variables xs T ++ ys) (max h k)

-- the line of some variables
pub data VarLine (limit : ℕ) : Tokens → List Var → ℕ → Type 0 where
  line : {t c : Token} {a u : Tokens} {xs : List Var} {h : ℕ}
      → Is s.Var t → Attributes limit a → Vars u xs h → Is s.Semi c → VarLine limit (t ∷ a ++ (u ++ c ∷ [])) xs h

-- ---- procedures

pub data Parameters : Tokens → List Var → ℕ → Type 0 where
  none : {o c : Token} → Is s.Open o → Is s.Close c → Parameters (o ∷ c ∷ []) [] 0
  some : {o c : Token} {u : Tokens} {xs : List Var} {h : ℕ}
      → Is s.Open o → Vars u xs h → Is s.Close c → Parameters (o ∷ u ++ c ∷ []) xs h

pub data Results : Tokens → List Var → ℕ → Type 0 where
  none : Results [] [] 0
  some : {r : Token} {u : Tokens} {xs : List Var} {h : ℕ} → Is s.Returns r → Parameters u xs h → Results (r ∷ u) xs h

pub data HeadText : Tokens → Head → ℕ → Type 0 where
  head : {n : Token} {f : Text} {u v : Tokens} {ins outs : List Var} {h k : ℕ}
      → IsName f n → Parameters u ins h → Results v outs k
      → HeadText (n ∷ u ++ v) (record { name = f; at = n.at; ins = ins; outs = outs }) (max h k)

pub data SpecText (limit : ℕ) : Tokens → Spec → ℕ → Type 0 where
  modifies_none : {t c : Token} → Is s.Modifies t → Is s.Semi c → SpecText limit (t ∷ c ∷ []) (spec.Modifies []) 0
  modifies : {t c : Token} {u : Tokens} {xs : List Text}
      → Is s.Modifies t → Names u xs → Is s.Semi c → SpecText limit (t ∷ u ++ c ∷ []) (spec.Modifies xs) 0
  requires : {u : Tokens} {f : Bool} {e : Expr} {h : ℕ}
      → Clause limit s.Requires u f e h → SpecText limit u (spec.Requires f e) h
  ensures : {u : Tokens} {f : Bool} {e : Expr} {h : ℕ}
      → Clause limit s.Ensures u f e h → SpecText limit u (spec.Ensures f e) h

pub data BodyText (limit : ℕ) : Tokens → Body → ℕ → Type 0 where
  braces : {o c : Token} {u v : Tokens} {xs : List Var} {ss : List Stmt} {h k : ℕ}
      → Is s.OpenBrace o → Joined (VarLine limit) u xs h → Statements limit v ss k → Is s.CloseBrace c
      → BodyText limit (o ∷ u ++ (v ++ c ∷ [])) (record { locals = xs; stmts = ss }) (max h k)

-- ---- constants and functions

pub data Uniqueness : Tokens → Bool → Type 0 where
  plain : Uniqueness [] false
  unique : {t : Token} → Is s.Unique t → Uniqueness (t ∷ []) true

-- the type of an argument; a name before it is dropped
pub data Argument : Tokens → Sort → ℕ → Type 0 where
  bare : {u : Tokens} {T : Sort} {h : ℕ} → TypeText u T h → Argument u T h
  named : {n c : Token} {x : Text} {u : Tokens} {T : Sort} {h : ℕ}
      → IsName x n → Is s.Colon c → TypeText u T h → Argument (n ∷ c ∷ u) T h

-- the type of a function's result
pub data ResultType : Tokens → Sort → ℕ → Type 0 where
  colon : {c : Token} {u : Tokens} {T : Sort} {h : ℕ} → Is s.Colon c → TypeText u T h → ResultType (c ∷ u) T h
  returns : {r o c : Token} {u : Tokens} {T : Sort} {h : ℕ}
      → Is s.Returns r → Is s.Open o → Argument u T h → Is s.Close c → ResultType (r ∷ o ∷ u ++ c ∷ []) T h

-- ---- declarations

pub data Declaration (limit : ℕ) : Tokens → Decl → ℕ → Type 0 where
  types : {t c : Token} {a u : Tokens} {xs : List Text}
      → Is s.Type t → Attributes limit a → Names u xs → Is s.Semi c
      → Declaration limit (t ∷ a ++ (u ++ c ∷ [])) (decl.Types xs) 0
  constants : {t c : Token} {a u v : Tokens} {b : Bool} {xs : List Text} {T : Sort} {h : ℕ}
      → Is s.Const t → Attributes limit a → Uniqueness u b → Typed v xs T h → Is s.Semi c
      → Declaration limit (t ∷ a ++ (u ++ (v ++ c ∷ []))) (decl.Const b xs T) h
  function : {t n c : Token} {f : Text} {a u v : Tokens} {xs : List Sort} {T : Sort} {h k : ℕ}
      → Is s.Function t → Attributes limit a → IsName f n → Enclosed Argument u xs h → ResultType v T k → Is s.Semi c
      → Declaration limit (t ∷ a ++ (n ∷ u ++ (v ++ c ∷ []))) (decl.Function f xs T) (max h k)
  axiom_text : {u : Tokens} {p : Place} {e : Expr} {h : ℕ}
      → Claim limit s.Axiom u (p, e) h → Declaration limit u (decl.Axiom e) h
  globals : {u : Tokens} {xs : List Var} {h : ℕ} → VarLine limit u xs h → Declaration limit u (decl.Globals xs) h
  declared : {t c : Token} {a u v : Tokens} {p : Head} {xs : List Spec} {h k : ℕ}
      → Is s.Procedure t → Attributes limit a → HeadText u p h → Is s.Semi c → Row (SpecText limit) v xs k
      → Declaration limit (t ∷ a ++ (u ++ c ∷ v))
      (decl.Procedure (record { head = p; specs = xs; body = None })) (max h k)
  defined : {t : Token} {a u v w : Tokens} {p : Head} {xs : List Spec} {b : Body} {h k m : ℕ}
      → Is s.Procedure t → Attributes limit a → HeadText u p h → Row (SpecText limit) v xs k → BodyText limit w b m
      → Declaration limit (t ∷ a ++ (u ++ (v ++ w)))
      (decl.Procedure (record { head = p; specs = xs; body = Some b })) (max h (max k m))
  implementation : {t : Token} {a u v : Tokens} {p : Head} {b : Body} {h k : ℕ}
      → Is s.Implementation t → Attributes limit a → HeadText u p h → BodyText limit v b k
      → Declaration limit (t ∷ a ++ (u ++ v)) (decl.Implementation (record { head = p; body = b })) (max h k)

-- The tokens spell the program, and no phrase of it is higher than d, nor is one in an attribute.
pub record Spells (d : ℕ) (ts : Tokens) (P : Program) : Type 0 where
  pub height : ℕ
  pub spelled : Row (Declaration d) ts P.decls height
  pub low : height ≤ d
