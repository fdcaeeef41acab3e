-- What a reader gives, as a function of the tokens.
use Rattle.std.specs.Prelude.{◌≡◌, ℕ, zero, suc, max, ◌≤◌, nat_lt, Bool, true, false, if◌then◌else◌, List, [], ◌∷◌, ◌++◌, length, Option, Some, None, Result, Ok, Err, IfOk}
use Rattle.std.specs.declared.alloc.Global.{Global}
use denote.Ref.{MutBor}
use Rattle.sd_base.specs.declared.Place.{Place}
use Rattle.sd_base.specs.Value.{Text}
use Rattle.sd_lex.specs.declared.Token.{Token}
use Rattle.sd_lex.specs.declared.TokenKind.{TokenKind}
use Rattle.sd_lex.specs.declared.TokenKind.TheVariants as kind
use Rattle.sd_ast.specs.declared.Expr.{Expr}
use Rattle.sd_ast.specs.declared.ExprKind.{Num, Truth, Var, Apply, Old, Unary, Binary, Select, Store}
use Rattle.sd_ast.specs.declared.UnOp.{UnOp}
use Rattle.sd_ast.specs.declared.BinOp.{BinOp}
use Rattle.sd_ast.specs.declared.BinOp.TheVariants as op
use Rattle.sd_parse.specs.declared.class.TokenClass.{TokenClass}
use Rattle.sd_parse.specs.declared.class.TokenClass.TheVariants as s
use Rattle.sd_parse.specs.declared.cursor.Fault.{Fault as CodeFault}
use Rattle.sd_parse.specs.declared.cursor.Fault.TheVariants.{NoMemory}
use Rattle.sd_parse.specs.declared.cursor.Fault.TheVariants as fault
use Rattle.sd_parse.specs.TokenClasses.{class, same_class}
use Rattle.sd_parse.specs.Grammar.{Tokens, Level, Whole, Implication, Right, Explied, Junction, Conjunction, Disjunction, Relation, Sum, Product, Prefix, Postfix, Atom, repeated, operand, compares, prefixes, placed}

pub data Fault : Type 0 where
  Syntax : Fault
  Deep : Fault

-- a value and the tokens after it, or a fault and the tokens from its place on
pub data Step (A : Type 0) : Type 0 where
  Got : A → Tokens → Step A
  Bad : Fault → Tokens → Step A

abbrev pub Reader : Type 0 → Type 0
Reader A = Tokens → Step A

abbrev pub and_then : {A B : Type 0} → Step A → (A → Reader B) → Step B
and_then (Got x rest) f = f x rest
and_then (Bad k rest) f = Bad k rest

infixl 10 ◌>>=◌
abbrev pub ◌>>=◌ : {A B : Type 0} → Reader A → (A → Reader B) → Reader B
p >>= f = λ ts. and_then (p ts) f

abbrev pub ahead : Tokens → Option Token
ahead [] = None
ahead (t ∷ ts) = Some t

abbrev pub pure : {A : Type 0} → A → Reader A
pure x = λ ts. Got x ts

abbrev pub bad : {A : Type 0} → Fault → Reader A
bad k = λ ts. Bad k ts

-- the next token decides
abbrev pub look : {A : Type 0} → (Option Token → Reader A) → Reader A
look f = λ ts. f (ahead ts) ts

-- the next token, of which the place is kept
abbrev pub skip : Reader Place
skip [] = Bad Syntax []
skip (t ∷ ts) = Got t.at ts

abbrev pub class_of : Option Token → TokenClass
class_of None = s.Other
class_of (Some t) = class t

-- a token of this class
unfoldable pub want : TokenClass → Reader Place
want x = look (λ t. if same_class (class_of t) x then skip else bad Syntax)

-- an identifier, with its place
abbrev pub name_by : Token → Tokens → TokenKind → Step (Text × Place)
name_by t ts (kind.Ident x) = Got (x, t.at) ts
name_by t ts _ = Bad Syntax (t ∷ ts)

unfoldable pub name : Reader (Text × Place)
name [] = Bad Syntax []
name (t ∷ ts) = name_by t ts t.kind

abbrev pub number_by : Token → Tokens → TokenKind → Step (ℕ × Place)
number_by t ts (kind.Number n) = Got (n, t.at) ts
number_by t ts _ = Bad Syntax (t ∷ ts)

unfoldable pub number : Reader (ℕ × Place)
number [] = Bad Syntax []
number (t ∷ ts) = number_by t ts t.kind

-- Items, each added to what was read before, as long as the next token begins one. The number bounds the turns.
unfoldable pub many : {A B : Type 0} → (TokenClass → Bool) → Reader A → (B → A → B) → ℕ → B → Reader B
many begins item add zero acc = bad Syntax
many begins item add (suc n) acc = look (λ t. if begins (class_of t) then (item >>= λ x.
    many begins item add n (add acc x)) else pure acc)

-- as many as there are
abbrev pub all : {A B : Type 0} → (TokenClass → Bool) → Reader A → (B → A → B) → B → Reader B
all begins item add acc = λ ts. many begins item add (suc (length ts)) acc ts

-- an expression, its height, and the place where its phrase begins
abbrev pub MeasuredExpr : Type 0
MeasuredExpr = Expr × ℕ × Place

abbrev pub join : BinOp → MeasuredExpr → MeasuredExpr → MeasuredExpr
join f x y = (placed x.2 (Binary f x.0 y.0), suc (max x.1 y.1), x.2)

abbrev pub select : MeasuredExpr → MeasuredExpr → MeasuredExpr
select m i = (placed m.2 (Select m.0 i.0), suc (max m.1 i.1), m.2)

abbrev pub store : MeasuredExpr → MeasuredExpr → MeasuredExpr → MeasuredExpr
store m i x = (placed m.2 (Store m.0 i.0 x.0), suc (max m.1 (max i.1 x.1)), m.2)

-- expressions, and the height of the highest
abbrev pub Group : Type 0
Group = List Expr × ℕ

-- one more at the end
abbrev pub add : Group → MeasuredExpr → Group
add xs x = (xs.0 ++ x.0 ∷ [], max xs.1 x.1)

abbrev pub comma : TokenClass → Bool
comma s.Comma = true
comma _ = false

abbrev pub opens_bracket : TokenClass → Bool
opens_bracket s.OpenBracket = true
opens_bracket _ = false

-- what begins an expression
abbrev pub begins : TokenClass → Bool
begins s.Number = true
begins s.True = true
begins s.False = true
begins s.Name = true
begins s.Old = true
begins s.Open = true
begins s.Not = true
begins s.Minus = true
begins _ = false

-- what needs a phrase below it
abbrev pub deeper : {A : Type 0} → ℕ → Reader A → Reader A
deeper zero p = bad Deep
deeper (suc d) p = p

-- The phrases of height d + 1 at most, from readers of those of height d at most.
module _ (d : ℕ) (inner : Level → Reader MeasuredExpr) where
  unfoldable pub parenthesized : Reader MeasuredExpr
  parenthesized = deeper d (skip >>= λ p. inner Whole >>= λ x. want s.Close >>= λ _. pure (x.0, suc x.1, p))

  unfoldable pub old : Reader MeasuredExpr
  old = deeper d (skip >>= λ p. want s.Open >>= λ _. inner Whole >>= λ x. want s.Close >>= λ _.
      pure (placed p (Old x.0), suc x.1, p))

  unfoldable pub next_expression : Reader MeasuredExpr
  next_expression = skip >>= λ _. inner Whole

  unfoldable pub more_expressions : Group → Reader Group
  more_expressions xs = all comma next_expression add xs

  -- expressions with commas between them
  unfoldable pub expressions : Reader Group
  expressions = inner Whole >>= λ x. more_expressions (x.0 ∷ [], x.1)

  abbrev pub arguments_by : TokenClass → Reader Group
  arguments_by s.Close = pure ([], 0)
  arguments_by _ = expressions

  unfoldable pub arguments : Reader Group
  arguments = look (λ t. arguments_by (class_of t))

  -- an application of the function of this name, from its parenthesis on
  unfoldable pub application : Text × Place → Reader MeasuredExpr
  application f = skip >>= λ _. arguments >>= λ xs. want s.Close >>= λ _.
      pure (placed f.1 (Apply f.0 xs.0), suc xs.1, f.1)

  abbrev pub named_by : Text × Place → TokenClass → Reader MeasuredExpr
  named_by x s.Open = application x
  named_by x _ = pure (placed x.1 (Var x.0), 1, x.1)

  unfoldable pub named : Reader MeasuredExpr
  named = name >>= λ x. look (λ t. named_by x (class_of t))

  abbrev pub atom_by : TokenClass → Reader MeasuredExpr
  atom_by s.Number = number >>= λ n. pure (placed n.1 (Num n.0), 1, n.1)
  atom_by s.True = skip >>= λ p. pure (placed p (Truth true), 1, p)
  atom_by s.False = skip >>= λ p. pure (placed p (Truth false), 1, p)
  atom_by s.Name = named
  atom_by s.Old = old
  atom_by s.Open = parenthesized
  atom_by _ = bad Syntax

  unfoldable pub atom : Reader MeasuredExpr
  atom = look (λ t. atom_by (class_of t))

  -- after an index: a value and the bracket, or the bracket alone
  abbrev pub indexed_by : MeasuredExpr → MeasuredExpr → TokenClass → Reader MeasuredExpr
  indexed_by m i s.Becomes = skip >>= λ _. inner Whole >>= λ x. want s.CloseBracket >>= λ _. pure (store m i x)
  indexed_by m i _ = want s.CloseBracket >>= λ _. pure (select m i)

  unfoldable pub indexed : MeasuredExpr → MeasuredExpr → Reader MeasuredExpr
  indexed m i = look (λ t. indexed_by m i (class_of t))

  abbrev pub bracket_by : Bool → MeasuredExpr → Reader MeasuredExpr
  bracket_by true m = skip >>= λ _. inner Whole >>= indexed m
  bracket_by false m = bad Deep

  -- m and what stands in brackets after it
  unfoldable pub bracket : MeasuredExpr → Reader MeasuredExpr
  bracket m = bracket_by (nat_lt m.1 (suc d)) m

  abbrev pub brackets_by : (MeasuredExpr → Reader MeasuredExpr) → MeasuredExpr → Bool → Reader MeasuredExpr
  brackets_by next m true = bracket m >>= next
  brackets_by next m false = pure m

  -- the brackets that follow m
  unfoldable pub brackets : ℕ → MeasuredExpr → Reader MeasuredExpr
  brackets zero m = bad Deep
  brackets (suc n) m = look (λ t. brackets_by (brackets n) m (opens_bracket (class_of t)))

  unfoldable pub postfix : Reader MeasuredExpr
  postfix = atom >>= brackets (suc d)

  unfoldable pub prefixed : UnOp → Reader MeasuredExpr
  prefixed f = deeper d (skip >>= λ p. inner Prefix >>= λ x. pure (placed p (Unary f x.0), suc x.1, p))

  abbrev pub prefix_by : Option UnOp → Reader MeasuredExpr
  prefix_by None = postfix
  prefix_by (Some f) = prefixed f

  unfoldable pub prefix : Reader MeasuredExpr
  prefix = look (λ t. prefix_by (prefixes (class_of t)))

  -- an operator after x, and its right side, of this level; at the next turn what follows
  abbrev pub operation_by : Bool → Level → (MeasuredExpr → Reader MeasuredExpr) → MeasuredExpr → BinOp
      → Reader MeasuredExpr
  operation_by true l next x f = skip >>= λ _. inner l >>= λ y. next (join f x y)
  operation_by false l next x f = bad Deep

  unfoldable pub operation : Level → (MeasuredExpr → Reader MeasuredExpr) → MeasuredExpr → BinOp → Reader MeasuredExpr
  operation l next x f = operation_by (nat_lt x.1 (suc d)) l next x f

  abbrev pub turn_by : Level → (MeasuredExpr → Reader MeasuredExpr) → MeasuredExpr → Option BinOp → Reader MeasuredExpr
  turn_by l next x None = pure x
  turn_by l next x (Some f) = operation (operand l) next x f

  abbrev pub turn : Level → (MeasuredExpr → Reader MeasuredExpr) → MeasuredExpr → Reader MeasuredExpr
  turn l next x = look (λ t. turn_by l next x (repeated l (class_of t)))

  -- the operators of this level that follow x. A turn raises the height, so there are d + 1 at most.
  unfoldable pub turns : ℕ → Level → MeasuredExpr → Reader MeasuredExpr
  turns zero l x = bad Deep
  turns (suc n) l x = turn l (turns n l) x

  unfoldable pub product : Reader MeasuredExpr
  product = prefix >>= turns (suc d) Product

  unfoldable pub sum : Reader MeasuredExpr
  sum = product >>= turns (suc d) Sum

  abbrev pub comparison_by : MeasuredExpr → Option BinOp → Reader MeasuredExpr
  comparison_by x None = pure x
  comparison_by x (Some f) = operation Sum pure x f

  unfoldable pub relation : Reader MeasuredExpr
  relation = sum >>= λ x. look (λ t. comparison_by x (compares (class_of t)))

  abbrev pub junction_by : MeasuredExpr → TokenClass → Reader MeasuredExpr
  junction_by x s.And = turns (suc d) Conjunction x
  junction_by x _ = turns (suc d) Disjunction x

  unfoldable pub junction : Reader MeasuredExpr
  junction = relation >>= λ x. look (λ t. junction_by x (class_of t))

  abbrev pub right_by : MeasuredExpr → TokenClass → Reader MeasuredExpr
  right_by x s.Implies = operation Right pure x op.Implies
  right_by x _ = pure x

  unfoldable pub right : Reader MeasuredExpr
  right = junction >>= λ x. look (λ t. right_by x (class_of t))

  abbrev pub implication_by : MeasuredExpr → TokenClass → Reader MeasuredExpr
  implication_by x s.Implies = operation Right pure x op.Implies
  implication_by x _ = turns (suc d) Explied x

  unfoldable pub implication : Reader MeasuredExpr
  implication = junction >>= λ x. look (λ t. implication_by x (class_of t))

  unfoldable pub whole : Reader MeasuredExpr
  whole = implication >>= turns (suc d) Whole

  abbrev pub layer : Level → Reader MeasuredExpr
  layer Whole = whole
  layer Implication = implication
  layer Right = right
  layer Junction = junction
  layer Relation = relation
  layer Sum = sum
  layer Product = product
  layer Prefix = prefix
  layer Postfix = postfix
  layer Atom = atom
  layer Explied = junction >>= turns (suc d) Explied
  layer Conjunction = relation >>= turns (suc d) Conjunction
  layer Disjunction = relation >>= turns (suc d) Disjunction

-- The expressions of height d at most. No expression has height 0.
unfoldable pub read : ℕ → Level → Reader MeasuredExpr
read zero l = look (λ t. if begins (class_of t) then bad Deep else bad Syntax)
read (suc d) l = layer d (read d) l

-- What a function of the code returned, and the tokens before which it stands, are what a reader gives. At a fault it
-- stands at
-- the fault's place. Out of memory says nothing.
abbrev pub Gives : {A : Type 0} → Step A → Result A CodeFault → Tokens → Type 0
Gives step (Ok x) new = step ≡ Got x new
Gives step (Err NoMemory) new = Unit {0}
Gives step (Err fault.Syntax) new = step ≡ Bad Syntax new
Gives step (Err fault.Deep) new = step ≡ Bad Deep new

-- the same of an expression, and its height
pub record Reads (d : ℕ) (step : Step MeasuredExpr) (r : Result MeasuredExpr CodeFault) (new : Tokens) : Type 0 where
  pub gives : Gives step r new
  pub low : IfOk r (λ x. x.1 ≤ d)

-- the same of several
pub record ReadsGroup (d : ℕ) (step : Step Group) (r : Result Group CodeFault) (new : Tokens) : Type 0 where
  pub gives : Gives step r new
  pub low : IfOk r (λ x. x.1 ≤ d)

-- a function value that reads the expressions of height d at most
pub record Nests (d : ℕ)
    (pre : Global → MutBor Tokens → ℕ → Level → Type 0)
    (post : Global → MutBor Tokens → ℕ → Level → Result MeasuredExpr CodeFault → MutBor Tokens → Type 0) : Type 0 where
  pub callable : (alloc : Global) (old : MutBor Tokens) (l : Level) → pre alloc old d l
  pub reads : (alloc : Global) (old new : MutBor Tokens) (l : Level) (r : Result MeasuredExpr CodeFault)
      → post alloc old d l r new → Reads d (read d l old.now) r new.now
