-- Types of expressions as a relation, without places and without an order of rules.
use Rattle.std.specs.Prelude.{◌≡◌, ◌↔◌, true, List, [], ◌∷◌, Some, Ok}
use Rattle.sd_base.specs.declared.sort.Sort.{Sort, Int, Bool}
use Rattle.sd_base.specs.declared.sort.Place.{Place}
use Rattle.sd_base.specs.Sorts.{MapOf}
use Rattle.sd_ast.specs.declared.tree.BinOp.{BinOp}
use Rattle.sd_ast.specs.declared.tree.BinOp.TheVariants as op
use Rattle.sd_ast.specs.declared.tree.UnOp.{UnOp}
use Rattle.sd_ast.specs.declared.tree.UnOp.TheVariants as op1
use Rattle.sd_ast.specs.declared.tree.ExprKind.{ExprKind, Num, Truth, Var, Apply', Row_of-Expr, end_of-Expr, more_of-Expr}
use Rattle.sd_ast.specs.Tree.{OldOf, UnaryOf, BinaryOf, SelectOf, StoreOf}
use Rattle.sd_types.specs.declared.scope.Variable.{Variable}
use Rattle.sd_types.specs.declared.scope.Signature.{Signature}
use Rattle.sd_types.specs.Scopes.{Context}
use Rattle.sd_types.specs.Phrases.{sort_of}

-- parts of one type make a whole of the other
abbrev pub Joins : Sort → Sort → Sort → Sort → Sort → Type 0
Joins part whole s t r = (s ≡ part) × (t ≡ part) × (r ≡ whole)

-- an operator takes parts of these types to a whole of that one
abbrev pub TakesOne : UnOp → Sort → Sort → Type 0
TakesOne op1.Not s r = (s ≡ Bool) × (r ≡ Bool)
TakesOne op1.Neg s r = (s ≡ Int) × (r ≡ Int)

abbrev pub TakesTwo : BinOp → Sort → Sort → Sort → Type 0
TakesTwo op.Iff = Joins Bool Bool
TakesTwo op.Implies = Joins Bool Bool
TakesTwo op.Explies = Joins Bool Bool
TakesTwo op.And = Joins Bool Bool
TakesTwo op.Or = Joins Bool Bool
TakesTwo op.Eq = λ s t r. (s ≡ t) × (r ≡ Bool)
TakesTwo op.Ne = λ s t r. (s ≡ t) × (r ≡ Bool)
TakesTwo op.Lt = Joins Int Bool
TakesTwo op.Le = Joins Int Bool
TakesTwo op.Gt = Joins Int Bool
TakesTwo op.Ge = Joins Int Bool
TakesTwo op.Add = Joins Int Int
TakesTwo op.Sub = Joins Int Int
TakesTwo op.Mul = Joins Int Int

abbrev mutual
  pub HasType : Context → ExprKind → Sort → Type 0
  HasType C (Num n) s = s ≡ Int
  HasType C (Truth b) s = s ≡ Bool
  HasType C (Var x) s = (v : Variable) × (C.variable x ≡ Some v) × (v.sort ≡ s)
  HasType C (Apply' f shape args) s =
      (sig : Signature) × (C.function f ≡ Some sig) × HaveTypes C args sig.args × (sig.result ≡ s)
  HasType C (OldOf q e) s = (C.old ≡ true) × HasType C e s
  HasType C (UnaryOf o q a) s = (t : Sort) × HasType C a t × TakesOne o t s
  HasType C (BinaryOf o q a r b) s = (t : Sort) × (u : Sort) × HasType C a t × HasType C b u × TakesTwo o t u s
  HasType C (SelectOf q m r i) s = (t : Sort) × HasType C m (MapOf t s) × HasType C i t
  HasType C (StoreOf q m r i u w) s =
      (t : Sort) × (v : Sort) × HasType C m (MapOf t v) × HasType C i t × HasType C w v × (s ≡ MapOf t v)

  -- arguments have the types of a list, one by one
  pub HaveTypes : Context → {n : _} → Row_of-Expr n → List Sort → Type 0
  HaveTypes C end_of-Expr [] = Unit {0}
  HaveTypes C end_of-Expr (s ∷ ss) = ⊥
  HaveTypes C (more_of-Expr p e es) [] = ⊥
  HaveTypes C (more_of-Expr p e es) (s ∷ ss) = HasType C e s × HaveTypes C es ss

-- an expression gets a type exactly if it has it, wherever it stands
abbrev pub TypesAreExact : Type 0
TypesAreExact = (C : Context) (p : Place) (e : ExprKind) (s : Sort) → (sort_of C p e ≡ Ok s) ↔ HasType C e s
