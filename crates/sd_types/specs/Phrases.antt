-- The types of types and expressions, or the first rule that is broken: from left to right, inner phrases first.
use Rattle.std.specs.Prelude.{◌==◌, List, [], ◌∷◌, length, Option, Some, None, Result, Ok, Err, codes, if◌then◌else◌}
use Rattle.sd_base.specs.declared.sort.Sort.{Sort, Int, Bool, Named}
use Rattle.sd_base.specs.declared.sort.Place.{Place}
use Rattle.sd_base.specs.Value.{Text}
use Rattle.sd_base.specs.Sorts.{MapOf, same_sort}
use Rattle.sd_ast.specs.declared.tree.BinOp.{BinOp}
use Rattle.sd_ast.specs.declared.tree.BinOp.TheVariants as op
use Rattle.sd_ast.specs.declared.tree.UnOp.{UnOp}
use Rattle.sd_ast.specs.declared.tree.UnOp.TheVariants as op1
use Rattle.sd_ast.specs.declared.tree.Expr.{Expr}
use Rattle.sd_ast.specs.declared.tree.ExprKind.{ExprKind, Num, Truth, Var, Apply', Row_of-Expr, end_of-Expr, more_of-Expr}
use Rattle.sd_ast.specs.Tree.{OldOf, UnaryOf, BinaryOf, SelectOf, StoreOf}
use Rattle.sd_types.specs.declared.refusal.TypeError.{TypeError}
use Rattle.sd_types.specs.declared.refusal.TypeError.TheVariants.{Unknown, Kind, Arity}
use Rattle.sd_types.specs.declared.scope.Variable.{Variable}
use Rattle.sd_types.specs.declared.scope.Signature.{Signature}
use Rattle.sd_types.specs.declared.scope.Given.{Given}
use Rattle.sd_types.specs.Names.{is_among}
use Rattle.sd_types.specs.Answer.{and_then, both, all_of}
use Rattle.sd_types.specs.Scopes.{Context}

-- ---- types

-- an index type is `int` or a declared type
abbrev pub index_sort : Sort → Result (Unit {0}) TypeError
index_sort Int = Ok tt
index_sort Bool = Err (Unknown (codes "bool"))
index_sort (Named t) = Ok tt
index_sort (MapOf i v) = Err (Unknown (codes "["))

-- each type in it is declared
abbrev pub known_sort : List Text → Sort → Result (Unit {0}) TypeError
known_sort types Int = Ok tt
known_sort types Bool = Ok tt
known_sort types (Named t) = if is_among types t then Ok tt else Err (Unknown t)
known_sort types (MapOf i v) = both (known_sort types i) (both (known_sort types v) (index_sort i))

-- ---- what operators need of their parts

-- a phrase at this place has this type
abbrev pub is_of : Sort → Place → Sort → Result (Unit {0}) TypeError
is_of wanted p s = if same_sort wanted s then Ok tt else Err (Kind p)

-- the phrases have these types, as far as both go
abbrev pub agree : List Sort → List Given → Result (Unit {0}) TypeError
agree (s ∷ ss) (g ∷ gs) = both (is_of s g.at g.sort) (agree ss gs)
agree [] gs = Ok tt
agree (s ∷ ss) [] = Ok tt

-- at this place as many phrases stand as there are types
abbrev pub same_number : Place → List Sort → List Given → Result (Unit {0}) TypeError
same_number p ss gs = if length ss == length gs then Ok tt else Err (Arity p)

abbrev pub unary_sort : UnOp → Given → Result Sort TypeError
unary_sort op1.Not g = both (is_of Bool g.at g.sort) (Ok Bool)
unary_sort op1.Neg g = both (is_of Int g.at g.sort) (Ok Int)

-- both parts have the one type, and the whole has the other
abbrev pub from_to : Sort → Sort → Given → Given → Result Sort TypeError
from_to part whole g h = both (is_of part g.at g.sort) (both (is_of part h.at h.sort) (Ok whole))

abbrev pub binary_sort : BinOp → Given → Given → Result Sort TypeError
binary_sort op.Iff g h = from_to Bool Bool g h
binary_sort op.Implies g h = from_to Bool Bool g h
binary_sort op.Explies g h = from_to Bool Bool g h
binary_sort op.And g h = from_to Bool Bool g h
binary_sort op.Or g h = from_to Bool Bool g h
binary_sort op.Eq g h = both (is_of g.sort h.at h.sort) (Ok Bool)
binary_sort op.Ne g h = both (is_of g.sort h.at h.sort) (Ok Bool)
binary_sort op.Lt g h = from_to Int Bool g h
binary_sort op.Le g h = from_to Int Bool g h
binary_sort op.Gt g h = from_to Int Bool g h
binary_sort op.Ge g h = from_to Int Bool g h
binary_sort op.Add g h = from_to Int Int g h
binary_sort op.Sub g h = from_to Int Int g h
binary_sort op.Mul g h = from_to Int Int g h

-- what stands in a map of this type at an index
abbrev pub selected : Place → Sort → Given → Result Sort TypeError
selected p (MapOf i v) g = both (is_of i g.at g.sort) (Ok v)
selected p _ g = Err (Kind p)

-- the type of a map with a new value at an index
abbrev pub stored : Given → Given → Given → Result Sort TypeError
stored m i v = and_then (selected m.at m.sort i) (λ s. both (is_of s v.at v.sort) (Ok m.sort))

abbrev pub applied : Place → Text → Option Signature → List Given → Result Sort TypeError
applied p f None gs = Err (Unknown f)
applied p f (Some sig) gs = both (agree sig.args gs) (both (same_number p sig.args gs) (Ok sig.result))

abbrev pub sort_in : Text → Option Variable → Result Sort TypeError
sort_in x None = Err (Unknown x)
sort_in x (Some v) = Ok v.sort

-- ---- expressions

-- a type at the place of its phrase
abbrev pub at_place : Place → Sort → Given
at_place p s = record { at = p; sort = s }

abbrev mutual
  -- the type of an expression at this place
  pub sort_of : Context → Place → ExprKind → Result Sort TypeError
  sort_of C p (Num n) = Ok Int
  sort_of C p (Truth b) = Ok Bool
  sort_of C p (Var x) = sort_in x (C.variable x)
  sort_of C p (Apply' f shape args) = and_then (sorts_of C args) (λ gs. applied p f (C.function f) gs)
  sort_of C p (OldOf q e) = and_then (sort_of C q e) (λ s. if C.old then Ok s else Err (Kind p))
  sort_of C p (UnaryOf o q a) = and_then (sort_of C q a) (λ s. unary_sort o (at_place q s))
  sort_of C p (BinaryOf o q a r b) =
      and_then (sort_of C q a) (λ s. and_then (sort_of C r b) (λ t. binary_sort o (at_place q s) (at_place r t)))
  sort_of C p (SelectOf q m r i) =
      and_then (sort_of C q m) (λ s. and_then (sort_of C r i) (λ t. selected q s (at_place r t)))
  sort_of C p (StoreOf q m r i u v) =
      and_then (sort_of C q m)
      (λ s.
      and_then (sort_of C r i) (λ t. and_then (sort_of C u v)
      (λ w. stored (at_place q s) (at_place r t) (at_place u w))))

  pub sorts_of : Context → {n : _} → Row_of-Expr n → Result (List Given) TypeError
  sorts_of C end_of-Expr = Ok []
  sorts_of C (more_of-Expr p e es) =
      and_then (sort_of C p e) (λ s. and_then (sorts_of C es) (λ gs. Ok (at_place p s ∷ gs)))

-- the same of a whole expression, and of a list of them
abbrev pub given : Context → Expr → Result Given TypeError
given C e = and_then (sort_of C e.at e.kind) (λ s. Ok (at_place e.at s))

abbrev pub all_given : Context → List Expr → Result (List Given) TypeError
all_given C es = all_of (given C) es

-- a condition, a clause or an axiom
abbrev pub is_truth : Context → Expr → Result (Unit {0}) TypeError
is_truth C e = and_then (sort_of C e.at e.kind) (λ s. is_of Bool e.at s)
