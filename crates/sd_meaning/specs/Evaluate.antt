-- The value of an expression.
use Rattle.std.specs.Prelude.{pos, ◌+ℤ◌, ◌-ℤ◌, ◌*ℤ◌, neg_ℤ, int_lt, int_le, Bool, false, not, ◌&&◌, ◌||◌, List, [], ◌∷◌, Option, Some, None, unwrap_or, if◌then◌else◌}
use Rattle.sd_base.specs.Value.{Text, same_text, Value, Number, Truth, same_value, read, write}
use Rattle.sd_ast.specs.declared.BinOp.{BinOp}
use Rattle.sd_ast.specs.declared.BinOp.TheVariants as op
use Rattle.sd_ast.specs.declared.UnOp.{UnOp}
use Rattle.sd_ast.specs.declared.UnOp.TheVariants as op1
use Rattle.sd_ast.specs.declared.ExprKind.{ExprKind, Num, Truth as Literal, Var, Apply', Row_of-Expr, end_of-Expr, more_of-Expr}
use Rattle.sd_ast.specs.Tree.{OldOf, UnaryOf, BinaryOf, SelectOf, StoreOf}
use Rattle.sd_base.specs.Meaning.{Interpretation, number_of, truth_of, index_of}

-- variables with their values
abbrev pub Store : Type 0
Store = List (Text × Value)

-- the value of a variable, if it is there
abbrev pub value_of : Store → Text → Option Value
value_of [] x = None
value_of (v ∷ vs) x = if same_text x v.0 then Some v.1 else value_of vs x

-- where a procedure stands: the globals, the globals at its entry, and its parameters and locals
pub record State : Type 0 where
  pub globals : Store
  pub entry : Store
  pub locals : Store

-- Locals hide globals and constants.
abbrev pub variable : Interpretation → State → Text → Value
variable I s x = unwrap_or (value_of s.locals x) (unwrap_or (value_of s.globals x) (I.constant x))

abbrev pub unary : UnOp → Value → Value
unary op1.Not a = Truth (not (truth_of a))
unary op1.Neg a = Number (neg_ℤ (number_of a))

abbrev pub binary : BinOp → Value → Value → Value
binary op.Iff a b = Truth (same_value a b)
binary op.Implies a b = Truth (not (truth_of a) || truth_of b)
binary op.Explies a b = Truth (truth_of a || not (truth_of b))
binary op.And a b = Truth (truth_of a && truth_of b)
binary op.Or a b = Truth (truth_of a || truth_of b)
binary op.Eq a b = Truth (same_value a b)
binary op.Ne a b = Truth (not (same_value a b))
binary op.Lt a b = Truth (int_lt (number_of a) (number_of b))
binary op.Le a b = Truth (int_le (number_of a) (number_of b))
binary op.Gt a b = Truth (int_lt (number_of b) (number_of a))
binary op.Ge a b = Truth (int_le (number_of b) (number_of a))
binary op.Add a b = Number (number_of a +ℤ number_of b)
binary op.Sub a b = Number (number_of a -ℤ number_of b)
binary op.Mul a b = Number (number_of a *ℤ number_of b)

abbrev mutual
  pub value : Interpretation → State → ExprKind → Value
  value I s (Num n) = Number (pos n)
  value I s (Literal b) = Truth b
  value I s (Var x) = variable I s x
  value I s (Apply' f shape args) = I.apply f (values I s args)
  value I s (OldOf p e) = value I (record s { globals = s.entry }) e
  value I s (UnaryOf op p a) = unary op (value I s a)
  value I s (BinaryOf op p a q b) = binary op (value I s a) (value I s b)
  value I s (SelectOf p m q i) = read (value I s m) (index_of (value I s i))
  value I s (StoreOf p m q i r v) = write (value I s m) (index_of (value I s i)) (value I s v)

  pub values : Interpretation → State → {m : _} → Row_of-Expr m → List Value
  values I s end_of-Expr = []
  values I s (more_of-Expr p e es) = value I s e ∷ values I s es
