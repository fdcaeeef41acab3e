-- What functions, constants and types stand for.
use Rattle.std.specs.Prelude.{ℤ, pos, List, [], ◌∷◌, Bool, true, false, ◌&&◌, if◌then◌else◌}
use Rattle.sd_base.specs.declared.sort.Sort.{Sort}
use Rattle.sd_base.specs.Value.{Text, Index, at_number, at_element, Value, Number, Truth, Element, same_value}

-- a function: the results at finitely many arguments, and the result at all others
pub record Table : Type 0 where
  pub otherwise : Value
  pub rows : List (List Value × Value)

pub record Meaning : Type 0 where
  pub function : Text → Table
  pub constant : Text → Value
  pub start : Sort → Value

abbrev pub same_values : List Value → List Value → Bool
same_values [] [] = true
same_values (v ∷ vs) (w ∷ ws) = same_value v w && same_values vs ws
same_values _ _ = false

abbrev pub result_at : Value → List (List Value × Value) → List Value → Value
result_at v [] args = v
result_at v (row ∷ rows) args = if same_values row.0 args then row.1 else result_at v rows args

abbrev pub applied : Table → List Value → Value
applied t args = result_at t.otherwise t.rows args

-- what expressions and declarations are read by
pub record Interpretation : Type 0 where
  pub apply : Text → List Value → Value
  pub constant : Text → Value
  pub start : Sort → Value

abbrev pub interpretation : Meaning → Interpretation
interpretation M = record { apply = λ f args. applied (M.function f) args; constant = M.constant; start = M.start }

-- ---- what a value is read as, so that every operator is total

abbrev pub number_of : Value → ℤ
number_of (Number a) = a
number_of _ = pos 0

abbrev pub truth_of : Value → Bool
truth_of (Truth b) = b
truth_of _ = false

abbrev pub index_of : Value → Index
index_of (Number a) = at_number a
index_of (Element t n) = at_element t n
index_of _ = at_number (pos 0)
