-- what the truth values of a branch require: the equalities of choices and the orders of equalities
use Rattle.std.specs.Prelude.{◌≡◌, Bool, true, false, List, [], ◌∷◌, ◌⊎◌, Some}
use Rattle.std.specs.List.{AllByRecursion}
use Rattle.sd_term.specs.Heads.{Eq, Le}
use Rattle.sd_term.specs.Tree.{Tree, tree, head_of}
use Rattle.sd_term.specs.Numbering.{has}
use Rattle.sd_term.specs.Sorts.{is_truth_valued}
use Rattle.sd_forms.specs.FactRows.{part_at, is_int_eq}
use Rattle.sd_kernel.specs.Known.{Trail, known}
use Rattle.sd_kernel.specs.Steps.{is_ite_head, is_eq, chosen_part, leads}

-- a choice between parts that aren't truth values
abbrev pub IsChoice : Tree → Type 0
IsChoice t = (is_ite_head (head_of t) ≡ true) × (is_truth_valued t ≡ false)

abbrev pub eq_tree : Tree → Tree → Tree
eq_tree a b = tree Eq (a ∷ b ∷ [])

abbrev pub le_tree : Tree → Tree → Tree
le_tree a b = tree Le (a ∷ b ∷ [])

-- the equality of a choice and the part that it chooses
abbrev pub choice_eq : Tree → Bool → Tree
choice_eq t b = eq_tree t (chosen_part t b)

-- the two orders of the sides of an equality
abbrev pub order_of : Tree → Tree
order_of e = le_tree (part_at e 0) (part_at e 1)

abbrev pub order_back : Tree → Tree
order_back e = le_tree (part_at e 1) (part_at e 0)

-- a term is there and has the value
abbrev pub IsThere : List Tree → Trail → Tree → Bool → Type 0
IsThere terms trail t b = (has terms t ≡ true) × (known trail t ≡ Some b)

-- each choice with a known condition equals the part that it chooses
abbrev pub ChoicesHold : List Tree → Trail → Type 0
ChoicesHold terms trail =
    (t : Tree) → has terms t ≡ true → IsChoice t → (b : Bool) → known trail (part_at t 0) ≡ Some b
    → IsThere terms trail (choice_eq t b) true

-- each false equality of integers has one false order
abbrev pub OrdersHold : List Tree → Trail → Type 0
OrdersHold terms trail =
    (e : Tree) → has terms e ≡ true → is_int_eq e ≡ true → known trail e ≡ Some false
    → IsThere terms trail (order_of e) false ⊎ IsThere terms trail (order_back e) false

-- an equality that is there and true
abbrev pub IsTrueEq : List Tree → Trail → Tree → Type 0
IsTrueEq terms trail e = (is_eq e ≡ true) × IsThere terms trail e true

-- a chain of true equalities joins two terms
abbrev pub AreJoined : List Tree → Trail → Tree → Tree → Type 0
AreJoined terms trail a c = (es : List Tree) × AllByRecursion (IsTrueEq terms trail) es × (leads a es c ≡ true)

-- no false equality has its two sides joined
abbrev pub NoneJoined : List Tree → Trail → Type 0
NoneJoined terms trail =
    (e : Tree) → has terms e ≡ true → is_eq e ≡ true → known trail e ≡ Some false
    → AreJoined terms trail (part_at e 0) (part_at e 1) → ⊥

-- The terms whose values a search needs before it answers an open cube: the equality of a choice and the part that it
-- chooses, where the condition is known, and each order of a false equality of integers, unless the other one is false.
pub data IsRequired (terms : List Tree) (trail : Trail) : Tree → Type 0 where
  choice : (t : Tree) (b : Bool) → has terms t ≡ true → IsChoice t → known trail (part_at t 0) ≡ Some b
      → IsRequired terms trail (choice_eq t b)
  order : (e : Tree) → has terms e ≡ true → is_int_eq e ≡ true → known trail e ≡ Some false
      → (IsThere terms trail (order_back e) false → ⊥) → IsRequired terms trail (order_of e)
  back : (e : Tree) → has terms e ≡ true → is_int_eq e ≡ true → known trail e ≡ Some false
      → (IsThere terms trail (order_of e) false → ⊥) → IsRequired terms trail (order_back e)
