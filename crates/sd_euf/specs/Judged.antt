-- how the rules of a branch stand, by the values of its terms
use Rattle.std.specs.Prelude.{◌≡◌, ◌⊎◌, ℕ, ◌<◌, Bool, true, false, not, List, [], ◌∷◌, Option, Some, None, length, map, slice_index_or}
use Rattle.sd_kernel.specs.declared.step.Step.{Step}
use Rattle.sd_kernel.specs.declared.step.Step.TheVariants.{Close}
use Rattle.sd_term.specs.declared.node.Head.TheVariants.{Op as Plain}
use Rattle.sd_term.specs.declared.node.Op.{Op}
use Rattle.sd_term.specs.declared.node.Op.TheVariants as op
use Rattle.sd_term.specs.Heads.{Ite}
use Rattle.sd_term.specs.Tree.{Tree, tree}
use Rattle.sd_term.specs.Bank.{tree_at}
use Rattle.sd_term.specs.Numbering.{has}
use Rattle.sd_term.specs.Sorts.{is_truth_valued, sort_of, AllWellSorted}
use Rattle.sd_forms.specs.FactRows.{part_at, is_int_sort, is_int_eq}
use Rattle.sd_kernel.specs.Known.{Trail, known}
use Rattle.sd_cube.specs.Required.{IsChoice, choice_eq, order_of, order_back, IsThere}
use Rattle.sd_cube.specs.Spent.{ClosesBranch}
use Rattle.sd_euf.specs.declared.find.Pair.{Pair}
use Rattle.sd_euf.specs.declared.find.Standing.{Standing}
use Rattle.sd_euf.specs.declared.find.Standing.TheVariants.{Absent, Unknown, Known}
use Rattle.sd_euf.specs.declared.choices.Choice.{Choice}
use Rattle.sd_euf.specs.declared.judged.Judged.{Judged}
use Rattle.sd_euf.specs.declared.judged.Judged.TheVariants.{Holds, Broken, Missing}
use Rattle.sd_euf.specs.Closed.{IsRequiredStep}

-- these are the values of the terms in a branch
abbrev pub HasValues : List Tree → Trail → List (Option Bool) → Type 0
HasValues terms trail values = values ≡ map (λ t. known trail t) terms

-- the new fact of the step contradicts an earlier one
abbrev pub Breaks : List Tree → List (Option Bool) → Step → Type 0
Breaks terms values step =
    (trail : Trail) → HasValues terms trail values → ClosesBranch terms trail (step ∷ Close (length trail) ∷ [])

-- the step is asked for
abbrev pub Asks : List Tree → List (Option Bool) → Step → Type 0
Asks terms values step = (trail : Trail) → HasValues terms trail values → IsRequiredStep terms trail step

-- where the rule holds, it is P
abbrev pub Judges : List Tree → List (Option Bool) → (Trail → Type 0) → Judged → Type 0
Judges terms values P Holds = (trail : Trail) → HasValues terms trail values → P trail
Judges terms values P (Broken step) = Breaks terms values step
Judges terms values P (Missing step) = Asks terms values step

-- ---- terms by their parts

abbrev pub pair_tree : Op → Tree → Tree → Tree
pair_tree op a b = tree (Plain op) (a ∷ b ∷ [])

-- the operator over the two terms
pub record IsPair (terms : List Tree) (op : Op) (t : Tree) (pair : Pair) : Type 0 where
  pub left : pair.left < length terms
  pub right : pair.right < length terms
  pub is : t ≡ pair_tree op (tree_at terms pair.left) (tree_at terms pair.right)

-- a choice between parts that aren't truth values
pub record IsChoiceOf (terms : List Tree) (t : Tree) (choice : Choice) : Type 0 where
  pub condition : choice.condition < length terms
  pub first : choice.first < length terms
  pub second : choice.second < length terms
  pub is : t ≡ tree Ite (tree_at terms choice.condition ∷ tree_at terms choice.first ∷ tree_at terms choice.second ∷ [])
  pub plain : is_truth_valued t ≡ false

abbrev pub chosen_number : Choice → Bool → ℕ
chosen_number choice true = choice.first
chosen_number choice false = choice.second

-- a term without a number, or the number with what is known of the term
abbrev pub Stands : List Tree → List (Option Bool) → Tree → Standing → Type 0
Stands terms values t Absent = has terms t ≡ false
Stands terms values t (Unknown n) = (n < length terms) × (tree_at terms n ≡ t) × (slice_index_or values n None ≡ None)
Stands terms values t (Known n b) = (n < length terms) × (tree_at terms n ≡ t) × (slice_index_or values n None ≡ Some b)

-- ---- the rule of choices

-- the choice equals the part that it chooses
abbrev pub ChoiceHolds : List Tree → Tree → Trail → Type 0
ChoiceHolds terms t trail =
    IsChoice t → (b : Bool) → known trail (part_at t 0) ≡ Some b → IsThere terms trail (choice_eq t b) true

-- ---- the rule of orders

-- a false equality of integers has a false order
abbrev pub OrderHolds : List Tree → Tree → Trail → Type 0
OrderHolds terms e trail =
    is_int_eq e ≡ true → known trail e ≡ Some false → IsThere terms trail (order_of e) false
    ⊎ IsThere terms trail (order_back e) false

-- a false equality of integers with these sides
pub record AtEquality (terms : List Tree) (values : List (Option Bool)) (id : ℕ) (sides : Pair) : Type 0 where
  pub below : id < length terms
  pub sorted : AllWellSorted terms
  pub pair : IsPair terms op.Eq (tree_at terms id) sides
  pub int : is_int_sort (sort_of (tree_at terms sides.left)) ≡ true
  pub value : slice_index_or values id None ≡ Some false

abbrev pub is_false_standing : Standing → Bool
is_false_standing (Known n b) = not b
is_false_standing _ = false
