-- what an effect makes of a branch
use Rattle.std.specs.Prelude.{◌≡◌, ℕ, ◌<◌, Bool, false, Option, Some, None, if◌then◌else◌, List, [], ◌∷◌, ◌++◌, length}
use Rattle.sd_term.specs.Tree.{Tree, tree}
use Rattle.sd_term.specs.Bank.{tree_at}
use Rattle.sd_term.specs.Numbering.{has}
use Rattle.sd_term.specs.Sorts.{IsWellSorted}
use Rattle.sd_term.specs.declared.node.Op.{Op}
use Rattle.sd_term.specs.declared.node.Head.TheVariants.{Op as Plain}
use Rattle.sd_kernel.specs.declared.step.Step.{Step}
use Rattle.sd_kernel.specs.declared.effect.Effect.{Effect}
use Rattle.sd_kernel.specs.declared.effect.Effect.TheVariants.{Bad, Grows, Adds, Splits, Closes}
use Rattle.sd_kernel.specs.declared.step.StepCause.TheVariants.{Shape}
use Rattle.sd_kernel.specs.Known.{Trail}
use Rattle.sd_kernel.specs.Steps.{Outcome, bad, leaves, adds, splits, outcome, is_eq, is_eq_of, other_side, chosen_part}
use Rattle.sd_kernel.specs.Proof.{State, Next, fails, after}

-- the operation of the terms with these numbers
abbrev pub pair_of : List Tree → Op → ℕ → ℕ → Tree
pair_of terms op a b = tree (Plain op) (tree_at terms a ∷ tree_at terms b ∷ [])

-- what it makes of a branch
abbrev pub outcome_of : List Tree → Trail → Effect → Outcome
outcome_of terms trail (Bad line) = bad line.line line.cause
outcome_of terms trail (Grows op a b) = leaves (terms ++ pair_of terms op a b ∷ []) (trail ∷ [])
outcome_of terms trail (Adds t value) = adds terms trail (tree_at terms t) value
outcome_of terms trail (Splits t) = splits terms trail (tree_at terms t)
outcome_of terms trail Closes = leaves terms []

-- the step does it to the branch
abbrev pub IsEffectOf : List Tree → Trail → Step → Effect → Type 0
IsEffectOf terms trail step effect = outcome terms trail step ≡ outcome_of terms trail effect

-- the condition has a value, and e is the equality of the choice t and the part that it chooses
abbrev pub chosen_by : Option Bool → Tree → Tree → Bool
chosen_by None t e = false
chosen_by (Some b) t e = is_eq_of e t (chosen_part t b)

-- the side of an equality that isn't the given term
abbrev pub across : Tree → Tree → Option Tree
across e a = if is_eq e then other_side e a else None

-- what it makes of the first open branch
abbrev pub after_effect : State → Effect → Next
after_effect s e = elim s.1 [ [] ↦ fails 0 Shape | b ∷ others ↦ after others (outcome_of s.0 b e) ]

-- the terms of the effect are there, and a new one is well sorted
abbrev pub IsEffectOn : List Tree → Effect → Type 0
IsEffectOn terms (Bad line) = Unit {0}
IsEffectOn terms (Grows op a b) =
    (a < length terms) × (b < length terms) × (has terms (pair_of terms op a b) ≡ false)
    × IsWellSorted (pair_of terms op a b)
IsEffectOn terms (Adds t value) = t < length terms
IsEffectOn terms (Splits t) = t < length terms
IsEffectOn terms Closes = Unit {0}
