-- what closing the equalities of a branch answers
use Rattle.std.specs.Prelude.{◌≡◌, ℕ, ◌<◌, ◌↔◌, List, [], ◌∷◌, ◌++◌, None, length, slice_index_or}
use Rattle.sd_kernel.specs.declared.step.Step.{Step}
use Rattle.sd_kernel.specs.declared.step.Step.TheVariants.{Split, Term}
use Rattle.sd_term.specs.Tree.{Tree}
use Rattle.sd_term.specs.Bank.{tree_at}
use Rattle.sd_kernel.specs.Known.{Trail, known}
use Rattle.sd_kernel.specs.Steps.{leaves, outcome}
use Rattle.sd_cube.specs.Required.{ChoicesHold, OrdersHold, NoneJoined, AreJoined, IsRequired}
use Rattle.sd_euf.specs.declared.closing.Closed.{Closed}
use Rattle.sd_euf.specs.declared.closing.Closed.TheVariants.{Conflict, Missing, Classes}

abbrev pub IfConflict : Closed → (List Step → Type 0) → Type 0
IfConflict (Conflict steps) P = P steps
IfConflict _ P = Unit {0}

abbrev pub IfMissing : Closed → (Step → Type 0) → Type 0
IfMissing (Missing step) P = P step
IfMissing _ P = Unit {0}

abbrev pub IfClasses : Closed → (List ℕ → Type 0) → Type 0
IfClasses (Classes classes) P = P classes
IfClasses _ P = Unit {0}

-- the step numbers a term that is asked for and isn't there, or splits one that is there without a value
abbrev pub IsRequiredStep : List Tree → Trail → Step → Type 0
IsRequiredStep terms trail (Term line) =
    (t : Tree) × IsRequired terms trail t × (outcome terms trail (Term line) ≡ leaves (terms ++ t ∷ []) (trail ∷ []))
IsRequiredStep terms trail (Split n) =
    (n < length terms) × IsRequired terms trail (tree_at terms n) × (known trail (tree_at terms n) ≡ None)
IsRequiredStep terms trail _ = ⊥

-- a number for each term, the same for two terms exactly where a chain of true equalities joins them
pub record AreClasses (terms : List Tree) (trail : Trail) (classes : List ℕ) : Type 0 where
  pub long : length classes ≡ length terms
  pub one : (i j : ℕ) → i < length terms → j < length terms
      → (slice_index_or classes i 0 ≡ slice_index_or classes j 0)
      ↔ AreJoined terms trail (tree_at terms i) (tree_at terms j)

-- what is asked for is there, and no false equality has its sides joined
pub record AreSettled (terms : List Tree) (trail : Trail) (classes : List ℕ) : Type 0 where
  pub choices : ChoicesHold terms trail
  pub orders : OrdersHold terms trail
  pub none_joined : NoneJoined terms trail
  pub classes_are : AreClasses terms trail classes
