-- what comes next on a branch
use Rattle.std.specs.Prelude.{◌≡◌, ◌≢◌, ℕ, ◌<◌, Bool, List, [], ◌∷◌, ◌++◌, length, true, Option, None}
use Rattle.sd_term.specs.Tree.{Tree}
use Rattle.sd_term.specs.Bank.{tree_at}
use Rattle.sd_kernel.specs.declared.step.Step.{Step}
use Rattle.sd_kernel.specs.declared.step.Step.TheVariants.{Term, Split as SplitStep}
use Rattle.sd_kernel.specs.Known.{Trail, known_at}
use Rattle.sd_kernel.specs.Steps.{leaves, outcome}
use Rattle.sd_kernel.specs.Proof.{start}
use Rattle.sd_cube.specs.Atoms.{is_atom}
use Rattle.sd_cube.specs.Required.{IsRequired}
use Rattle.sd_cube.specs.Spent.{IsDue, ClosesBranch}
use Rattle.sd_search.specs.declared.choice.Choice.{Choice}
use Rattle.sd_search.specs.declared.choice.Choice.TheVariants.{Close, Number, Split, Settled}
use Rattle.sd_search.specs.Terms.{IsOpenAtom}
use Rattle.sd_search.specs.Settled.{IsSettled}

-- steps that close the branch, a new term that is asked for, an atom that is due to be split, or nothing
abbrev pub IsChoice : List Tree → List Tree → Trail → Choice → Type 0
IsChoice facts terms trail (Close steps) = ClosesBranch terms trail steps
IsChoice facts terms trail (Number line) =
    (t : Tree) × IsRequired terms trail t × (outcome terms trail (Term line) ≡ leaves (terms ++ t ∷ []) (trail ∷ []))
IsChoice facts terms trail (Split n) = (n < length terms) × IsDue facts terms trail (tree_at terms n)
IsChoice facts terms trail Settled = IsSettled facts terms trail

-- the branch has the facts, all true, in front
abbrev pub Begins : List Tree → Trail → Type 0
Begins facts trail = (more : Trail) × (trail ≡ start facts ++ more)

-- a step that numbers a term or splits one
abbrev pub Asks : Step → Type 0
Asks (Term line) = Unit {0}
Asks (SplitStep n) = Unit {0}
Asks _ = ⊥

-- that step as a choice
abbrev pub choice_of : Step → Choice
choice_of (Term line) = Number line
choice_of (SplitStep n) = Split n
choice_of _ = Settled

-- an atom without a value is split, where there is one
abbrev pub IsLeftAtom : List Tree → List (Option Bool) → Choice → Type 0
IsLeftAtom terms values (Split n) = IsOpenAtom terms values n
IsLeftAtom terms values Settled =
    (n : ℕ) → n < length terms → is_atom (tree_at terms n) ≡ true → known_at values n ≢ None
IsLeftAtom terms values _ = ⊥
