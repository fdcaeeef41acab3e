-- proofs as trees of steps, and the verdict on a list of steps
use Rattle.std.specs.Prelude.{◌≡◌, ℕ, ◌+◌, true, List, [], ◌∷◌, ◌++◌, map, length}
use Rattle.sd_kernel.specs.declared.step.Step.{Step}
use Rattle.sd_kernel.specs.declared.step.Step.TheVariants.{Rows}
use Rattle.sd_kernel.specs.declared.step.StepCause.{StepCause}
use Rattle.sd_kernel.specs.declared.step.StepCause.TheVariants.{Shape}
use Rattle.sd_kernel.specs.declared.step.Verdict.{Verdict}
use Rattle.sd_kernel.specs.declared.step.Verdict.TheVariants.{Accepted, Rejected}
use Rattle.sd_term.specs.Tree.{Tree}
use Rattle.sd_term.specs.Numbering.{numbered}
use Rattle.sd_kernel.specs.Known.{Trail}
use Rattle.sd_kernel.specs.Steps.{Outcome, bad, leaves, outcome}

-- the branch of the facts, all true
abbrev pub start : List Tree → Trail
start facts = map (λ t. (t, true)) facts

mutual
  -- a step, and what closes each branch that it leaves
  pub data ProofTree : Type 0 where
    step : Step → ProofTrees → ProofTree

  pub data ProofTrees : Type 0 where
    none : ProofTrees
    more : ProofTree → ProofTrees → ProofTrees

-- the steps of a tree, those of an earlier branch first
abbrev mutual
  pub steps_of : ProofTree → List Step
  steps_of (step s ps) = s ∷ steps_of_all ps

  pub steps_of_all : ProofTrees → List Step
  steps_of_all none = []
  steps_of_all (more p ps) = steps_of p ++ steps_of_all ps

-- the tree closes the branch, with the terms as they were and as they are then
abbrev mutual
  pub Closes : List Tree → Trail → ProofTree → List Tree → Type 0
  Closes terms trail (step s ps) end =
      (mid : List Tree) × (branches : List Trail) × (outcome terms trail s ≡ leaves mid branches)
      × CloseAll mid branches ps end

  pub CloseAll : List Tree → List Trail → ProofTrees → List Tree → Type 0
  CloseAll terms [] none end = terms ≡ end
  CloseAll terms [] (more p ps) end = ⊥
  CloseAll terms (b ∷ bs) none end = ⊥
  CloseAll terms (b ∷ bs) (more p ps) end = (mid : List Tree) × Closes terms b p mid × CloseAll mid bs ps end

-- the steps are a tree that closes the branch of the facts
abbrev pub Proves : List Tree → List Step → Type 0
Proves facts steps =
    (p : ProofTree) × (end : List Tree) × (steps_of p ≡ steps) × Closes (numbered facts) (start facts) p end

-- the terms, and the open branches, of which the first is to be closed first
abbrev pub State : Type 0
State = List Tree × List Trail

abbrev pub IsOpen : State → Type 0
IsOpen s = s.1 ≡ [] → ⊥

-- the facts of the first open branch
abbrev pub front : State → Trail
front s = elim s.1 [ [] ↦ [] | b ∷ others ↦ b ]

-- a step is refused at one of its lines, or the walk continues
pub data Next : Type 0 where
  fails : ℕ → StepCause → Next
  continues : State → Next

-- what a step makes of the first open branch
abbrev pub after : List Trail → Outcome → Next
after others (bad n c) = fails n c
after others (leaves terms branches) = continues (terms, branches ++ others)

abbrev pub next : State → Step → Next
next s x = elim s.1 [ [] ↦ fails 0 Shape | b ∷ others ↦ after others (outcome s.0 b x) ]

-- how many lines a step has: one, and one more for each row
abbrev pub lines_of : Step → ℕ
lines_of (Rows lines) = 1 + length lines
lines_of _ = 1

abbrev pub at_end : List Trail → ℕ → Verdict
at_end [] line = Accepted
at_end (b ∷ bs) line = Rejected line Shape

-- the verdict from a line on, by the first bad line
abbrev pub judged : State → ℕ → List Step → Verdict
judged s line [] = at_end s.1 line
judged s line (x ∷ xs) =
    elim (next s x) [ fails n c ↦ Rejected (line + n) c | continues s' ↦ judged s' (line + lines_of x) xs ]

abbrev pub verdict : List Tree → List Step → Verdict
verdict facts steps = judged (numbered facts, start facts ∷ []) 0 steps
