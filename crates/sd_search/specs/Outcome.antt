-- what a search has found
use Rattle.std.specs.Prelude.{ℕ, ◌+◌, List, [], ◌∷◌}
use Rattle.sd_kernel.specs.declared.step.Step.{Step}
use Rattle.sd_kernel.specs.declared.step.Step.TheVariants.{Close, Rows}
use Rattle.sd_kernel.specs.declared.step.Proof.{Proof}
use Rattle.sd_term.specs.declared.cube.Cube.{Cube}
use Rattle.sd_search.specs.declared.search.Outcome.{Outcome}
use Rattle.sd_search.specs.declared.search.Outcome.TheVariants.{Refuted, Open, Spent}

abbrev pub IfRefuted : Outcome → (Proof → Type 0) → Type 0
IfRefuted (Refuted proof) P = P proof
IfRefuted _ P = Unit {0}

abbrev pub IfOpen : Outcome → (Cube → Type 0) → Type 0
IfOpen (Open cube) P = P cube
IfOpen _ P = Unit {0}

abbrev pub IfSpent : Outcome → (List Cube → Type 0) → Type 0
IfSpent (Spent cubes) P = P cubes
IfSpent _ P = Unit {0}

-- how many of the steps close a branch
abbrev pub closing : Step → ℕ
closing (Close k) = 1
closing (Rows lines) = 1
closing _ = 0

abbrev pub closings : List Step → ℕ
closings [] = 0
closings (s ∷ ss) = closing s + closings ss
