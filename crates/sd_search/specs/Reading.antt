-- walks that have read steps
use Rattle.std.specs.Prelude.{◌≡◌, ℕ, List, [], ◌∷◌, ◌++◌}
use Rattle.sd_term.specs.Tree.{Tree}
use Rattle.sd_kernel.specs.declared.step.Step.{Step}
use Rattle.sd_kernel.specs.Known.{Trail}
use Rattle.sd_kernel.specs.Proof.{State, judged, next, continues}
use Rattle.sd_cube.specs.Spent.{ClosesBranch}

-- from one state on the steps lead to another, so that any more steps are judged as from there
abbrev pub Reads : State → List Step → State → Type 0
Reads s steps t = (line : ℕ) × ((rest : List Step) → judged s 0 (steps ++ rest) ≡ judged t line rest)

-- the step isn't bad
abbrev pub Continues : State → Step → Type 0
Continues s step = (t : State) × (next s step ≡ continues t)

-- the branches after the first
abbrev pub others : State → List Trail
others s = elim s.1 [ [] ↦ [] | b ∷ bs ↦ bs ]

-- the steps close the first branch, or all are done and it is closed
abbrev pub IsClosing : List Tree → List Trail → State → List Step → Type 0
IsClosing terms rest s [] = (s.0 ≡ terms) × (s.1 ≡ rest)
IsClosing terms rest s (x ∷ xs) =
    (trail : Trail) × (s.0 ≡ terms) × (s.1 ≡ trail ∷ rest) × ClosesBranch terms trail (x ∷ xs)
