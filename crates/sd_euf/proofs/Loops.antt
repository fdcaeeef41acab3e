-- rules at the terms that a loop has passed
use Rattle.std.proofs.Common.{◌≡◌, ℕ, ◌+◌, ◌<◌, ◌≤◌, inl, inr, List, length, ◌∙◌, subst, Bool, true, Option, Some, None, arith}
use Rattle.std.proofs.lemmas.Bool.{cases_lt}
use Rattle.sd_kernel.specs.declared.step.Step.{Step}
use Rattle.sd_term.specs.Tree.{Tree}
use Rattle.sd_term.specs.Bank.{tree_at}
use Rattle.sd_term.specs.Numbering.{has}
use Rattle.sd_kernel.specs.Known.{Trail}
use Rattle.sd_euf.specs.Judged.{HasValues, Asks}
use Rattle.sd_euf.proofs.Shapes.{Place, has-place}

-- the rule holds at each of the first terms, or something is missing
abbrev pub SoFar : List Tree → List (Option Bool) → (Tree → Trail → Type 0) → ℕ → Option Step → Type 0
SoFar terms values P n None = (k : ℕ) → k < n → (trail : Trail) → HasValues terms trail values → P (tree_at terms k) trail
SoFar terms values P n (Some step) = Asks terms values step

pub all-hold : (terms : List Tree) (values : List (Option Bool)) (P : Tree → Trail → Type 0) (n : ℕ) → SoFar terms values P n None → length terms ≤ n
    → (trail : Trail) → HasValues terms trail values → (t : Tree) → has terms t ≡ true → P t trail
all-hold terms values P n s h trail v t e =
    let p : Place terms t = has-place terms t e in
    subst (λ u. P u trail) p.is (s p.at (omega (arith, p.within)) trail v)

-- one more term
pub so-far-more : (terms : List Tree) (values : List (Option Bool)) (P : Tree → Trail → Type 0) (n i : ℕ) (m : Option Step) → SoFar terms values P n m → i ≡ n
    → ((trail : Trail) → HasValues terms trail values → P (tree_at terms i) trail) → SoFar terms values P (n + 1) m
so-far-more terms values P n i (Some step) s e h = s
so-far-more terms values P n i None s e h = λ k lt trail v.
    elim (cases_lt k n) [
      | inl below ↦ s k below trail v
      | inr above ↦ (let same : i ≡ k = e ∙ omega arith in subst (λ j. P (tree_at terms j) trail) same (h trail v))
    ]

pub so-far-none : (terms : List Tree) (values : List (Option Bool)) (P : Tree → Trail → Type 0) (n : ℕ) (m : Option Step) → SoFar terms values P n m → m ≡ None → SoFar terms values P n None
so-far-none terms values P n m s e = subst (λ o. SoFar terms values P n o) e s
