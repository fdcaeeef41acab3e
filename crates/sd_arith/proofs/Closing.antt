-- what an answer of elimination says of a branch
use Rattle.std.proofs.Common.{◌≡◌, ◌≢◌, ℕ, suc, ◌<◌, List, [], ◌∷◌, ◌++◌, map, length, filter, refl, sym, ap, ◌∙◌, subst, All, Bool, true, Option, Some, None, arith}
use Rattle.sd_term.specs.Tree.{Tree}
use Rattle.sd_rows.specs.declared.row.Row.{Row}
use Rattle.sd_linear.specs.declared.step.RowStep.{RowStep}
use Rattle.sd_linear.specs.Answers.{IsRefutation}
use Rattle.sd_kernel.specs.declared.step.RowLine.{RowLine}
use Rattle.sd_kernel.specs.declared.step.Step.TheVariants.{Rows}
use Rattle.sd_kernel.specs.Known.{Trail, known, known_at}
use Rattle.sd_kernel.proofs.Lookups.{known_at-is}
use Rattle.sd_term.specs.Bank.{tree_at}
use Rattle.sd_rows.specs.Rows.{is_within}
use Rattle.sd_forms.specs.FactRows.{is_comparison}
use Rattle.sd_linear.specs.Elimination.{elimination, refuted}
use Rattle.sd_cube.specs.CubeRows.{rows_if, eliminated_branch}
use Rattle.sd_arith.proofs.Giving.{other-rows}
use Rattle.sd_kernel.specs.Steps.{refuted_by}
use Rattle.sd_cube.specs.Spent.{ClosesBranch}
use Rattle.sd_arith.specs.declared.gather.Gathered.{Gathered}
use Rattle.sd_arith.specs.Lines.{line_of, HasInput}
use Rattle.sd_arith.specs.Gathered.{IsGathered, rows_of_terms}
use Rattle.sd_arith.proofs.Refuting.{refutation-closes_branch, refutation-inputs}

module _ (terms : List Tree) (trail : Trail) (rows : List Row) (g : Gathered) (h : IsGathered terms trail rows g) where
  pub takes-inputs : (inputs : List Row) (lines : List RowLine) (steps : List RowStep) → inputs ≡ g.rows → lines ≡ g.lines → IsRefutation inputs steps → All (HasInput (length lines)) steps
  takes-inputs inputs lines steps e f r =
      subst (λ (ls : List RowLine). All (HasInput (length ls)) steps) (sym f)
      (refutation-inputs terms trail g.lines g.rows steps h.given (subst (λ (rs : List Row). IsRefutation rs steps) e r))

  pub closes_branch : (inputs : List Row) (own lines : List RowLine) (steps : List RowStep) → inputs ≡ g.rows → own ≡ g.lines → IsRefutation inputs steps → lines ≡ map (line_of own) steps → ClosesBranch terms trail (Rows lines ∷ [])
  closes_branch inputs own lines steps e f r is =
      ap (λ (ls : List RowLine). refuted_by terms trail 1 [] ls) (is ∙ ap (λ (ls : List RowLine). map (line_of ls) steps) f)
      ∙ refutation-closes_branch terms trail g.lines g.rows h.given steps (subst (λ (rs : List Row). IsRefutation rs steps) e r)

-- ---- branches that compare no integers

rows-none : (terms : List Tree) (trail : Trail) (ts : List Tree) → ((n : ℕ) → n < length ts → is_comparison (tree_at ts n) ≡ true → known trail (tree_at ts n) ≡ None) → rows_of_terms terms trail ts ≡ []
rows-none terms trail [] h = refl
rows-none terms trail (t ∷ ts) h = λ i. go (known trail t) (h 0 (omega arith)) i ++ rows-none terms trail ts (λ n lt. h (suc n) (omega (arith, lt))) i
  where
    go : (o : Option Bool) → (is_comparison t ≡ true → o ≡ None) → rows_if terms t o ≡ []
    go None k = refl
    go (Some b) k = other-rows terms t b (λ c. let f : Some b ≡ None = k c in cc)

pub not-refuted : (terms : List Tree) (trail : Trail) (values : List (Option Bool)) → values ≡ map (λ t. known trail t) terms → ((n : ℕ) → n < length terms → is_comparison (tree_at terms n) ≡ true → known_at values n ≡ None)
    → eliminated_branch terms trail ≢ refuted
not-refuted terms trail values is h e =
    let none : rows_of_terms terms trail terms ≡ [] = rows-none terms trail terms (λ n lt c. sym (known_at-is trail terms values n is lt) ∙ h n lt c) in
    let f : elimination [] ≡ refuted = sym (ap (λ rs. elimination (filter is_within rs)) none) ∙ e in
    cc
