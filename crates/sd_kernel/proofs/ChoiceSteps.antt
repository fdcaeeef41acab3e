-- what the step on choices does, by its tests
use Rattle.std.proofs.Common.{◌≡◌, ℕ, ◌<◌, List, [], ◌∷◌, map, refl, sym, ap, ◌∙◌, Bool, true, false, ◌||◌, length, Option, Some, None}
use Rattle.sd_term.specs.Tree.{Tree, head_of, and-left}
use Rattle.sd_term.specs.Bank.{tree_at}
use Rattle.sd_forms.specs.FactRows.{part_at}
use Rattle.sd_kernel.specs.declared.step.Step.TheVariants.{Ite as ChooseBranch}
use Rattle.sd_kernel.specs.declared.step.StepCause.TheVariants.{Shape, Value as Value'}
use Rattle.sd_kernel.specs.Known.{Trail, known, known_at}
use Rattle.sd_kernel.specs.Steps.{named, needs, adds, outcome, is_eq_of, is_ite_head, chosen_part, is_choice_of, is_chosen}
use Rattle.sd_kernel.specs.Effects.{chosen_by}
use Rattle.sd_kernel.proofs.Needs.{after_ite}
use Rattle.sd_kernel.proofs.Lookups.{are_in, get-tree, known_at-is, in-first, in-second}

pub choice-ite : (t e : Tree) → true ≡ is_choice_of t e → is_ite_head (head_of t) ≡ true
choice-ite t e h = and-left (is_ite_head (head_of t)) (is_eq_of e t (part_at t 1) || is_eq_of e t (part_at t 2)) (sym h)

chosen-is : (o : Option Bool) (t e : Tree) → elim o as (λ _. Bool) [ None ↦ false | Some b ↦ is_eq_of e t (chosen_part t b) ] ≡ chosen_by o t e
chosen-is None t e = refl
chosen-is (Some b) t e = refl

module _ (terms : List Tree) (trail : Trail) (t e i j : ℕ) (numbers : are_in terms (t ∷ e ∷ []) ≡ true) (is_t : i ≡ t) (is_e : j ≡ e) where
  pub ite-made : true ≡ is_choice_of (tree_at terms i) (tree_at terms j) → (values : List (Option Bool)) → values ≡ map (λ u. known trail u) terms
      → (n : ℕ) → n < length terms → tree_at terms n ≡ part_at (tree_at terms i) 0 → (o : Option Bool) → o ≡ known_at values n
      → (q : Bool) → q ≡ chosen_by o (tree_at terms i) (tree_at terms j) → outcome terms trail (ChooseBranch t e) ≡ needs q Value' (adds terms trail (tree_at terms j) true)
  ite-made shape values are n below part o at q test =
      let here : are_in terms (i ∷ j ∷ []) ≡ true = (λ u. are_in terms (is_t u ∷ is_e u ∷ [])) ∙ numbers in
      let condition : known trail (part_at (tree_at terms i) 0) ≡ o = ap (known trail) (sym part) ∙ sym (known_at-is trail terms values n are below) ∙ sym at in
      (λ u. outcome terms trail (ChooseBranch (sym is_t u) (sym is_e u)))
      ∙ (λ u. named (get-tree terms i (in-first terms i (j ∷ []) here) u) (λ a. named (get-tree terms j (in-second terms i j [] here) u) (after_ite terms trail a)))
      ∙ (λ u. needs (sym shape u) Shape (needs (is_chosen trail (tree_at terms i) (tree_at terms j)) Value' (adds terms trail (tree_at terms j) true)))
      ∙ ap (λ b. needs b Value' (adds terms trail (tree_at terms j) true))
      (chosen-is (known trail (part_at (tree_at terms i) 0)) (tree_at terms i) (tree_at terms j) ∙ ap (λ p. chosen_by p (tree_at terms i) (tree_at terms j)) condition ∙ sym test)
