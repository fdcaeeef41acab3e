-- what the step on orders does, by its tests
use Rattle.std.proofs.Common.{◌≡◌, ℕ, ◌<◌, List, [], ◌∷◌, map, sym, ap, ◌∙◌, Bool, true, false, ◌&&◌, length, Option}
use Rattle.sd_term.specs.Tree.{Tree}
use Rattle.sd_term.specs.Bank.{tree_at}
use Rattle.sd_kernel.specs.declared.step.Step.TheVariants.{Order}
use Rattle.sd_kernel.specs.declared.step.StepCause.TheVariants.{Shape, Value as Value'}
use Rattle.sd_kernel.specs.Known.{Trail, known, known_at, is_known}
use Rattle.sd_kernel.specs.Steps.{named, needs, adds, outcome, are_orders_of}
use Rattle.sd_kernel.proofs.Needs.{after_order}
use Rattle.sd_kernel.proofs.Lookups.{are_in, get-tree, known_at-is, in-first, in-second, in-rest}

module _ (terms : List Tree) (trail : Trail) (e l r i j k : ℕ) (numbers : are_in terms (e ∷ l ∷ r ∷ []) ≡ true) (is_e : i ≡ e) (is_l : j ≡ l) (is_r : k ≡ r) where
  pub order-made : true ≡ are_orders_of (tree_at terms i) (tree_at terms j) (tree_at terms k) → (values : List (Option Bool)) → values ≡ map (λ t. known trail t) terms
      → (q : Bool) → q ≡ is_known (known_at values i) false && is_known (known_at values j) true → outcome terms trail (Order e l r) ≡ needs q Value' (adds terms trail (tree_at terms k) false)
  order-made shape values are q test =
      let here : are_in terms (i ∷ j ∷ k ∷ []) ≡ true = (λ u. are_in terms (is_e u ∷ is_l u ∷ is_r u ∷ [])) ∙ numbers in
      let first : i < length terms = in-first terms i (j ∷ k ∷ []) here in
      let second : j < length terms = in-second terms i j (k ∷ []) here in
      let third : k < length terms = in-second terms j k [] (in-rest terms i (j ∷ k ∷ []) here) in
      (λ u. outcome terms trail (Order (sym is_e u) (sym is_l u) (sym is_r u)))
      ∙ (λ u. named (get-tree terms i first u) (λ t. named (get-tree terms j second u) (λ p. named (get-tree terms k third u) (after_order terms trail t p))))
      ∙ (λ u. needs (sym shape u) Shape (needs (is_known (sym (known_at-is trail terms values i are first) u) false && is_known (sym (known_at-is trail terms values j are second) u) true) Value' (adds terms trail (tree_at terms k) false)))
      ∙ ap (λ b. needs b Value' (adds terms trail (tree_at terms k) false)) (sym test)
