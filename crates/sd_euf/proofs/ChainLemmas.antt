-- a false equality whose sides are joined
use Rattle.std.proofs.Common.{◌≡◌, ℕ, List, [], ◌∷◌, map, refl, sym, ap, ◌∙◌, subst, Bool, true, false, not, ◌&&◌, ◌||◌, cond, inl, inr, Option, Some, None, unwrap_or, option_and_then}
use Rattle.std.specs.List.{AllByRecursion, list_all}
use Rattle.sd_kernel.specs.declared.step.Step.TheVariants.{Chain}
use Rattle.sd_term.specs.declared.node.Op.TheVariants as op
use Rattle.sd_term.specs.Tree.{Tree, same_tree, same_tree-true}
use Rattle.sd_term.specs.Bank.{tree_at}
use Rattle.sd_term.specs.Sorts.{sort_of, IsWellSorted, AllWellSorted, is_truth_sort}
use Rattle.sd_forms.specs.FactRows.{part_at}
use Rattle.sd_kernel.specs.Known.{Trail, known, is_known, has_fact, first_fact, iff3}
use Rattle.sd_kernel.specs.Steps.{leads, is_nil, is_chain, all_at}
use Rattle.sd_cube.specs.Required.{IsTrueEq, eq_tree}
use Rattle.sd_term.proofs.Numbers.{has-at}
use Rattle.sd_euf.specs.declared.find.Pair.{Pair}
use Rattle.sd_euf.specs.Judged.{HasValues, Breaks, IsPair}
use Rattle.sd_euf.specs.Links.{IsEqAt, IsChain}
use Rattle.sd_euf.proofs.Shapes.{IsEqForm, eq-form, Place, has-place, tree-got, value-at}
use Rattle.sd_euf.proofs.Outcomes.{or-true, plain-eq, closes_branch, chain-outcome}
use Rattle.sd_euf.proofs.Joined.{AreSides, sides-of, Begins, begins}
use Rattle.sd_kernel.proofs.Lookups.{sorted-at}

-- ---- equalities of truth values are known by their sides

same-known : (p q : Option Bool) → iff3 p q ≡ Some true → p ≡ q
same-known (Some true) (Some b) e = let f : b ≡ true = cc in ap Some (sym f)
same-known (Some false) (Some true) e = cc
same-known (Some false) (Some false) e = refl
same-known (Some a) None e = cc
same-known None q e = cc

other-known : (p q : Option Bool) → iff3 p q ≡ Some false → p ≡ q → ⊥
other-known (Some true) (Some true) e s = let f : true ≡ false = cc in cc
other-known (Some true) (Some false) e s = cc
other-known (Some false) (Some true) e s = cc
other-known (Some false) (Some false) e s = let f : true ≡ false = cc in cc
other-known (Some a) None e s = cc
other-known None q e s = cc

truth-eq : (trail : Trail) (a b : Tree) → is_truth_sort (sort_of a) ≡ true → known trail (eq_tree a b) ≡ iff3 (known trail a) (known trail b)
truth-eq trail a b e = ap (λ s. unwrap_or (cond s (Some (iff3 (known trail a) (known trail b))) None) (first_fact trail (eq_tree a b))) e

module _ (terms : List Tree) (trail : Trail) (sorted : AllWellSorted terms) where
  -- the sides of a true equality of truth values have one value
  one-value : (e a b : Tree) → IsTrueEq terms trail e → AreSides e a b → is_truth_sort (sort_of a) ≡ true → (known trail a ≡ known trail b) × (is_truth_sort (sort_of b) ≡ true)
  one-value e a b t s h =
      let p : Place terms e = has-place terms e t.1.0 in
      let form : IsEqForm e = eq-form e (subst (λ u. IsWellSorted u) p.is (sorted-at terms p.at sorted p.within)) t.0 in
      go form s
    where
      both : (form : IsEqForm e) → is_truth_sort (sort_of (part_at e 0)) ≡ true → known trail (part_at e 0) ≡ known trail (part_at e 1)
      both form k = same-known (known trail (part_at e 0)) (known trail (part_at e 1)) (sym (truth-eq trail (part_at e 0) (part_at e 1) k) ∙ ap (known trail) (sym form.is) ∙ t.1.1)

      go : (form : IsEqForm e) → AreSides e a b → (known trail a ≡ known trail b) × (is_truth_sort (sort_of b) ≡ true)
      go form (inl q) =
          let k : is_truth_sort (sort_of (part_at e 0)) ≡ true = ap (λ u. is_truth_sort (sort_of u)) q.0 ∙ h in
          (ap (known trail) (sym q.0) ∙ both form k ∙ ap (known trail) q.1, ap (λ u. is_truth_sort (sort_of u)) (sym q.1) ∙ ap is_truth_sort (sym form.sorts) ∙ k)
      go form (inr q) =
          let k : is_truth_sort (sort_of (part_at e 0)) ≡ true = ap is_truth_sort form.sorts ∙ ap (λ u. is_truth_sort (sort_of u)) q.0 ∙ h in
          (ap (known trail) (sym q.0) ∙ sym (both form k) ∙ ap (known trail) q.1, ap (λ u. is_truth_sort (sort_of u)) (sym q.1) ∙ k)

  one-value-along : (a : Tree) (es : List Tree) (c : Tree) → AllByRecursion (λ e. IsTrueEq terms trail e) es → leads a es c ≡ true → is_truth_sort (sort_of a) ≡ true → known trail a ≡ known trail c
  one-value-along a [] c t l h = ap (known trail) (same_tree-true a c l)
  one-value-along a (e ∷ es) c t l h =
      let s : Begins a e es c = begins a e es c l in
      let one = one-value e a s.next t.0 (sides-of e a s.next s.other) h in
      one.0 ∙ one-value-along s.next es c t.1 s.rest one.1

-- ---- the step

module _ (terms : List Tree) (values : List (Option Bool)) where
  all-true : (trail : Trail) → HasValues terms trail values → (ns : List ℕ) → AllByRecursion (λ n. IsEqAt terms values n true) ns → AllByRecursion (λ e. IsTrueEq terms trail e) (map (λ n. tree_at terms n) ns)
  all-true trail v [] h = tt
  all-true trail v (n ∷ ns) h =
      ((h.0.equality, (has-at terms (tree_at terms n) n h.0.below refl, sym (value-at terms trail values n v h.0.below) ∙ h.0.value)), all-true trail v ns h.1)

  all-named : (ns : List ℕ) → AllByRecursion (λ n. IsEqAt terms values n true) ns → all_at terms ns ≡ Some (map (λ n. tree_at terms n) ns)
  all-named [] h = refl
  all-named (n ∷ ns) h =
      ap (λ (o : Option Tree). option_and_then (λ t. option_and_then (λ ts. Some (t ∷ ts)) (all_at terms ns)) o) (tree-got terms n h.0.below)
      ∙ ap (λ (o : Option (List Tree)). option_and_then (λ ts. Some (tree_at terms n ∷ ts)) o) (all-named ns h.1)

  all-known : (trail : Trail) → HasValues terms trail values → (ns : List ℕ) → AllByRecursion (λ n. IsEqAt terms values n true) ns → list_all (λ u. is_known (known trail u) true) (map (λ n. tree_at terms n) ns) ≡ true
  all-known trail v [] h = refl
  all-known trail v (n ∷ ns) h =
      ap (λ (o : Option Bool). is_known o true && list_all (λ u. is_known (known trail u) true) (map (λ n. tree_at terms n) ns)) (sym (value-at terms trail values n v h.0.below) ∙ h.0.value)
      ∙ all-known trail v ns h.1

  module _ (id : ℕ) (pair : Pair) (ns : List ℕ) (sorted : AllWellSorted terms) (e : IsEqAt terms values id false) (p : IsPair terms op.Eq (tree_at terms id) pair)
      (c : IsChain terms values (tree_at terms pair.left) ns (tree_at terms pair.right)) (short : tree_at terms pair.left ≡ tree_at terms pair.right → ns ≡ []) where
    abbrev left : Tree
    left = tree_at terms pair.left

    abbrev right : Tree
    right = tree_at terms pair.right

    abbrev whole : Tree
    whole = tree_at terms id

    abbrev es : List Tree
    es = map (λ n. tree_at terms n) ns

    wrong : (trail : Trail) → HasValues terms trail values → known trail (eq_tree left right) ≡ Some false
    wrong trail v = ap (known trail) (sym p.is) ∙ sym (value-at terms trail values id v e.below) ∙ e.value

    false-fact : (trail : Trail) → HasValues terms trail values → has_fact trail (eq_tree left right) false ≡ true
    false-fact trail v = go (is_truth_sort (sort_of left)) refl
      where
        go : (b : Bool) → is_truth_sort (sort_of left) ≡ b → has_fact trail (eq_tree left right) false ≡ true
        go false q = plain-eq trail left right false q (wrong trail v)
        go true q =
            absurd (other-known (known trail left) (known trail right) (sym (truth-eq trail left right q) ∙ wrong trail v)
            (one-value-along terms trail sorted left es right (all-true trail v ns c.each) c.leading q))

    nil-or : (b : Bool) → same_tree left right ≡ b → is_nil es || not b ≡ true
    nil-or true q = ap (λ ms. is_nil (map (λ n. tree_at terms n) ms) || false) (short (same_tree-true left right q))
    nil-or false q = or-true (is_nil es)

    chain-is : is_chain whole es ≡ true
    chain-is =
        ap (λ u. is_chain u es) p.is ∙ ap (λ b. b && (is_nil es || not (same_tree left right))) c.leading ∙ nil-or (same_tree left right) refl

    pub chain-breaks : Breaks terms values (Chain id ns)
    chain-breaks trail v =
        closes_branch terms trail whole true (Chain id ns)
        (chain-outcome terms trail id ns whole es (tree-got terms id e.below) (all-named ns c.each) chain-is (all-known trail v ns c.each))
        (subst (λ u. has_fact trail u false ≡ true) (sym p.is) (false-fact trail v))
