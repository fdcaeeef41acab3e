-- nodes of a bank, by head and parts
use Rattle.std.proofs.Common.{◌≡◌, ℕ, zero, suc, ◌<◌, List, [], ◌∷◌, map, length, get_or, refl, sym, ap, ◌∙◌, Bool, true, false, arith, All, ◌↔◌}
use Rattle.sd_term.specs.declared.node.Head.TheVariants.{Op as Plain}
use Rattle.sd_term.specs.declared.node.Op.{Op}
use Rattle.sd_term.specs.declared.node.Op.TheVariants as op
use Rattle.sd_term.specs.declared.node.TermNode.{TermNode}
use Rattle.sd_term.specs.Heads.{True}
use Rattle.sd_term.specs.Tree.{Tree, leaf, head_of, parts_of, tree, same_tree, same_tree-true, same_tree-self}
use Rattle.sd_term.specs.Bank.{tree_at, tree_of}
use Rattle.sd_term.proofs.Folds.{head_of-node}
use Rattle.sd_term.proofs.Trees.{tree-head, tree-parts}
use Rattle.sd_term.proofs.Numbers.{node-parts}
use Rattle.sd_forms.specs.FactRows.{part_at, is_eq_head}
use Rattle.sd_kernel.specs.Steps.{is_ite_head}
use Rattle.sd_kernel.proofs.Values.{is-eq-head, is-ite-head}

-- two tests of one fact
pub by-iff : (r q : Bool) → (r ≡ true → q ≡ true) → (q ≡ true → r ≡ true) → r ≡ q
by-iff true q f g = sym (f refl)
by-iff false true f g = g refl
by-iff false false f g = refl

pub not-same : (a b : Tree) → (a ≡ b → ⊥) → same_tree a b ≡ false
not-same a b n = sym (by-iff false (same_tree a b) (λ e. cc) (λ e. absurd (n (same_tree-true a b e))))

pub same-test : (a b : Tree) (r : Bool) → (r ≡ true) ↔ (a ≡ b) → r ≡ same_tree a b
same-test a b r h = by-iff r (same_tree a b) (λ e. ap (λ u. same_tree a u) (sym (h.0 e)) ∙ same_tree-self a) (λ e. h.1 (same_tree-true a b e))

module _ (terms : List Tree) (node : TermNode) (t : Tree) (at : tree_of terms node ≡ t) where
  head-is : head_of t ≡ node.head
  head-is = ap head_of (sym at) ∙ head_of-node terms node

  pub eq-test : (r : Bool) → (r ≡ true) ↔ (node.head ≡ Plain op.Eq) → r ≡ is_eq_head (head_of t)
  eq-test r h = by-iff r (is_eq_head (head_of t)) (λ e. ap is_eq_head (head-is ∙ h.0 e)) (λ e. h.1 (sym head-is ∙ is-eq-head (head_of t) e))

  pub ite-test : (r : Bool) → (r ≡ true) ↔ (node.head ≡ Plain op.Ite) → r ≡ is_ite_head (head_of t)
  ite-test r h = by-iff r (is_ite_head (head_of t)) (λ e. ap is_ite_head (head-is ∙ h.0 e)) (λ e. h.1 (sym head-is ∙ is-ite-head (head_of t) e))

  pub other-head : (o : Op) (xs : List Tree) → (node.head ≡ Plain o → ⊥) → false ≡ same_tree t (tree (Plain o) xs)
  other-head o xs n = sym (not-same t (tree (Plain o) xs) (λ e. n (tree-head node.head (Plain o) (map (λ p. tree_at terms p) node.parts) xs (at ∙ e))))

  pub same-head : (o : Op) (xs : List Tree) (ps : List ℕ) (r : Bool) → node.head ≡ Plain o → ps ≡ node.parts → (r ≡ true) ↔ (map (λ p. tree_at terms p) ps ≡ xs) → r ≡ same_tree t (tree (Plain o) xs)
  same-head o xs ps r h e k =
      by-iff r (same_tree t (tree (Plain o) xs))
      (λ f. ap (λ u. same_tree u (tree (Plain o) xs)) (sym at ∙ (λ i. tree (h i) ((ap (map (λ p. tree_at terms p)) (sym e) ∙ k.0 f) i))) ∙ same_tree-self (tree (Plain o) xs))
      (λ f. k.1 (ap (map (λ p. tree_at terms p)) e ∙ tree-parts node.head (Plain o) (map (λ p. tree_at terms p) node.parts) xs (at ∙ same_tree-true t (tree (Plain o) xs) f)))

  length-map : (ps : List ℕ) → length (map (λ p. tree_at terms p) ps) ≡ length ps
  length-map [] = refl
  length-map (p ∷ ps) = ap (λ n. suc n) (length-map ps)

  pub part-bound : (ps : List ℕ) (k : ℕ) → ps ≡ node.parts → k < length (parts_of t) → k < length ps
  part-bound ps k e h = let f : length (parts_of t) ≡ length node.parts = ap length (node-parts terms node t at) ∙ length-map node.parts in omega (arith, ap length e)

  at-map : (ps : List ℕ) (k d : ℕ) → k < length ps → get_or (map (λ p. tree_at terms p) ps) k (leaf True) ≡ tree_at terms (get_or ps k d)
  at-map [] k d h = absurd (omega arith)
  at-map (p ∷ ps) zero d h = refl
  at-map (p ∷ ps) (suc k) d h = at-map ps k d (omega (arith, h))

  pub part-tree : (ps : List ℕ) (k p : ℕ) → ps ≡ node.parts → k < length ps → p ≡ get_or ps k p → tree_at terms p ≡ part_at t k
  part-tree ps k p e h is =
      ap (tree_at terms) is ∙ sym (at-map ps k p h) ∙ ap (λ l. get_or (map (λ q. tree_at terms q) l) k (leaf True)) e ∙ sym (ap (λ l. get_or l k (leaf True)) (node-parts terms node t at))

  pub part-below : (m n : ℕ) (ps : List ℕ) (k p : ℕ) → All (λ q. q < m) node.parts → m < n → ps ≡ node.parts → k < length ps → p ≡ get_or ps k p → p < n
  part-below m n ps k p a l e h is =
      let f : p ≡ get_or node.parts k p = is ∙ ap (λ l. get_or l k p) e in
      let g : k < length node.parts = omega (arith, h, ap length e) in
      omega (arith, a k p g, f)
