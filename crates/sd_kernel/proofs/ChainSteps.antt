-- what the step on chains of equalities does, by its tests
use Rattle.std.proofs.Common.{◌≡◌, ℕ, ◌<◌, ◌≤◌, List, [], ◌∷◌, map, drop, refl, sym, ap, ◌∙◌, Bool, true, false, not, ◌&&◌, ◌||◌, length, Option, Some, None, slice_get, arith, zero, suc, ◌==◌}
use Rattle.std.specs.List.{list_all}
use Rattle.std.specs.Prelude.{if◌then◌else◌}
use Rattle.std.proofs.lemmas.List.{drop_all}
use Rattle.sd_term.specs.Tree.{Tree, same_tree, same_tree-self}
use Rattle.sd_term.specs.Bank.{tree_at}
use Rattle.sd_forms.specs.FactRows.{part_at}
use Rattle.sd_kernel.specs.declared.step.Step.TheVariants.{Chain}
use Rattle.sd_kernel.specs.declared.step.StepCause.TheVariants.{Number, Shape, Value as Value'}
use Rattle.sd_kernel.specs.Known.{Trail, known, known_at, is_known}
use Rattle.sd_kernel.specs.Steps.{bad, named, adds, needs, outcome, is_eq, other_side, leads, is_nil, is_chain}
use Rattle.sd_kernel.specs.Effects.{across}
use Rattle.sd_kernel.proofs.Needs.{after_chain}
use Rattle.sd_kernel.proofs.NodeTests.{not-same}
use Rattle.sd_kernel.proofs.Lookups.{are_in, get-tree, all_at-some, all_at-none, known_at-is, in-first, in-rest}

same : (a b : Tree) → a ≡ b → same_tree a b ≡ true
same a b e = ap (λ u. same_tree a u) (sym e) ∙ same_tree-self a

-- ---- the other side of an equality

module _ (e a : Tree) (q : is_eq e ≡ true) where
  opened : across e a ≡ other_side e a
  opened = ap (λ b. if b then other_side e a else None) q

  pub across-first : part_at e 0 ≡ a → across e a ≡ Some (part_at e 1)
  across-first f = opened ∙ ap (λ b. if b then Some (part_at e 1) else (if same_tree (part_at e 1) a then Some (part_at e 0) else None)) (same (part_at e 0) a f)

  not-first : (part_at e 0 ≡ a → ⊥) → across e a ≡ (if same_tree (part_at e 1) a then Some (part_at e 0) else None)
  not-first n = opened ∙ ap (λ b. if b then Some (part_at e 1) else (if same_tree (part_at e 1) a then Some (part_at e 0) else None)) (not-same (part_at e 0) a n)

  pub across-second : (part_at e 0 ≡ a → ⊥) → part_at e 1 ≡ a → across e a ≡ Some (part_at e 0)
  across-second n f = not-first n ∙ ap (λ b. if b then Some (part_at e 0) else None) (same (part_at e 1) a f)

  pub across-none : (part_at e 0 ≡ a → ⊥) → (part_at e 1 ≡ a → ⊥) → across e a ≡ None
  across-none n m = not-first n ∙ ap (λ b. if b then Some (part_at e 0) else None) (not-same (part_at e 1) a m)

-- ---- along a chain

pub link-end : (terms : List Tree) (links : List ℕ) (i : ℕ) (a c : Tree) → length links ≤ i → leads a (map (λ n. tree_at terms n) (drop i links)) c ≡ same_tree a c
link-end terms links i a c h = ap (λ l. leads a (map (λ n. tree_at terms n) l) c) (drop_all i links h)

-- ---- the whole chain

pub chain-ends : (t a c : Tree) (ts : List Tree) → is_eq t ≡ true → a ≡ part_at t 0 → c ≡ part_at t 1 → true ≡ leads a ts c → is_nil ts ≡ false → (s : Bool) → s ≡ same_tree a c → not s ≡ is_chain t ts
chain-ends t a c ts q is_a is_c lead n s e =
    sym ((λ i. (q i && leads (sym is_a i) ts (sym is_c i)) && (n i || not (same_tree (sym is_a i) (sym is_c i)))) ∙ (λ i. sym lead i && not (sym e i)))

pub more-map : (terms : List Tree) (links : List ℕ) → 0 < length links → is_nil (map (λ n. tree_at terms n) links) ≡ false
more-map terms [] e = absurd (omega (arith, e))
more-map terms (n ∷ links) e = refl

pub not-zero : (n : ℕ) → (n == 0) ≡ false → 0 < n
not-zero zero e = let f : true ≡ false = e in absurd (cc)
not-zero (suc n) e = omega arith

-- ---- the step

known-links : (terms : List Tree) (trail : Trail) (values : List (Option Bool)) (links : List ℕ) → values ≡ map (λ t. known trail t) terms → are_in terms links ≡ true
    → list_all (λ u. is_known (known trail u) true) (map (λ n. tree_at terms n) links) ≡ list_all (λ n. is_known (known_at values n) true) links
known-links terms trail values [] e h = refl
known-links terms trail values (n ∷ links) e h =
    λ i. is_known (sym (known_at-is trail terms values n e (in-first terms n links h)) i) true && known-links terms trail values links e (in-rest terms n links h) i

module _ (terms : List Tree) (trail : Trail) (e i : ℕ) (links : List ℕ) (one : are_in terms (e ∷ []) ≡ true) (is : i ≡ e) where
  at-first : slice_get terms e ≡ Some (tree_at terms i)
  at-first = get-tree terms e (in-first terms e [] one) ∙ ap (λ n. Some (tree_at terms n)) (sym is)

  pub chain-number : are_in terms links ≡ false → outcome terms trail (Chain e links) ≡ bad 0 Number
  chain-number n = λ u. named (at-first u) (λ t. named (all_at-none terms links n u) (after_chain terms trail t))

  module _ (all : are_in terms links ≡ true) (s : Bool) (shape : s ≡ is_chain (tree_at terms i) (map (λ n. tree_at terms n) links)) where
    pub chain-shaped : outcome terms trail (Chain e links) ≡ needs s Shape (needs (list_all (λ u. is_known (known trail u) true) (map (λ n. tree_at terms n) links)) Value' (adds terms trail (tree_at terms i) true))
    chain-shaped =
        (λ u. named (at-first u) (λ t. named (all_at-some terms links all u) (after_chain terms trail t)))
        ∙ ap (λ b. needs b Shape (needs (list_all (λ u. is_known (known trail u) true) (map (λ n. tree_at terms n) links)) Value' (adds terms trail (tree_at terms i) true))) (sym shape)

    pub chain-made : s ≡ true → (values : List (Option Bool)) → values ≡ map (λ t. known trail t) terms → (q : Bool) → q ≡ list_all (λ n. is_known (known_at values n) true) links
        → outcome terms trail (Chain e links) ≡ needs q Value' (adds terms trail (tree_at terms i) true)
    chain-made y values are q test = chain-shaped ∙ (λ u. needs (y u) Shape (needs ((known-links terms trail values links are all ∙ sym test) u) Value' (adds terms trail (tree_at terms i) true)))
