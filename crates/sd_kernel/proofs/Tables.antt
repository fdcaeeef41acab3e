-- tables over the terms of a bank, and the first fact on a term
use Rattle.std.proofs.Common.{◌≡◌, ℕ, zero, suc, ◌+◌, ◌<◌, ◌≤◌, List, [], ◌∷◌, map, get_or, refl, sym, ap, ◌∙◌, subst, Bool, true, false, cond, ◌&&◌, ◌||◌, length, slice_get, Some, None, Option, drop, take, arith, All, unwrap_or, set}
use Rattle.std.proofs.lemmas.List.{drop_more, length-map, get_or-map, get_or-take, length-take-le, take_all, get_or-set_other, get_or-set_same, length-set}
use Rattle.std.proofs.lemmas.List.Folds.{list_any_more, list_any_at}
use Rattle.sd_term.specs.declared.node.TermNode.{TermNode}
use Rattle.sd_term.specs.Heads.{True}
use Rattle.sd_term.specs.Tree.{Tree, leaf, head_of, same_tree, same_tree-true, same_tree-self}
use Rattle.sd_term.specs.Truth.{same_bool}
use mathlib.Core.Bool.{beq}
use Rattle.sd_term.specs.Bank.{tree_at, tree_of, PartsBelow}
use Rattle.sd_term.specs.Distinct.{AreDistinct}
use Rattle.sd_term.specs.Sorts.{sort_of, sort_by}
use Rattle.sd_term.proofs.Folds.{at_parts-node, head_of-node}
use Rattle.sd_term.proofs.Shared.{same-number}
use Rattle.sd_kernel.specs.declared.known.Fact.{Fact as NumberedFact}
use Rattle.sd_kernel.specs.Known.{Fact, Trail, first_fact, has_fact, known_by, known, by_parts, known_at, known_by_parts}
use Rattle.sd_kernel.specs.Facts.{fact_of, trail_of}
use Rattle.sd_kernel.specs.FirstFacts.{HasFirstFacts}
use Rattle.sd_kernel.proofs.NodeTests.{not-same}

pub get_or-map-none : {A B : Type 0} (f : A → B) (ps : List A) (k : ℕ) (d : B) → slice_get ps k ≡ None → get_or (map f ps) k d ≡ d
get_or-map-none f [] k d e = refl
get_or-map-none f (q ∷ ps) zero d e = cc
get_or-map-none f (q ∷ ps) (suc k) d e = get_or-map-none f ps k d e

pub first_fact-hit : (f : Fact) (fs : Trail) (t : Tree) → f.0 ≡ t → first_fact (f ∷ fs) t ≡ Some f.1
first_fact-hit f fs t e = ap (λ b. cond b (Some f.1) (first_fact fs t)) (ap (λ u. same_tree f.0 u) (sym e) ∙ same_tree-self f.0)

-- ---- the values of the first facts

-- one more fact in front
firsts-step : (terms : List Tree) (n : ℕ) (f : Fact) (fs : Trail) (table new : List (Option Bool)) → AreDistinct terms → HasFirstFacts terms fs table → n < length terms → tree_at terms n ≡ f.0 → new ≡ set table n (Some f.1)
    → HasFirstFacts terms (f ∷ fs) new
firsts-step terms n f fs table new distinct h lt e is = record { long = ap length is ∙ length-set table n (Some f.1) ∙ h.long; exact = λ m b. at m b (same_tree f.0 (tree_at terms m)) refl }
  where
    at : (m : ℕ) → m < length terms → (s : Bool) → same_tree f.0 (tree_at terms m) ≡ s → known_at new m ≡ cond s (Some f.1) (first_fact fs (tree_at terms m))
    at m b true s =
        let same : m ≡ n = same-number terms m n distinct b lt (sym (same_tree-true f.0 (tree_at terms m) s) ∙ sym e) in
        ap (λ l. known_at l m) is ∙ ap (λ j. known_at (set table n (Some f.1)) j) same ∙ get_or-set_same table n (Some f.1) None (omega (arith, lt, h.long))
    at m b false s =
        let ne : m ≡ n → ⊥ = λ same. let t : true ≡ false = sym (same_tree-self f.0) ∙ ap (λ u. same_tree f.0 u) (sym e ∙ ap (tree_at terms) (sym same)) ∙ s in cc in
        ap (λ l. known_at l m) is ∙ get_or-set_other table n m (Some f.1) None ne ∙ h.exact m b

-- one more fact of the trail, from its end
pub firsts-next : (terms : List Tree) (trail : List NumberedFact) (k : ℕ) (f : NumberedFact) (table new : List (Option Bool)) → AreDistinct terms → k < length trail → f ≡ get_or trail k f → f.term < length terms
    → HasFirstFacts terms (trail_of terms (drop (k + 1) trail)) table → new ≡ set table f.term (Some f.value) → HasFirstFacts terms (trail_of terms (drop k trail)) new
firsts-next terms trail k f table new distinct lt at b h is =
    subst (λ (fs : List NumberedFact). HasFirstFacts terms (trail_of terms fs) new) (sym (drop_more trail k f lt ∙ ap (λ g. g ∷ drop (k + 1) trail) (sym at)))
    (firsts-step terms f.term (fact_of terms f) (trail_of terms (drop (k + 1) trail)) table new distinct h b refl is)

module _ (trail : Trail) (terms : List Tree) where
  known-node : (node : TermNode) (t : Tree) → tree_of terms node ≡ t
      → known trail t ≡ unwrap_or (by_parts node.head (map (λ n. sort_of (tree_at terms n)) node.parts) (map (λ n. known trail (tree_at terms n)) node.parts)) (first_fact trail t)
  known-node node t e =
      ap (known trail) (sym e)
      ∙ (λ i. unwrap_or (by_parts (head_of-node terms node i) (at_parts-node (λ u ss. sort_by (head_of u) ss) terms node i) (at_parts-node (known_by trail) terms node i)) (first_fact trail (tree_of terms node)))
      ∙ ap (λ u. unwrap_or (by_parts node.head (map (λ n. sort_of (tree_at terms n)) node.parts) (map (λ n. known trail (tree_at terms n)) node.parts)) (first_fact trail u)) e

  parts-known : (values : List (Option Bool)) (id : ℕ) (ps : List ℕ) → values ≡ map (known trail) (take id terms) → id ≤ length terms → All (λ p. p < id) ps
      → map (λ p. known_at values p) ps ≡ map (λ n. known trail (tree_at terms n)) ps
  parts-known values id [] e k a = refl
  parts-known values id (p ∷ ps) e k a =
      let lt : p < id = a 0 0 (omega arith) in
      let here : known_at values p ≡ known trail (tree_at terms p) =
      ap (λ vs. known_at vs p) e ∙ get_or-map (known trail) (take id terms) p (leaf True) None (omega (arith, lt, length-take-le id terms k)) ∙ ap (known trail) (get_or-take id terms p (leaf True) lt) in
      λ i. here i ∷ parts-known values id ps e k (λ j d b. a (suc j) d (omega (arith, b))) i

  -- the value of a node where the values of the earlier terms are at hand
  pub value-known : (values : List (Option Bool)) (id : ℕ) (node : TermNode) → values ≡ map (known trail) (take id terms) → id ≤ length terms → PartsBelow id node → tree_of terms node ≡ tree_at terms id
      → (k : Option (Option Bool)) → k ≡ by_parts node.head (map (λ n. sort_of (tree_at terms n)) node.parts) (map (λ p. known_at values p) node.parts)
      → unwrap_or k (first_fact trail (tree_at terms id)) ≡ known trail (tree_at terms id)
  value-known values id node e h b is k f =
      ap (λ o. unwrap_or o (first_fact trail (tree_at terms id))) (f ∙ ap (λ ks. by_parts node.head (map (λ n. sort_of (tree_at terms n)) node.parts) ks) (parts-known values id node.parts e h b))
      ∙ sym (known-node node (tree_at terms id) is)

  pub value-known-by-parts : (values : List (Option Bool)) (id : ℕ) (node : TermNode) → values ≡ map (known trail) terms → id < length terms → PartsBelow id node → tree_of terms node ≡ tree_at terms id
      → (k : Option (Option Bool)) → k ≡ by_parts node.head (map (λ n. sort_of (tree_at terms n)) node.parts) (map (λ p. known_at values p) node.parts)
      → unwrap_or k None ≡ known_by_parts trail (tree_at terms id)
  value-known-by-parts values id node e h b is k f =
      ap (λ o. unwrap_or o None) (f ∙ ap (λ ks. by_parts node.head (map (λ n. sort_of (tree_at terms n)) node.parts) ks)
      (parts-known values (length terms) node.parts (e ∙ ap (map (known trail)) (sym (take_all (length terms) terms (omega arith)))) (omega arith) (λ j d lt. omega (arith, b j d lt, h))))
      ∙ sym (λ i. unwrap_or (by_parts (head_of-node terms node i) (at_parts-node (λ u ss. sort_by (head_of u) ss) terms node i) (at_parts-node (known_by trail) terms node i)) None)
      ∙ ap (known_by_parts trail) is

-- ---- a fact with a value among the first ones

beq-same : (a b : Bool) → beq a b ≡ same_bool a b
beq-same true true = refl
beq-same true false = refl
beq-same false true = refl
beq-same false false = refl

pub on-yes : (a b : Tree) (x y : Bool) → a ≡ b → beq x y ≡ same_tree a b && same_bool x y
on-yes a b x y e = beq-same x y ∙ ap (λ s. s && same_bool x y) (sym (ap (λ u. same_tree a u) (sym e) ∙ same_tree-self a))

pub on-no : (a b : Tree) (x y : Bool) → (a ≡ b → ⊥) → false ≡ same_tree a b && same_bool x y
on-no a b x y n = ap (λ s. s && same_bool x y) (sym (not-same a b n))

module _ (terms : List Tree) (t : Tree) (b : Bool) (fs : List NumberedFact) (i : ℕ) (f : NumberedFact) (lt : i < length fs) (at : f ≡ get_or fs i f) where
  abbrev on : Fact → Bool
  on g = same_tree g.0 t && same_bool g.1 b

  long : i < length (trail_of terms fs)
  long = omega (arith, lt, length-map fs (fact_of terms))

  here : get_or (trail_of terms fs) i (fact_of terms f) ≡ fact_of terms f
  here = get_or-map (fact_of terms) fs i f (fact_of terms f) lt ∙ ap (fact_of terms) (sym at)

  pub has-at : (n : ℕ) → i < n → n ≤ length fs → true ≡ same_tree (tree_at terms f.term) t && same_bool f.value b → true ≡ has_fact (take n (trail_of terms fs)) t b
  has-at n h k o =
      sym (list_any_at on (take n (trail_of terms fs)) i (fact_of terms f) (omega (arith, h, length-take-le n (trail_of terms fs) (omega (arith, k, length-map fs (fact_of terms)))))
      (ap on (get_or-take n (trail_of terms fs) i (fact_of terms f) h ∙ here) ∙ sym o))

  pub has-more : has_fact (take i (trail_of terms fs)) t b ≡ false → false ≡ same_tree (tree_at terms f.term) t && same_bool f.value b → has_fact (take (i + 1) (trail_of terms fs)) t b ≡ false
  has-more h o = list_any_more on (trail_of terms fs) i (fact_of terms f) long ∙ (λ j. h j || on (here j)) ∙ sym o
