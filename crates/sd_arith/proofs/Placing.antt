-- the table of the places of first facts
use Rattle.std.proofs.Common.{◌≡◌, ℕ, zero, suc, ◌+◌, ◌<◌, List, [], ◌∷◌, length, drop, refl, sym, ap, ◌∙◌, subst, Bool, true, false, cond, Option, Some, None, slice_get, get_or, set, arith, add-one}
use Rattle.std.proofs.lemmas.List.{get_or-set_other, get_or-set_same, length-set}
use Rattle.sd_term.specs.Tree.{Tree, same_tree, same_tree-true, same_tree-self}
use Rattle.sd_term.specs.Bank.{tree_at}
use Rattle.sd_term.specs.Distinct.{AreDistinct}
use Rattle.sd_term.proofs.Shared.{same-number}
use Rattle.sd_forms.specs.FactRows.{is_comparison}
use Rattle.sd_kernel.specs.declared.known.Fact.{Fact as NumberedFact}
use Rattle.sd_kernel.specs.Known.{Fact, Trail, first_fact, known}
use Rattle.sd_kernel.specs.Facts.{trail_of, fact_of}
use Rattle.std.proofs.lemmas.List.{drop_more}
use Rattle.sd_arith.specs.Places.{place_from, place_in, HasPlaces, IsPlace}
use Rattle.sd_arith.proofs.Knowing.{known-fact}

-- the place of the first fact, where there is one
pub place-of-fact : (k p : ℕ) (fs : Trail) (t : Tree) (b : Bool) → first_fact fs t ≡ Some b → place_from k fs t ≡ Some p → (i : ℕ) × (p ≡ k + i) × (slice_get fs i ≡ Some (t, b))
place-of-fact k p [] t b e f = cc
place-of-fact k p (g ∷ fs) t b e f = go (same_tree g.0 t) refl e f (place-of-fact (suc k) p fs t b)
  where
    go : (s : Bool) → same_tree g.0 t ≡ s → cond s (Some g.1) (first_fact fs t) ≡ Some b → cond s (Some k) (place_from (suc k) fs t) ≡ Some p
        → (first_fact fs t ≡ Some b → place_from (suc k) fs t ≡ Some p → (i : ℕ) × (p ≡ suc k + i) × (slice_get fs i ≡ Some (t, b))) → (i : ℕ) × (p ≡ k + i) × (slice_get (g ∷ fs) i ≡ Some (t, b))
    go true s e f more =
        let q : k ≡ p = cc in
        let v : g.1 ≡ b = cc in
        (zero, omega (arith, q), λ i. Some (same_tree-true g.0 t s i, v i))
    go false s e f more = let r = more e f in (suc r.0, omega (arith, r.1), r.2)

pub place-none : (k : ℕ) (fs : Trail) (t : Tree) (b : Bool) → first_fact fs t ≡ Some b → place_from k fs t ≡ None → ⊥
place-none k [] t b e f = cc
place-none k (g ∷ fs) t b e f = go (same_tree g.0 t) e f (place-none (suc k) fs t b)
  where
    go : (s : Bool) → cond s (Some g.1) (first_fact fs t) ≡ Some b → cond s (Some k) (place_from (suc k) fs t) ≡ None → (first_fact fs t ≡ Some b → place_from (suc k) fs t ≡ None → ⊥) → ⊥
    go true e f more = cc
    go false e f more = more e f

-- one more fact in front
places-step : (terms : List Tree) (k n : ℕ) (f : Fact) (fs : Trail) (ps new : List (Option ℕ)) → AreDistinct terms → HasPlaces terms (suc k) fs ps → n < length terms → tree_at terms n ≡ f.0 → new ≡ set ps n (Some k)
    → HasPlaces terms k (f ∷ fs) new
places-step terms k n f fs ps new distinct h lt e is = record { long = ap length is ∙ length-set ps n (Some k) ∙ h.long; exact = λ m b. at m b (same_tree f.0 (tree_at terms m)) refl }
  where
    at : (m : ℕ) → m < length terms → (s : Bool) → same_tree f.0 (tree_at terms m) ≡ s → place_in new m ≡ cond s (Some k) (place_from (suc k) fs (tree_at terms m))
    at m b true s =
        let same : m ≡ n = same-number terms m n distinct b lt (sym (same_tree-true f.0 (tree_at terms m) s) ∙ sym e) in
        ap (λ l. place_in l m) is ∙ ap (λ j. place_in (set ps n (Some k)) j) same ∙ get_or-set_same ps n (Some k) None (omega (arith, lt, h.long))
    at m b false s =
        let ne : m ≡ n → ⊥ = λ same. let t : true ≡ false = sym (same_tree-self f.0) ∙ ap (λ u. same_tree f.0 u) (sym e ∙ ap (tree_at terms) (sym same)) ∙ s in cc in
        ap (λ l. place_in l m) is ∙ get_or-set_other ps n m (Some k) None ne ∙ h.exact m b

-- one more fact of the trail, from its end
pub places-next : (terms : List Tree) (trail : List NumberedFact) (k : ℕ) (f : NumberedFact) (ps new : List (Option ℕ)) → AreDistinct terms → k < length trail → f ≡ get_or trail k f → f.term < length terms
    → HasPlaces terms (k + 1) (trail_of terms (drop (k + 1) trail)) ps → new ≡ set ps f.term (Some k) → HasPlaces terms k (trail_of terms (drop k trail)) new
places-next terms trail k f ps new distinct lt at b h is =
    subst (λ (fs : List NumberedFact). HasPlaces terms k (trail_of terms fs) new) (sym (drop_more trail k f lt ∙ ap (λ g. g ∷ drop (k + 1) trail) (sym at)))
    (places-step terms k f.term (fact_of terms f) (trail_of terms (drop (k + 1) trail)) ps new distinct
    (subst (λ (m : ℕ). HasPlaces terms m (trail_of terms (drop (k + 1) trail)) ps) (add-one k) h) b refl is)

module _ (terms : List Tree) (trail : Trail) (places : List (Option ℕ)) (id : ℕ) (b : Bool) (h : HasPlaces terms 0 trail places) (lt : id < length terms) where
  -- the place in the table is that of the fact with the value of an order or an equality
  pub table-place : (p : ℕ) → place_in places id ≡ Some p → known trail (tree_at terms id) ≡ Some b → IsPlace trail (tree_at terms id) b p
  table-place p is k = λ c.
      let r = place-of-fact 0 p trail (tree_at terms id) b (sym (known-fact trail (tree_at terms id) c) ∙ k) (sym (h.exact id lt) ∙ is) in
      let same : p ≡ r.0 = omega (arith, r.1) in
      ap (slice_get trail) same ∙ r.2

  -- an order or an equality with a value has a place in the table
  pub table-none : place_in places id ≡ None → known trail (tree_at terms id) ≡ Some b → is_comparison (tree_at terms id) ≡ true → ⊥
  table-none is k c = place-none 0 trail (tree_at terms id) b (sym (known-fact trail (tree_at terms id) c) ∙ k) (sym (h.exact id lt) ∙ is)
