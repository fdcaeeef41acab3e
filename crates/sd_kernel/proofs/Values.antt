-- the values of equalities, orders and choices
use Rattle.std.proofs.Common.{◌≡◌, ℕ, List, [], ◌∷◌, map, refl, sym, ap, ◌∙◌, subst, Bool, true, false, ◌&&◌, cond}
use Rattle.std.proofs.Common.{ℤ}
use Rattle.std.specs.Prelude.{int_le, slice_index_or}
use Rattle.sd_base.specs.declared.sort.Sort.{Sort, Int, Bool as BoolSort}
use Rattle.sd_base.specs.Value.{Value, Number, Truth, Element, Map, same_value}
use Rattle.sd_base.specs.Meaning.{truth_of, number_of}
use Rattle.sd_base.specs.Sorts.{HasSort}
use Rattle.sd_base.specs.Cast.{cast}
use Rattle.sd_base.proofs.ValueLemmas.{value_is, value_same}
use Rattle.sd_term.specs.declared.node.Head.{Head}
use Rattle.sd_term.specs.Heads.{True, Eq, Le, Ite}
use Rattle.sd_term.specs.Tree.{Tree, leaf, head_of, parts_of, tree, same_tree-true}
use Rattle.sd_term.specs.Sorts.{sort_of, sort_by, sorts_of, Takes, IsWellSorted}
use Rattle.sd_term.specs.Truth.{Valuation, value}
use Rattle.sd_term.proofs.Typed.{value-sorted, value-cast}
use Rattle.sd_term.proofs.BuildValues.{at_parts-parts, value-by}
use Rattle.sd_rows.proofs.Integers.{same_number_is}
use Rattle.sd_forms.specs.FactRows.{part_at, is_eq_head}
use Rattle.sd_kernel.specs.Steps.{is_eq_of, is_le_of, is_ite_head, chosen_part}

-- ---- parts

pub sorts-parts : (t : Tree) → sorts_of t ≡ map sort_of (parts_of t)
sorts-parts t = at_parts-parts (λ u ss. sort_by (head_of u) ss) t

abbrev at : List Tree → ℕ → Tree
at ts k = slice_index_or ts k (leaf True)

-- the two parts of an equality
pub record TwoParts (t : Tree) : Type 0 where
  pub parts : parts_of t ≡ part_at t 0 ∷ part_at t 1 ∷ []
  pub sorts : sort_of (part_at t 0) ≡ sort_of (part_at t 1)

-- the three parts of a choice
pub record ThreeParts (t : Tree) : Type 0 where
  pub parts : parts_of t ≡ part_at t 0 ∷ part_at t 1 ∷ part_at t 2 ∷ []
  pub sorts : sort_of (part_at t 1) ≡ sort_of (part_at t 2)

pub is-eq-head : (h : Head) → is_eq_head h ≡ true → h ≡ Eq
is-eq-head Eq e = refl
is-eq-head _ e = let f : false ≡ true = e in cc

pub is-ite-head : (h : Head) → is_ite_head h ≡ true → h ≡ Ite
is-ite-head Ite e = refl
is-ite-head _ e = let f : false ≡ true = e in cc

pub eq-parts : (t : Tree) → IsWellSorted t → head_of t ≡ Eq → TwoParts t
eq-parts t w e =
    let takes : Takes Eq (sorts_of t) = subst (λ h. Takes h (sorts_of t)) e w.1 in
    go (parts_of t) refl takes.0 (sym (sorts-parts t) ∙ takes.1)
  where
    go : (ps : List Tree) → parts_of t ≡ ps → (s : Sort) → map sort_of ps ≡ s ∷ s ∷ [] → TwoParts t
    go [] f s g = cc
    go (a ∷ []) f s g = cc
    go (a ∷ b ∷ []) f s g =
        let first : sort_of a ≡ s = cc in
        let second : sort_of b ≡ s = cc in
        record {
          parts = f ∙ (λ i. at (sym f i) 0 ∷ at (sym f i) 1 ∷ []);
          sorts = ap (λ l. sort_of (at l 0)) f ∙ first ∙ sym second ∙ sym (ap (λ l. sort_of (at l 1)) f);
        }
    go (a ∷ b ∷ c ∷ ps) f s g = cc

pub ite-parts : (t : Tree) → IsWellSorted t → head_of t ≡ Ite → ThreeParts t
ite-parts t w e =
    let takes : Takes Ite (sorts_of t) = subst (λ h. Takes h (sorts_of t)) e w.1 in
    go (parts_of t) refl takes.0 (sym (sorts-parts t) ∙ takes.1)
  where
    go : (ps : List Tree) → parts_of t ≡ ps → (s : Sort) → map sort_of ps ≡ BoolSort ∷ s ∷ s ∷ [] → ThreeParts t
    go [] f s g = cc
    go (a ∷ []) f s g = cc
    go (a ∷ b ∷ []) f s g = cc
    go (a ∷ b ∷ c ∷ []) f s g =
        let second : sort_of b ≡ s = cc in
        let third : sort_of c ≡ s = cc in
        record {
          parts = f ∙ (λ i. at (sym f i) 0 ∷ at (sym f i) 1 ∷ at (sym f i) 2 ∷ []);
          sorts = ap (λ l. sort_of (at l 1)) f ∙ second ∙ sym third ∙ sym (ap (λ l. sort_of (at l 2)) f);
        }
    go (a ∷ b ∷ c ∷ d ∷ ps) f s g = cc

-- ---- values

pub eq-means : (v : Valuation) (t : Tree) → IsWellSorted t → head_of t ≡ Eq → value v t ≡ Truth (same_value (value v (part_at t 0)) (value v (part_at t 1)))
eq-means v t w e = value-by v t Eq (part_at t 0 ∷ part_at t 1 ∷ []) e (eq-parts t w e).parts

-- the sides of a true equality have one value
pub eq-true : (v : Valuation) (t : Tree) → IsWellSorted t → head_of t ≡ Eq → value v t ≡ Truth true → value v (part_at t 0) ≡ value v (part_at t 1)
eq-true v t w e h = let k : Truth (same_value (value v (part_at t 0)) (value v (part_at t 1))) ≡ Truth true = sym (eq-means v t w e) ∙ h in value_is (value v (part_at t 0)) (value v (part_at t 1)) (cc)

pub eq-holds : (v : Valuation) (t : Tree) → IsWellSorted t → head_of t ≡ Eq → value v (part_at t 0) ≡ value v (part_at t 1) → value v t ≡ Truth true
eq-holds v t w e h = eq-means v t w e ∙ ap Truth (ap (λ x. same_value (value v (part_at t 0)) x) (sym h) ∙ value_same (value v (part_at t 0)))

pub eq-false : (v : Valuation) (t : Tree) → IsWellSorted t → head_of t ≡ Eq → value v t ≡ Truth false → value v (part_at t 0) ≡ value v (part_at t 1) → ⊥
eq-false v t w e h k = let f : Truth true ≡ Truth false = sym (eq-holds v t w e k) ∙ h in cc

-- an equality of two terms
pub eq_of-holds : (v : Valuation) (e a b : Tree) → is_eq_of e a b ≡ true → value v a ≡ value v b → value v e ≡ Truth true
eq_of-holds v e a b h k =
    ap (value v) (same_tree-true e (tree Eq (a ∷ b ∷ [])) h) ∙ ap Truth (ap (λ x. same_value (value v a) x) (sym k) ∙ value_same (value v a))

-- a choice has the value of the part that is chosen
pub ite-chooses : (v : Valuation) (t : Tree) (b : Bool) → IsWellSorted t → head_of t ≡ Ite → value v (part_at t 0) ≡ Truth b → value v t ≡ value v (chosen_part t b)
ite-chooses v t b w e h =
    let p = ite-parts t w e in
    let sort : sort_by Ite (sorts_of t) ≡ sort_of (part_at t 1) = ap (sort_by Ite) (sorts-parts t ∙ ap (map sort_of) p.parts) in
    value-by v t Ite (part_at t 0 ∷ part_at t 1 ∷ part_at t 2 ∷ []) e p.parts
    ∙ (λ i. cast (sort i) (cond (truth_of (h i)) (value v (part_at t 1)) (value v (part_at t 2))))
    ∙ go b p.sorts
  where
    go : (c : Bool) → sort_of (part_at t 1) ≡ sort_of (part_at t 2) → cast (sort_of (part_at t 1)) (cond c (value v (part_at t 1)) (value v (part_at t 2))) ≡ value v (chosen_part t c)
    go true s = value-cast v (part_at t 1)
    go false s = ap (λ r. cast r (value v (part_at t 2))) s ∙ value-cast v (part_at t 2)

-- ---- orders

number-value : (x : Value) → HasSort Int x → x ≡ Number (number_of x)
number-value (Number n) h = refl
number-value (Truth b) h = absurd h
number-value (Element t n) h = absurd h
number-value (Map d es) h = absurd h

-- an integer term has a number
pub is-number : (v : Valuation) (t : Tree) → sort_of t ≡ Int → value v t ≡ Number (number_of (value v t))
is-number v t s = number-value (value v t) (subst (λ r. HasSort r (value v t)) s (value-sorted v t))

le-below : (v : Valuation) (l a b : Tree) → is_le_of l a b ≡ true → value v l ≡ Truth (int_le (number_of (value v a)) (number_of (value v b)))
le-below v l a b h = ap (value v) (same_tree-true l (tree Le (a ∷ b ∷ [])) h)

other-integer : (x y : ℤ) → (x ≡ y → ⊥) → int_le x y ≡ true → int_le y x ≡ false
other-integer x y n h = go (int_le y x) refl
  where
    go : (c : Bool) → int_le y x ≡ c → c ≡ false
    go false e = refl
    go true e = absurd (n (same_number_is x y (λ i. h i && e i)))

-- of two different integers with one order, the other order is false
pub other-order : (v : Valuation) (a b l r : Tree) → sort_of a ≡ Int → sort_of b ≡ Int → (value v a ≡ value v b → ⊥) → is_le_of l a b ≡ true → is_le_of r b a ≡ true → value v l ≡ Truth true → value v r ≡ Truth false
other-order v a b l r sa sb n hl hr t =
    let below : Truth (int_le (number_of (value v a)) (number_of (value v b))) ≡ Truth true = sym (le-below v l a b hl) ∙ t in
    le-below v r b a hr
    ∙ ap Truth (other-integer (number_of (value v a)) (number_of (value v b)) (λ e. n (is-number v a sa ∙ ap Number e ∙ sym (is-number v b sb))) (cc))
