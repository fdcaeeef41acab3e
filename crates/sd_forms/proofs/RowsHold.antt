-- the rows of a term with a truth value hold of the terms' values
use Rattle.std.proofs.Common.{◌≡◌, ℕ, zero, suc, ◌<◌, List, [], ◌∷◌, map, get_or, length, refl, sym, ap, ◌∙◌, Bool, true, false, ◌||◌, arith}
use Rattle.std.proofs.Common.{ℤ, pos, negsuc, ◌-ℤ◌, ◌≤ℤ◌, ◌<ℤ◌}
use Rattle.std.specs.Prelude.{int_le}
use Rattle.std.proofs.lemmas.Int.{ints}
use Rattle.std.proofs.lemmas.Bool.{and_parts, or_left, or_right}
use Rattle.sd_base.specs.Value.{Truth, same_value}
use Rattle.sd_base.specs.Meaning.{number_of, truth_of}
use Rattle.sd_base.proofs.ValueLemmas.{value_is}
use Rattle.sd_term.specs.declared.node.Head.{Head}
use Rattle.sd_term.specs.Heads.{True, Eq, Le}
use Rattle.sd_term.specs.Tree.{Tree, leaf, head_of, parts_of}
use Rattle.sd_term.specs.Sorts.{sort_by, sort_of, sorts_of, IsWellSorted}
use Rattle.sd_term.specs.Numbering.{has}
use Rattle.sd_term.specs.Truth.{Valuation, value_at as value_in, apply, values, value}
use Rattle.sd_term.proofs.BuildValues.{values-parts}
use Rattle.sd_rows.specs.declared.form.Form.{Form}
use Rattle.sd_rows.specs.Rows.{Holds, AllHold}
use Rattle.sd_rows.specs.Forms.{value_at, less, at_most}
use Rattle.sd_rows.proofs.FormValues.{value_at-less, Holds-at_most}
use Rattle.sd_forms.specs.LinearForms.{form_of, columns_under}
use Rattle.sd_term.specs.Closed.{IsClosed}
use Rattle.sd_forms.specs.FactRows.{part_at, is_int_sort, is_le_head, is_eq_head, is_le, is_int_eq, is_comparison, below_row, back_row, above_row, rows_of}
use Rattle.sd_forms.proofs.TwoParts.{two-parts}
use Rattle.sd_term.proofs.ClosedTerms.{AllIn-get, parts-in}
use Rattle.sd_forms.proofs.FormMeaning.{form_of-number}

-- ---- rows of differences

under : (x : ℕ → ℤ) (f g : Form) (a b : ℤ) → value_at x f ≡ a → value_at x g ≡ b → a ≤ℤ b → Holds x (at_most (pos 0) (less f g))
under x f g a b e h l =
    let d : value_at x (less f g) ≡ a -ℤ b = value_at-less x f g ∙ (λ i. e i -ℤ h i) in Holds-at_most x (pos 0) (less f g) (omega (arith, ints))

strictly-under : (x : ℕ → ℤ) (f g : Form) (a b : ℤ) → value_at x f ≡ a → value_at x g ≡ b → a <ℤ b → Holds x (at_most (negsuc 0) (less f g))
strictly-under x f g a b e h l =
    let d : value_at x (less f g) ≡ a -ℤ b = value_at-less x f g ∙ (λ i. e i -ℤ h i) in Holds-at_most x (negsuc 0) (less f g) (omega (arith, ints))

-- ---- comparisons

le-head : (h : Head) → is_le_head h ≡ true → h ≡ Le
le-head Le e = refl
le-head _ e = let f : false ≡ true = e in absurd (cc)

eq-head : (h : Head) → is_eq_head h ≡ true → h ≡ Eq
eq-head Eq e = refl
eq-head _ e = let f : false ≡ true = e in absurd (cc)

le-compares : (t : Tree) → is_le t ≡ true → is_comparison t ≡ true
le-compares t e = or_left (is_le t) (is_int_eq t) e

eq-compares : (t : Tree) → is_int_eq t ≡ true → is_comparison t ≡ true
eq-compares t e = or_right (is_le t) (is_int_eq t) e

le-value : (v : Valuation) (t : Tree) → is_le t ≡ true → value v t ≡ Truth (int_le (number_of (value_in (values v t) 0)) (number_of (value_in (values v t) 1)))
le-value v t e = λ i. apply v (le-head (head_of t) e i) (sort_by (le-head (head_of t) e i) (sorts_of t)) (values v t)

eq-value : (v : Valuation) (t : Tree) → is_int_eq t ≡ true → value v t ≡ Truth (same_value (value_in (values v t) 0) (value_in (values v t) 1))
eq-value v t e =
    let h : is_eq_head (head_of t) ≡ true = (and_parts (is_eq_head (head_of t)) (is_int_sort (sort_of (part_at t 0))) e).0 in
    λ i. apply v (eq-head (head_of t) h i) (sort_by (eq-head (head_of t) h i) (sorts_of t)) (values v t)

value-part : (v : Valuation) (ts : List Tree) (k : ℕ) → k < length ts → value_in (map (value v) ts) k ≡ value v (get_or ts k (leaf True))
value-part v [] k h = absurd (omega arith)
value-part v (t ∷ ts) zero h = refl
value-part v (t ∷ ts) (suc k) h = value-part v ts k (omega (arith, h))

-- the form of a part of a comparison has the part's number
part-number : (v : Valuation) (terms : List Tree) (t : Tree) (k : ℕ) → IsClosed terms → has terms t ≡ true → IsWellSorted t → is_comparison t ≡ true → k < 2
    → value_at (columns_under v terms) (form_of terms (part_at t k)) ≡ number_of (value_in (values v t) k)
part-number v terms t k c h w e l =
    let two : length (parts_of t) ≡ 2 = two-parts t w e in
    let inside : k < length (parts_of t) = omega arith in
    let here : has terms (part_at t k) ≡ true = AllIn-get terms (parts_of t) k (leaf True) (parts-in terms t (c t h)) inside in
    form_of-number v terms (part_at t k) (c (part_at t k) here) ∙ ap number_of (sym (ap (λ ws. value_in ws k) (values-parts v t) ∙ value-part v (parts_of t) k inside))

int_le-true : (a b : ℤ) → int_le a b ≡ true → a ≤ℤ b
int_le-true a b e = grind (arith, ints)

int_le-false : (a b : ℤ) → int_le a b ≡ false → b <ℤ a
int_le-false a b e = grind (arith, ints)

same-under : (a b : ℤ) → a ≡ b → a ≤ℤ b
same-under a b e = omega (arith, ints)

truth-is : (a b : Bool) → Truth a ≡ Truth b → a ≡ b
truth-is a b e = ap truth_of e

-- the parts of a true comparison
true-under : (v : Valuation) (t : Tree) → is_comparison t ≡ true → value v t ≡ Truth true → number_of (value_in (values v t) 0) ≤ℤ number_of (value_in (values v t) 1)
true-under v t e h = go (is_le t) refl e
  where
    go : (b : Bool) → is_le t ≡ b → b || is_int_eq t ≡ true → number_of (value_in (values v t) 0) ≤ℤ number_of (value_in (values v t) 1)
    go true l f = int_le-true (number_of (value_in (values v t) 0)) (number_of (value_in (values v t) 1)) (truth-is _ true (sym (le-value v t l) ∙ h))
    go false l f =
        same-under (number_of (value_in (values v t) 0)) (number_of (value_in (values v t) 1))
        (ap number_of (value_is (value_in (values v t) 0) (value_in (values v t) 1) (truth-is _ true (sym (eq-value v t f) ∙ h))))

-- ---- the rows, one by one

pub below_row-holds : (v : Valuation) (terms : List Tree) (t : Tree) → IsClosed terms → has terms t ≡ true → IsWellSorted t → is_comparison t ≡ true → value v t ≡ Truth true
    → Holds (columns_under v terms) (below_row terms t)
below_row-holds v terms t c h w e is =
    under (columns_under v terms) (form_of terms (part_at t 0)) (form_of terms (part_at t 1)) (number_of (value_in (values v t) 0)) (number_of (value_in (values v t) 1))
    (part-number v terms t 0 c h w e (omega arith)) (part-number v terms t 1 c h w e (omega arith)) (true-under v t e is)

pub back_row-holds : (v : Valuation) (terms : List Tree) (t : Tree) → IsClosed terms → has terms t ≡ true → IsWellSorted t → is_int_eq t ≡ true → value v t ≡ Truth true
    → Holds (columns_under v terms) (back_row terms t)
back_row-holds v terms t c h w e is =
    let f : is_comparison t ≡ true = eq-compares t e in
    let same : value_in (values v t) 0 ≡ value_in (values v t) 1 =
    value_is (value_in (values v t) 0) (value_in (values v t) 1) (truth-is (same_value (value_in (values v t) 0) (value_in (values v t) 1)) true (sym (eq-value v t e) ∙ is)) in
    under (columns_under v terms) (form_of terms (part_at t 1)) (form_of terms (part_at t 0)) (number_of (value_in (values v t) 1)) (number_of (value_in (values v t) 0))
    (part-number v terms t 1 c h w f (omega arith)) (part-number v terms t 0 c h w f (omega arith))
    (same-under (number_of (value_in (values v t) 1)) (number_of (value_in (values v t) 0)) (ap number_of (sym same)))

pub above_row-holds : (v : Valuation) (terms : List Tree) (t : Tree) → IsClosed terms → has terms t ≡ true → IsWellSorted t → is_le t ≡ true → value v t ≡ Truth false
    → Holds (columns_under v terms) (above_row terms t)
above_row-holds v terms t c h w e is =
    let f : is_comparison t ≡ true = le-compares t e in
    strictly-under (columns_under v terms) (form_of terms (part_at t 1)) (form_of terms (part_at t 0)) (number_of (value_in (values v t) 1)) (number_of (value_in (values v t) 0))
    (part-number v terms t 1 c h w f (omega arith)) (part-number v terms t 0 c h w f (omega arith))
    (int_le-false (number_of (value_in (values v t) 0)) (number_of (value_in (values v t) 1)) (truth-is (int_le (number_of (value_in (values v t) 0)) (number_of (value_in (values v t) 1))) false (sym (le-value v t e) ∙ is)))

-- all rows of a term with its truth value
pub rows_of-hold : (v : Valuation) (terms : List Tree) (t : Tree) (b : Bool) → IsClosed terms → has terms t ≡ true → IsWellSorted t → value v t ≡ Truth b
    → AllHold (columns_under v terms) (rows_of terms t b)
rows_of-hold v terms t true c h w is =
    grind (
      arith,
      λ (e : is_le t ≡ true). below_row-holds v terms t c h w (le-compares t e) is,
      λ (e : is_int_eq t ≡ true). below_row-holds v terms t c h w (eq-compares t e) is,
      λ (e : is_int_eq t ≡ true). back_row-holds v terms t c h w e is,
    )
rows_of-hold v terms t false c h w is = grind (arith, λ (e : is_le t ≡ true). above_row-holds v terms t c h w e is)
