-- a linear form has the value of its term
use Rattle.std.proofs.Common.{◌≡◌, ℕ, zero, suc, List, [], ◌∷◌, ◌++◌, refl, sym, ap, ◌∙◌, subst, true, arith}
use Rattle.std.proofs.Common.{ℤ, pos, negsuc, ◌+ℤ◌, ◌-ℤ◌, ◌*ℤ◌}
use Rattle.std.proofs.lemmas.Int.{ints}
use Rattle.sd_base.specs.declared.sort.Sort.{Sort, Int}
use Rattle.sd_base.specs.Sorts.{HasSort}
use Rattle.sd_base.specs.Value.{Value, Number, Truth, Element, Map}
use Rattle.sd_base.specs.Meaning.{number_of}
use Rattle.sd_term.specs.declared.node.Head.{Head}
use Rattle.sd_term.specs.declared.node.Head.TheVariants.{Num}
use Rattle.sd_term.specs.Heads.{Add, Sub, Mul, Neg}
use Rattle.sd_term.specs.Tree.{Tree, leaf, call, head_of, at_parts, below, subterms}
use Rattle.sd_term.specs.Sorts.{sort_by, sort_of, sorts_of}
use Rattle.sd_term.specs.Numbering.{has, AllIn}
use Rattle.sd_term.specs.Truth.{Valuation, value_at as value_in, apply, values, value}
use Rattle.sd_term.proofs.Numbers.{AllIn-left, AllIn-right}
use Rattle.sd_term.proofs.Typed.{value-sorted}
use Rattle.sd_rows.specs.declared.form.Form.{Form}
use Rattle.sd_rows.specs.Forms.{value_at, plus, less, scaled, constant}
use Rattle.sd_rows.proofs.FormValues.{value_at-plus, value_at-less, value_at-scaled, value_at-column, value_at-number, value_at-bounded, value_at-product}
use Rattle.sd_forms.specs.LinearForms.{place_of, form_at, form_by, form_of, columns_under}
use Rattle.sd_term.specs.Closed.{IsClosed}
use Rattle.sd_forms.specs.Laws.{KeepsValue}
use Rattle.sd_forms.proofs.Places.{place_of-tree}

-- each form has the number of the value in its place
abbrev Agree : (ℕ → ℤ) → List Form → List Value → Type 0
Agree x [] [] = Unit {0}
Agree x [] (w ∷ ws) = ⊥
Agree x (f ∷ fs) [] = ⊥
Agree x (f ∷ fs) (w ∷ ws) = (value_at x f ≡ number_of w) × Agree x fs ws

agree-snoc : (x : ℕ → ℤ) (fs : List Form) (ws : List Value) (f : Form) (w : Value) → Agree x fs ws → value_at x f ≡ number_of w → Agree x (fs ++ f ∷ []) (ws ++ w ∷ [])
agree-snoc x [] [] f w a e = (e, tt)
agree-snoc x [] (v ∷ ws) f w a e = absurd a
agree-snoc x (g ∷ fs) [] f w a e = absurd a
agree-snoc x (g ∷ fs) (v ∷ ws) f w a e = (a.0, agree-snoc x fs ws f w a.1 e)

agree-at : (x : ℕ → ℤ) (fs : List Form) (ws : List Value) (k : ℕ) → Agree x fs ws → value_at x (form_at fs k) ≡ number_of (value_in ws k)
agree-at x [] [] k a = refl
agree-at x [] (w ∷ ws) k a = absurd a
agree-at x (f ∷ fs) [] k a = absurd a
agree-at x (f ∷ fs) (w ∷ ws) zero a = a.0
agree-at x (f ∷ fs) (w ∷ ws) (suc k) a = agree-at x fs ws k a.1

negative : (a : ℤ) → negsuc 0 *ℤ a ≡ pos 0 -ℤ a
negative a = omega (arith, ints)

-- the form of a head, from forms that have the values of the parts
form_by-value : (v : Valuation) (x : ℕ → ℤ) (h : Head) (ss : List Sort) (k : ℕ) (fs : List Form) (ws : List Value) → Agree x fs ws
    → x k ≡ number_of (apply v h (sort_by h ss) ws) → value_at x (form_by h k fs) ≡ number_of (apply v h (sort_by h ss) ws)
form_by-value v x (Num n) ss k fs ws a e = value_at-bounded x k (constant (pos n)) (pos n) e (value_at-number x (pos n))
form_by-value v x Add ss k fs ws a e =
    value_at-bounded x k (plus (form_at fs 0) (form_at fs 1)) (number_of (value_in ws 0) +ℤ number_of (value_in ws 1)) e
    (value_at-plus x (form_at fs 0) (form_at fs 1) ∙ (λ i. agree-at x fs ws 0 a i +ℤ agree-at x fs ws 1 a i))
form_by-value v x Sub ss k fs ws a e =
    value_at-bounded x k (less (form_at fs 0) (form_at fs 1)) (number_of (value_in ws 0) -ℤ number_of (value_in ws 1)) e
    (value_at-less x (form_at fs 0) (form_at fs 1) ∙ (λ i. agree-at x fs ws 0 a i -ℤ agree-at x fs ws 1 a i))
form_by-value v x Neg ss k fs ws a e =
    value_at-bounded x k (scaled (negsuc 0) (form_at fs 0)) (pos 0 -ℤ number_of (value_in ws 0)) e
    (value_at-scaled x (negsuc 0) (form_at fs 0) ∙ ap (λ (z : ℤ). negsuc 0 *ℤ z) (agree-at x fs ws 0 a) ∙ negative (number_of (value_in ws 0)))
form_by-value v x Mul ss k fs ws a e =
    let both : value_at x (form_at fs 0) *ℤ value_at x (form_at fs 1) ≡ number_of (value_in ws 0) *ℤ number_of (value_in ws 1) = λ i. agree-at x fs ws 0 a i *ℤ agree-at x fs ws 1 a i in
    value_at-product x k (form_at fs 0) (form_at fs 1) (e ∙ sym both) ∙ both
form_by-value v x _ ss k fs ws a e = value_at-column x k ∙ e

-- the value of a tree's column
column-value : (v : Valuation) (terms : List Tree) (t : Tree) → has terms t ≡ true → columns_under v terms (place_of terms t) ≡ number_of (value v t)
column-value v terms t e = ap (λ u. number_of (value v u)) (place_of-tree terms t e)

parts-agree : (v : Valuation) (terms : List Tree) (t : Tree) → AllIn terms (below t) → Agree (columns_under v terms) (at_parts (λ u fs. form_by (head_of u) (place_of terms u) fs) t) (values v t)
parts-agree v terms (leaf h) a = tt
parts-agree v terms (call f x) a =
    let left : AllIn terms (below f) = AllIn-left terms (below f) (below x ++ x ∷ []) a in
    let right : AllIn terms (below x ++ x ∷ []) = AllIn-right terms (below f) (below x ++ x ∷ []) a in
    let under : AllIn terms (below x) = AllIn-left terms (below x) (x ∷ []) right in
    let here : has terms x ≡ true = (AllIn-right terms (below x) (x ∷ []) right).0 in
    agree-snoc (columns_under v terms) (at_parts (λ u fs. form_by (head_of u) (place_of terms u) fs) f) (values v f) (form_of terms x) (value v x) (parts-agree v terms f left)
    (form_by-value v (columns_under v terms) (head_of x) (sorts_of x) (place_of terms x) (at_parts (λ u fs. form_by (head_of u) (place_of terms u) fs) x) (values v x) (parts-agree v terms x under)
    (column-value v terms x here))

-- the form of a tree whose subterms are among the terms
pub form_of-number : (v : Valuation) (terms : List Tree) (t : Tree) → AllIn terms (subterms t) → value_at (columns_under v terms) (form_of terms t) ≡ number_of (value v t)
form_of-number v terms t a =
    let under : AllIn terms (below t) = AllIn-left terms (below t) (t ∷ []) a in
    let here : has terms t ≡ true = (AllIn-right terms (below t) (t ∷ []) a).0 in
    form_by-value v (columns_under v terms) (head_of t) (sorts_of t) (place_of terms t) (at_parts (λ u fs. form_by (head_of u) (place_of terms u) fs) t) (values v t) (parts-agree v terms t under)
    (column-value v terms t here)

int-value : (w : Value) (s : Sort) → s ≡ Int → HasSort s w → w ≡ Number (number_of w)
int-value w s e h = go w (subst (λ r. HasSort r w) e h)
  where
    go : (w : Value) → HasSort Int w → w ≡ Number (number_of w)
    go (Number a) h = refl
    go (Truth b) h = absurd h
    go (Element t n) h = absurd h
    go (Map d es) h = absurd h

-- an integer term has the number of its form as its value
pub form_of-value : (terms : List Tree) (t : Tree) → IsClosed terms → has terms t ≡ true → KeepsValue terms t (form_of terms t)
form_of-value terms t c h v s = int-value (value v t) (sort_of t) s (value-sorted v t) ∙ ap Number (sym (form_of-number v terms t (c t h)))
