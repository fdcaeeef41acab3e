-- a false equality of integers and its two orders
use Rattle.std.proofs.Common.{◌≡◌, ℕ, ◌<◌, List, length, get_or, refl, sym, ap, ◌∙◌, subst, Bool, true, false, ◌&&◌, inl, inr, Option, Some, None}
use Rattle.std.proofs.lemmas.Bool.{not-false}
use Rattle.sd_kernel.specs.declared.step.Step.TheVariants.{Split, Term, Order}
use Rattle.sd_kernel.specs.declared.step.NodeLine.TheVariants.{Le as LeLine}
use Rattle.sd_term.specs.Tree.{Tree}
use Rattle.sd_term.specs.Bank.{tree_at}
use Rattle.sd_term.specs.Numbering.{has}
use Rattle.sd_term.specs.Sorts.{sort_of, IsWellSorted}
use Rattle.sd_forms.specs.FactRows.{part_at, is_int_sort, is_int_eq}
use Rattle.sd_kernel.specs.Known.{Trail, known, has_fact}
use Rattle.sd_kernel.specs.Steps.{is_eq}
use Rattle.sd_cube.specs.Required.{IsThere, IsRequired, order as asks_order, back as asks_back, eq_tree, le_tree, order_of, order_back}
use Rattle.sd_term.proofs.Numbers.{has-at}
use Rattle.sd_euf.specs.declared.find.Pair.{Pair}
use Rattle.sd_euf.specs.declared.find.Standing.{Standing}
use Rattle.sd_euf.specs.declared.find.Standing.TheVariants.{Absent, Unknown, Known}
use Rattle.sd_euf.specs.Judged.{HasValues, Breaks, Asks, Stands, AtEquality, OrderHolds, is_false_standing}
use Rattle.sd_euf.proofs.Shapes.{IsEqForm, eq-form, tree-got, value-at}
use Rattle.sd_euf.proofs.Outcomes.{plain-le, closes_branch, le-outcome, order-outcome}
use Rattle.sd_kernel.proofs.Lookups.{sorted-at}

-- no pair of sides, no equality
pub no-int-eq : (t : Tree) → IsWellSorted t → ((x y : Tree) → t ≡ eq_tree x y → ⊥) → is_int_eq t ≡ false
no-int-eq t w n = go (is_eq t) refl
  where
    go : (b : Bool) → is_eq t ≡ b → is_int_eq t ≡ false
    go false e = ap (λ x. x && is_int_sort (sort_of (part_at t 0))) e
    go true e = absurd (n (part_at t 0) (part_at t 1) (eq-form t w e).is)

-- a term that isn't false has another value
pub known-true : (n : ℕ) (b : Bool) (s : Standing) → s ≡ Known n b → is_false_standing s ≡ false → b ≡ true
known-true n b s e h = not-false b (ap is_false_standing (sym e) ∙ h)

module _ (terms : List Tree) (values : List (Option Bool)) (id : ℕ) (sides : Pair) (h : AtEquality terms values id sides) where
  abbrev whole : Tree
  whole = tree_at terms id

  abbrev left : Tree
  left = tree_at terms sides.left

  abbrev right : Tree
  right = tree_at terms sides.right

  is-int : is_int_eq whole ≡ true
  is-int = ap is_int_eq h.pair.is ∙ h.int

  int-right : is_int_sort (sort_of right) ≡ true
  int-right =
      let form : IsEqForm (eq_tree left right) = eq-form (eq_tree left right) (subst IsWellSorted h.pair.is (sorted-at terms id h.sorted h.below)) refl in
      ap is_int_sort (sym form.sorts) ∙ h.int

  order-is : le_tree left right ≡ order_of whole
  order-is = sym (ap order_of h.pair.is)

  back-is : le_tree right left ≡ order_back whole
  back-is = sym (ap order_back h.pair.is)

  here : has terms whole ≡ true
  here = has-at terms whole id h.below refl

  false-here : (trail : Trail) → HasValues terms trail values → known trail whole ≡ Some false
  false-here trail e = sym (value-at terms trail values id e h.below) ∙ h.value

  -- a term that isn't there and false
  abbrev IsOpen : Tree → Type 0
  IsOpen t = (s : Standing) × Stands terms values t s × (is_false_standing s ≡ false)

  not-there : (t u : Tree) → t ≡ u → (s : Standing) → Stands terms values t s → is_false_standing s ≡ false → (trail : Trail) → HasValues terms trail values → IsThere terms trail u false → ⊥
  not-there t u e Absent s o trail v i =
      let f : false ≡ true = sym s ∙ ap (has terms) e ∙ i.0 in
      cc
  not-there t u e (Unknown n) s o trail v i =
      let f : None ≡ Some false = sym s.2 ∙ value-at terms trail values n v s.0 ∙ ap (known trail) (s.1 ∙ e) ∙ i.1 in
      cc
  not-there t u e (Known n true) s o trail v i =
      let f : Some true ≡ Some false = sym s.2 ∙ value-at terms trail values n v s.0 ∙ ap (known trail) (s.1 ∙ e) ∙ i.1 in
      cc
  not-there t u e (Known n false) s o trail v i =
      let f : true ≡ false = o in
      cc

  required : IsOpen (le_tree right left) → (trail : Trail) → HasValues terms trail values → IsRequired terms trail (le_tree left right)
  required o trail e =
      subst (IsRequired terms trail) (sym order-is) (asks_order whole here is-int (false-here trail e) (not-there (le_tree right left) (order_back whole) back-is o.0 o.1 o.2 trail e))

  required-back : IsOpen (le_tree left right) → (trail : Trail) → HasValues terms trail values → IsRequired terms trail (le_tree right left)
  required-back o trail e =
      subst (IsRequired terms trail) (sym back-is) (asks_back whole here is-int (false-here trail e) (not-there (le_tree left right) (order_of whole) order-is o.0 o.1 o.2 trail e))

  there : (t u : Tree) (n : ℕ) (b : Bool) → t ≡ u → n < length terms → tree_at terms n ≡ t → get_or values n None ≡ Some b → (trail : Trail) → HasValues terms trail values → IsThere terms trail u b
  there t u n b e lt is k trail v = (has-at terms u n lt (is ∙ e), ap (known trail) (sym (is ∙ e)) ∙ sym (value-at terms trail values n v lt) ∙ k)

  pub order-false : (s : Standing) → Stands terms values (le_tree left right) s → is_false_standing s ≡ true → (trail : Trail) → HasValues terms trail values → OrderHolds terms whole trail
  order-false (Known n false) s e trail v = λ i k. inl (there (le_tree left right) (order_of whole) n false order-is s.0 s.1 s.2 trail v)
  order-false (Known n true) s e trail v = let f : false ≡ true = e in cc
  order-false _ s e trail v = let f : false ≡ true = e in cc

  pub back-false : (s : Standing) → Stands terms values (le_tree right left) s → is_false_standing s ≡ true → (trail : Trail) → HasValues terms trail values → OrderHolds terms whole trail
  back-false (Known n false) s e trail v = λ i k. inr (there (le_tree right left) (order_back whole) n false back-is s.0 s.1 s.2 trail v)
  back-false (Known n true) s e trail v = let f : false ≡ true = e in cc
  back-false _ s e trail v = let f : false ≡ true = e in cc

  pub order-unknown : (n : ℕ) → n < length terms → tree_at terms n ≡ le_tree left right → get_or values n None ≡ None → IsOpen (le_tree right left) → Asks terms values (Split n)
  order-unknown n lt is k o trail v = (lt, subst (IsRequired terms trail) (sym is) (required o trail v), sym (value-at terms trail values n v lt) ∙ k)

  pub back-unknown : (n : ℕ) → n < length terms → tree_at terms n ≡ le_tree right left → get_or values n None ≡ None → IsOpen (le_tree left right) → Asks terms values (Split n)
  back-unknown n lt is k o trail v = (lt, subst (IsRequired terms trail) (sym is) (required-back o trail v), sym (value-at terms trail values n v lt) ∙ k)

  pub order-absent : has terms (le_tree left right) ≡ false → IsOpen (le_tree right left) → Asks terms values (Term (LeLine sides.left sides.right))
  order-absent a o trail v =
      (le_tree left right, required o trail v, le-outcome terms trail sides.left sides.right left right (tree-got terms sides.left h.pair.left) (tree-got terms sides.right h.pair.right) h.int int-right a)

  pub back-absent : has terms (le_tree right left) ≡ false → IsOpen (le_tree left right) → Asks terms values (Term (LeLine sides.right sides.left))
  back-absent a o trail v =
      (le_tree right left, required-back o trail v, le-outcome terms trail sides.right sides.left right left (tree-got terms sides.right h.pair.right) (tree-got terms sides.left h.pair.left) int-right h.int a)

  pub both-true : (l r : ℕ) → l < length terms → tree_at terms l ≡ le_tree left right → get_or values l None ≡ Some true → r < length terms → tree_at terms r ≡ le_tree right left → get_or values r None ≡ Some true
      → Breaks terms values (Order id l r)
  both-true l r bl il kl br ir kr trail v =
      let y : Tree = tree_at terms l in
      let z : Tree = tree_at terms r in
      let known-left : known trail y ≡ Some true = sym (value-at terms trail values l v bl) ∙ kl in
      let known-right : known trail (le_tree right left) ≡ Some true = ap (known trail) (sym ir) ∙ sym (value-at terms trail values r v br) ∙ kr in
      closes_branch terms trail z false (Order id l r)
      (order-outcome terms trail id l r whole y z (tree-got terms id h.below) (tree-got terms l bl) (tree-got terms r br) is-int (il ∙ order-is) (ir ∙ back-is) (false-here trail v) known-left)
      (subst (λ u. has_fact trail u true ≡ true) (sym ir) (plain-le trail right left true known-right))
