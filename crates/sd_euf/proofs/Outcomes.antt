-- what the steps make of a branch where their tests pass
use Rattle.std.proofs.Common.{◌≡◌, ℕ, List, [], ◌∷◌, ◌++◌, length, refl, sym, ap, ◌∙◌, Bool, true, false, not, ◌&&◌, ◌||◌, cond, Option, Some, None, unwrap_or, take, slice_get}
use Rattle.std.specs.List.{list_all}
use Rattle.std.proofs.lemmas.List.{take_at}
use Rattle.sd_kernel.specs.declared.step.Step.{Step}
use Rattle.sd_kernel.specs.declared.step.Step.TheVariants.{Close, Term, Order, Ite as ChooseBranch, Chain}
use Rattle.sd_kernel.specs.declared.step.NodeLine.TheVariants.{Eq as EqLine, Le as LeLine}
use Rattle.sd_kernel.specs.declared.step.StepCause.TheVariants.{Shape, Value, Known}
use Rattle.sd_term.specs.Tree.{Tree, head_of, same_tree, same_tree-self}
use Rattle.sd_term.specs.Numbering.{has}
use Rattle.sd_term.specs.Sorts.{sort_of, same_sort, same_sort-self, is_truth_sort}
use Rattle.sd_term.specs.Truth.{same_bool}
use Rattle.sd_forms.specs.FactRows.{part_at, is_int_sort, is_int_eq}
use Rattle.sd_kernel.specs.Known.{Fact, Trail, known, known_by_parts, is_known, has_fact, first_fact, iff3}
use Rattle.sd_kernel.specs.Steps.{leaves, named, needs, adds, outcome, numbers_next, is_ite_head, is_eq_of, is_le_of, is_choice_of, is_chosen, chosen_part, are_orders_of, is_chain, all_at}
use Rattle.sd_cube.specs.Required.{eq_tree, le_tree, choice_eq, order_of, order_back}
use Rattle.sd_cube.specs.Spent.{ClosesBranch}

pub or-true : (b : Bool) → b || true ≡ true
or-true true = refl
or-true false = refl

same_bool-self : (b : Bool) → same_bool b b ≡ true
same_bool-self true = refl
same_bool-self false = refl

-- ---- facts

-- the first fact on a term is a fact on it
pub has-first : (trail : Trail) (t : Tree) (b : Bool) → first_fact trail t ≡ Some b → has_fact trail t b ≡ true
has-first [] t b e = cc
has-first (f ∷ fs) t b e = go (same_tree f.0 t) e (has-first fs t b)
  where
    go : (s : Bool) → cond s (Some f.1) (first_fact fs t) ≡ Some b → (first_fact fs t ≡ Some b → has_fact fs t b ≡ true) → (s && same_bool f.1 b) || has_fact fs t b ≡ true
    go true q h = let g : f.1 ≡ b = cc in ap (λ x. same_bool x b || has_fact fs t b) g ∙ ap (λ x. x || has_fact fs t b) (same_bool-self b)
    go false q h = h q

-- an equality that isn't judged by its parts has the value of a fact
pub plain-eq : (trail : Trail) (a b : Tree) (v : Bool) → is_truth_sort (sort_of a) ≡ false → known trail (eq_tree a b) ≡ Some v → has_fact trail (eq_tree a b) v ≡ true
plain-eq trail a b v p e = has-first trail (eq_tree a b) v (sym (ap (λ s. unwrap_or (cond s (Some (iff3 (known trail a) (known trail b))) None) (first_fact trail (eq_tree a b))) p) ∙ e)

pub plain-le : (trail : Trail) (a b : Tree) (v : Bool) → known trail (le_tree a b) ≡ Some v → has_fact trail (le_tree a b) v ≡ true
plain-le trail a b v e = has-first trail (le_tree a b) v e

-- ---- closing

slice_get-last : {A : Type 0} (xs : List A) (x : A) → slice_get (xs ++ x ∷ []) (length xs) ≡ Some x
slice_get-last [] x = refl
slice_get-last (y ∷ xs) x = slice_get-last xs x

close-last : (terms : List Tree) (trail : Trail) (t : Tree) (b : Bool) → has_fact trail t (not b) ≡ true → outcome terms (trail ++ (t, b) ∷ []) (Close (length trail)) ≡ leaves terms []
close-last terms trail t b h =
    let more : Trail = trail ++ (t, b) ∷ [] in
    ap (λ o. named o (λ (f : Fact). needs (is_known (known_by_parts more f.0) (not f.1) || has_fact (take (length trail) more) f.0 (not f.1)) Value (leaves terms []))) (slice_get-last trail (t, b))
    ∙ ap (λ fs. needs (is_known (known_by_parts more t) (not b) || has_fact fs t (not b)) Value (leaves terms [])) (take_at trail ((t, b) ∷ []) (length trail) refl)
    ∙ ap (λ x. needs (is_known (known_by_parts more t) (not b) || x) Value (leaves terms [])) h
    ∙ ap (λ x. needs x Value (leaves terms [])) (or-true (is_known (known_by_parts more t) (not b)))

-- a new fact against an earlier one closes the branch
pub closes_branch : (terms : List Tree) (trail : Trail) (t : Tree) (b : Bool) (step : Step) → outcome terms trail step ≡ adds terms trail t b → has_fact trail t (not b) ≡ true → ClosesBranch terms trail (step ∷ Close (length trail) ∷ [])
closes_branch terms trail t b step e h = (trail ++ (t, b) ∷ [], e, close-last terms trail t b h)

-- ---- new terms

pub eq-outcome : (terms : List Tree) (trail : Trail) (a b : ℕ) (x y : Tree) → slice_get terms a ≡ Some x → slice_get terms b ≡ Some y → sort_of x ≡ sort_of y → has terms (eq_tree x y) ≡ false
    → outcome terms trail (Term (EqLine a b)) ≡ leaves (terms ++ eq_tree x y ∷ []) (trail ∷ [])
eq-outcome terms trail a b x y p q s h =
    ap (λ o. named o (λ u. named (slice_get terms b) (λ v. needs (same_sort (sort_of u) (sort_of v)) Shape (numbers_next terms trail (eq_tree u v))))) p
    ∙ ap (λ o. named o (λ v. needs (same_sort (sort_of x) (sort_of v)) Shape (numbers_next terms trail (eq_tree x v)))) q
    ∙ ap (λ r. needs r Shape (numbers_next terms trail (eq_tree x y))) (ap (λ r. same_sort (sort_of x) r) (sym s) ∙ same_sort-self (sort_of x))
    ∙ ap (λ r. needs (not r) Known (leaves (terms ++ eq_tree x y ∷ []) (trail ∷ []))) h

pub le-outcome : (terms : List Tree) (trail : Trail) (a b : ℕ) (x y : Tree) → slice_get terms a ≡ Some x → slice_get terms b ≡ Some y → is_int_sort (sort_of x) ≡ true → is_int_sort (sort_of y) ≡ true → has terms (le_tree x y) ≡ false
    → outcome terms trail (Term (LeLine a b)) ≡ leaves (terms ++ le_tree x y ∷ []) (trail ∷ [])
le-outcome terms trail a b x y p q s r h =
    ap (λ o. named o (λ u. named (slice_get terms b) (λ v. needs (is_int_sort (sort_of u) && is_int_sort (sort_of v)) Shape (numbers_next terms trail (le_tree u v))))) p
    ∙ ap (λ o. named o (λ v. needs (is_int_sort (sort_of x) && is_int_sort (sort_of v)) Shape (numbers_next terms trail (le_tree x v)))) q
    ∙ ap (λ w. needs (w && is_int_sort (sort_of y)) Shape (numbers_next terms trail (le_tree x y))) s
    ∙ ap (λ w. needs w Shape (numbers_next terms trail (le_tree x y))) r
    ∙ ap (λ w. needs (not w) Known (leaves (terms ++ le_tree x y ∷ []) (trail ∷ []))) h

-- ---- choices

pub choice-outcome : (terms : List Tree) (trail : Trail) (t e : ℕ) (x y : Tree) (v : Bool) → slice_get terms t ≡ Some x → slice_get terms e ≡ Some y → is_ite_head (head_of x) ≡ true → y ≡ choice_eq x v
    → known trail (part_at x 0) ≡ Some v → outcome terms trail (ChooseBranch t e) ≡ adds terms trail y true
choice-outcome terms trail t e x y v p q i is k =
    ap (λ o. named o (λ a. named (slice_get terms e) (λ b. needs (is_choice_of a b) Shape (needs (is_chosen trail a b) Value (adds terms trail b true))))) p
    ∙ ap (λ o. named o (λ b. needs (is_choice_of x b) Shape (needs (is_chosen trail x b) Value (adds terms trail b true)))) q
    ∙ ap (λ w. needs w Shape (needs (is_chosen trail x y) Value (adds terms trail y true))) (ap (λ w. w && (is_eq_of y x (part_at x 1) || is_eq_of y x (part_at x 2))) i ∙ one v same)
    ∙ ap (λ w. needs w Value (adds terms trail y true)) (ap (λ (o : Option Bool). elim o [ None ↦ false | Some b ↦ is_eq_of y x (chosen_part x b) ]) k ∙ same)
  where
    same : is_eq_of y x (chosen_part x v) ≡ true
    same = ap (λ u. same_tree u (choice_eq x v)) is ∙ same_tree-self (choice_eq x v)

    one : (b : Bool) → is_eq_of y x (chosen_part x b) ≡ true → is_eq_of y x (part_at x 1) || is_eq_of y x (part_at x 2) ≡ true
    one true h = ap (λ w. w || is_eq_of y x (part_at x 2)) h
    one false h = ap (λ w. is_eq_of y x (part_at x 1) || w) h ∙ or-true (is_eq_of y x (part_at x 1))

-- ---- orders

pub order-outcome : (terms : List Tree) (trail : Trail) (e l r : ℕ) (x y z : Tree) → slice_get terms e ≡ Some x → slice_get terms l ≡ Some y → slice_get terms r ≡ Some z → is_int_eq x ≡ true → y ≡ order_of x → z ≡ order_back x
    → known trail x ≡ Some false → known trail y ≡ Some true → outcome terms trail (Order e l r) ≡ adds terms trail z false
order-outcome terms trail e l r x y z p q o i is back kx ky =
    ap (λ n. named n (λ a. named (slice_get terms l) (λ b. named (slice_get terms r) (λ c. needs (are_orders_of a b c) Shape (needs (is_known (known trail a) false && is_known (known trail b) true) Value (adds terms trail c false)))))) p
    ∙ ap (λ n. named n (λ b. named (slice_get terms r) (λ c. needs (are_orders_of x b c) Shape (needs (is_known (known trail x) false && is_known (known trail b) true) Value (adds terms trail c false))))) q
    ∙ ap (λ n. named n (λ c. needs (are_orders_of x y c) Shape (needs (is_known (known trail x) false && is_known (known trail y) true) Value (adds terms trail c false)))) o
    ∙ ap (λ w. needs w Shape (needs (is_known (known trail x) false && is_known (known trail y) true) Value (adds terms trail z false))) orders
    ∙ ap (λ (n : Option Bool). needs (is_known n false && is_known (known trail y) true) Value (adds terms trail z false)) kx
    ∙ ap (λ (n : Option Bool). needs (is_known n true) Value (adds terms trail z false)) ky
  where
    orders : are_orders_of x y z ≡ true
    orders =
        ap (λ w. w && ((is_le_of y (part_at x 0) (part_at x 1) && is_le_of z (part_at x 1) (part_at x 0)) || (is_le_of y (part_at x 1) (part_at x 0) && is_le_of z (part_at x 0) (part_at x 1)))) i
        ∙ ap (λ w. (w && is_le_of z (part_at x 1) (part_at x 0)) || (is_le_of y (part_at x 1) (part_at x 0) && is_le_of z (part_at x 0) (part_at x 1))) (ap (λ u. same_tree u (order_of x)) is ∙ same_tree-self (order_of x))
        ∙ ap (λ w. w || (is_le_of y (part_at x 1) (part_at x 0) && is_le_of z (part_at x 0) (part_at x 1))) (ap (λ u. same_tree u (order_back x)) back ∙ same_tree-self (order_back x))

-- ---- chains

pub chain-outcome : (terms : List Tree) (trail : Trail) (e : ℕ) (ns : List ℕ) (x : Tree) (es : List Tree) → slice_get terms e ≡ Some x → all_at terms ns ≡ Some es → is_chain x es ≡ true
    → list_all (λ u. is_known (known trail u) true) es ≡ true → outcome terms trail (Chain e ns) ≡ adds terms trail x true
chain-outcome terms trail e ns x es p q c k =
    ap (λ n. named n (λ a. named (all_at terms ns) (λ us. needs (is_chain a us) Shape (needs (list_all (λ u. is_known (known trail u) true) us) Value (adds terms trail a true))))) p
    ∙ ap (λ n. named n (λ us. needs (is_chain x us) Shape (needs (list_all (λ u. is_known (known trail u) true) us) Value (adds terms trail x true)))) q
    ∙ ap (λ w. needs w Shape (needs (list_all (λ u. is_known (known trail u) true) es) Value (adds terms trail x true))) c
    ∙ ap (λ w. needs w Value (adds terms trail x true)) k
