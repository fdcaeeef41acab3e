-- each step covers: where the facts of a branch are true, so are those of one of the branches that it leaves
use Rattle.std.proofs.Common.{◌≡◌, ℕ, zero, suc, List, [], ◌∷◌, ◌++◌, refl, sym, ap, ◌∙◌, subst, Bool, true, false, not, ◌&&◌, ◌||◌, Option, Some, None, ◌⊎◌, inl, inr, take, slice_get}
use Rattle.std.specs.List.{list_all}
use Rattle.std.specs.Prelude.{if◌then◌else◌}
use Rattle.sd_base.specs.declared.sort.Sort.{Int}
use Rattle.sd_base.specs.Value.{Value, Truth as truth}
use Rattle.sd_base.specs.Meaning.{truth_of}
use Rattle.sd_term.specs.Heads.{Eq, Ite}
use Rattle.sd_term.specs.Tree.{Tree, head_of, same_tree, same_tree-true, and-left, and-right}
use Rattle.sd_term.specs.Numbering.{has, AllIn}
use Rattle.sd_term.specs.Sorts.{sort_of, IsWellSorted}
use Rattle.sd_term.specs.Truth.{same_bool, Valuation, value}
use Rattle.sd_term.proofs.Typed.{is-truth, is-truth-sort}
use Rattle.sd_forms.specs.FactRows.{part_at, is_eq_head, is_int_sort, is_int_eq}
use Rattle.sd_forms.specs.LinearForms.{columns_under}
use Rattle.sd_kernel.specs.declared.step.NodeLine.{NodeLine}
use Rattle.sd_kernel.specs.declared.step.RowLine.{RowLine}
use Rattle.sd_kernel.specs.declared.step.Step.{Step}
use Rattle.sd_kernel.specs.declared.step.Step.TheVariants.{Split, Close, Term, Order, Ite as ChooseBranch, Chain, Rows}
use Rattle.sd_kernel.specs.Known.{Fact, Trail, known, has_fact, known_by_parts, is_known}
use Rattle.sd_kernel.specs.Steps.{leaves, outcome, is_eq, is_eq_of, is_le_of, other_side, leads, is_nil, are_orders_of, is_ite_head, chosen_part, is_choice_of, is_chosen}
use Rattle.sd_kernel.proofs.Needs.{Adds, SplitNeeds, OrderNeeds, IteNeeds, ChainNeeds, CloseNeeds, term-needs, split-needs, order-needs, ite-needs, chain-needs, close-needs}
use Rattle.sd_kernel.proofs.Members.{or-cases, has-get, sorted-in, all-at-in, AreAbout}
use Rattle.sd_kernel.proofs.Grows.{AreTerms, is-int}
use Rattle.sd_kernel.proofs.RowLines.{refuted-unmet}
use Rattle.sd_kernel.proofs.FactRows.{facts-hold, eq-no-order}
use Rattle.sd_kernel.proofs.Says.{IsTrueFact, AllTrue, Says, known-says, known_by_parts-says, is_known-says, same_bool-true}
use Rattle.sd_kernel.proofs.Values.{eq-parts, is-eq-head, is-ite-head, eq-true, eq-holds, eq-false, eq_of-holds, ite-chooses, other-order}

abbrev pub AnyTrue : Valuation → List Trail → Type 0
AnyTrue v [] = ⊥
AnyTrue v (b ∷ bs) = AllTrue v b ⊎ AnyTrue v bs

pub true-at : (v : Valuation) (fs : Trail) (n : ℕ) (f : Fact) → AllTrue v fs → slice_get fs n ≡ Some f → IsTrueFact v f
true-at v [] n f a e = cc
true-at v (g ∷ fs) zero f a e = let h : g ≡ f = cc in subst (λ (x : Fact). IsTrueFact v x) h a.0
true-at v (g ∷ fs) (suc n) f a e = true-at v fs n f a.1 e

pub true-take : (v : Valuation) (fs : Trail) (n : ℕ) → AllTrue v fs → AllTrue v (take n fs)
true-take v [] zero a = tt
true-take v [] (suc n) a = tt
true-take v (f ∷ fs) zero a = tt
true-take v (f ∷ fs) (suc n) a = (a.0, true-take v fs n a.1)

pub true-snoc : (v : Valuation) (fs : Trail) (f : Fact) → AllTrue v fs → IsTrueFact v f → AllTrue v (fs ++ f ∷ [])
true-snoc v [] f a b = (b, tt)
true-snoc v (g ∷ fs) f a b = (a.0, true-snoc v fs f a.1 b)

pub has_fact-true : (v : Valuation) (fs : Trail) (t : Tree) (b : Bool) → AllTrue v fs → has_fact fs t b ≡ true → value v t ≡ truth b
has_fact-true v [] t b a e = let f : false ≡ true = e in cc
has_fact-true v (g ∷ fs) t b a e = go (or-cases (same_tree g.0 t && same_bool g.1 b) (has_fact fs t b) e) (λ h. has_fact-true v fs t b a.1 h)
  where
    go : (same_tree g.0 t && same_bool g.1 b ≡ true) ⊎ (has_fact fs t b ≡ true) → (has_fact fs t b ≡ true → value v t ≡ truth b) → value v t ≡ truth b
    go (inl h) more =
        subst (λ u. value v u ≡ truth b) (same_tree-true g.0 t (and-left (same_tree g.0 t) (same_bool g.1 b) h))
        (a.0 ∙ ap truth (same_bool-true g.1 b (and-right (same_tree g.0 t) (same_bool g.1 b) h)))
    go (inr h) more = more h

module _ (v : Valuation) (terms : List Tree) (w : AreTerms terms) (trail : Trail) (about : AreAbout terms trail) (a : AllTrue v trail) where
  -- a known value is the value
  known-true : (t : Tree) (b : Bool) → is_known (known trail t) b ≡ true → value v t ≡ truth b
  known-true t b h = is_known-says (known trail t) (value v t) b (known-says v trail a t) h

  well : (t : Tree) → has terms t ≡ true → IsWellSorted t
  well t h = sorted-in terms t w.sorted h

  module _ (mid : List Tree) (branches : List Trail) where
    adds-covers : (t : Tree) (b : Bool) → value v t ≡ truth b → Adds terms trail t b mid branches → AnyTrue v branches
    adds-covers t b h m = subst (AnyTrue v) m.one (inl (true-snoc v trail (t, b) a h))

    term-covers : (line : NodeLine) → outcome terms trail (Term line) ≡ leaves mid branches → AnyTrue v branches
    term-covers line e = subst (AnyTrue v) (term-needs terms trail mid branches line e).one (inl a)

    split-covers : (n : ℕ) → SplitNeeds terms trail n mid branches → AnyTrue v branches
    split-covers n k = subst (AnyTrue v) k.two (either (truth_of (value v k.t)) (is-truth v k.t (is-truth-sort (sort_of k.t) k.truth)))
      where
        either : (b : Bool) → value v k.t ≡ truth b → AnyTrue v ((trail ++ (k.t, true) ∷ []) ∷ (trail ++ (k.t, false) ∷ []) ∷ [])
        either true is = inl (true-snoc v trail (k.t, true) a is)
        either false is = inr (inl (true-snoc v trail (k.t, false) a is))

    -- ---- orders

    abbrev first_way : Tree → Tree → Tree → Bool
    first_way t p q = is_le_of p (part_at t 0) (part_at t 1) && is_le_of q (part_at t 1) (part_at t 0)

    abbrev second_way : Tree → Tree → Tree → Bool
    second_way t p q = is_le_of p (part_at t 1) (part_at t 0) && is_le_of q (part_at t 0) (part_at t 1)

    order-false : (t p q : Tree) → IsWellSorted t → are_orders_of t p q ≡ true → value v t ≡ truth false → value v p ≡ truth true → value v q ≡ truth false
    order-false t p q wt o tf pt = go (or-cases (first_way t p q) (second_way t p q) (and-right (is_int_eq t) (first_way t p q || second_way t p q) o))
      where
        int : is_int_eq t ≡ true
        int = and-left (is_int_eq t) (first_way t p q || second_way t p q) o

        head : head_of t ≡ Eq
        head = is-eq-head (head_of t) (and-left (is_eq_head (head_of t)) (is_int_sort (sort_of (part_at t 0))) int)

        first : sort_of (part_at t 0) ≡ Int
        first = is-int (sort_of (part_at t 0)) (and-right (is_eq_head (head_of t)) (is_int_sort (sort_of (part_at t 0))) int)

        second : sort_of (part_at t 1) ≡ Int
        second = sym (eq-parts t wt head).sorts ∙ first

        differ : value v (part_at t 0) ≡ value v (part_at t 1) → ⊥
        differ = eq-false v t wt head tf

        go : (first_way t p q ≡ true) ⊎ (second_way t p q ≡ true) → value v q ≡ truth false
        go (inl h) =
            other-order v (part_at t 0) (part_at t 1) p q first second differ
            (and-left (is_le_of p (part_at t 0) (part_at t 1)) (is_le_of q (part_at t 1) (part_at t 0)) h) (and-right (is_le_of p (part_at t 0) (part_at t 1)) (is_le_of q (part_at t 1) (part_at t 0)) h) pt
        go (inr h) =
            other-order v (part_at t 1) (part_at t 0) p q second first (λ e. differ (sym e))
            (and-left (is_le_of p (part_at t 1) (part_at t 0)) (is_le_of q (part_at t 0) (part_at t 1)) h) (and-right (is_le_of p (part_at t 1) (part_at t 0)) (is_le_of q (part_at t 0) (part_at t 1)) h) pt

    order-covers : (e l r : ℕ) → OrderNeeds terms trail e l r mid branches → AnyTrue v branches
    order-covers e l r n =
        let tf : value v n.t ≡ truth false = known-true n.t false (and-left (is_known (known trail n.t) false) (is_known (known trail n.p) true) n.values) in
        let pt : value v n.p ≡ truth true = known-true n.p true (and-right (is_known (known trail n.t) false) (is_known (known trail n.p) true) n.values) in
        adds-covers n.q false (order-false n.t n.p n.q (well n.t (has-get terms e n.t n.t_at)) n.orders tf pt) n.more

    -- ---- choices

    ite-true : (t u : Tree) → IsWellSorted t → is_choice_of t u ≡ true → is_chosen trail t u ≡ true → value v u ≡ truth true
    ite-true t u wt c h = go (known trail (part_at t 0)) (known-says v trail a (part_at t 0)) h
      where
        head : head_of t ≡ Ite
        head = is-ite-head (head_of t) (and-left (is_ite_head (head_of t)) (is_eq_of u t (part_at t 1) || is_eq_of u t (part_at t 2)) c)

        go : (o : Option Bool) → Says o (value v (part_at t 0)) → elim o as (λ _. Bool) [ None ↦ false | Some b ↦ is_eq_of u t (chosen_part t b) ] ≡ true → value v u ≡ truth true
        go None s f = let g : false ≡ true = f in cc
        go (Some b) s f = eq_of-holds v u t (chosen_part t b) f (ite-chooses v t b wt head s)

    ite-covers : (t e : ℕ) → IteNeeds terms trail t e mid branches → AnyTrue v branches
    ite-covers t e n = adds-covers n.u true (ite-true n.t n.u (well n.t (has-get terms t n.t n.t_at)) n.choice n.chosen) n.more

    -- ---- chains

    -- the other side of a true equality has the same value
    side-true : (e x y : Tree) → IsWellSorted e → is_eq e ≡ true → value v e ≡ truth true → other_side e x ≡ Some y → value v x ≡ value v y
    side-true e x y we q t o = go (same_tree (part_at e 0) x) (same_tree (part_at e 1) x) refl refl o
      where
        same : value v (part_at e 0) ≡ value v (part_at e 1)
        same = eq-true v e we (is-eq-head (head_of e) q) t

        go : (f g : Bool) → same_tree (part_at e 0) x ≡ f → same_tree (part_at e 1) x ≡ g → (if f then Some (part_at e 1) else (if g then Some (part_at e 0) else None)) ≡ Some y → value v x ≡ value v y
        go true g p r k = let h : part_at e 1 ≡ y = cc in ap (value v) (sym (same_tree-true (part_at e 0) x p)) ∙ same ∙ ap (value v) h
        go false true p r k = let h : part_at e 0 ≡ y = cc in ap (value v) (sym (same_tree-true (part_at e 1) x r)) ∙ sym same ∙ ap (value v) h
        go false false p r k = cc

    leads-same : (x : Tree) (es : List Tree) (z : Tree) → AllIn terms es → list_all (λ u. is_known (known trail u) true) es ≡ true → leads x es z ≡ true → value v x ≡ value v z
    leads-same x [] z i k l = ap (value v) (same_tree-true x z l)
    leads-same x (e ∷ es) z i k l =
        go (other_side e x) refl (and-right (is_eq e) (elim (other_side e x) as (λ _. Bool) [ None ↦ false | Some y ↦ leads y es z ]) l)
        (λ y h. leads-same y es z i.1 (and-right (is_known (known trail e) true) (list_all (λ u. is_known (known trail u) true) es) k) h)
      where
        step : (y : Tree) → other_side e x ≡ Some y → value v x ≡ value v y
        step y o =
            side-true e x y (well e i.0) (and-left (is_eq e) (elim (other_side e x) as (λ _. Bool) [ None ↦ false | Some y ↦ leads y es z ]) l)
            (known-true e true (and-left (is_known (known trail e) true) (list_all (λ u. is_known (known trail u) true) es) k)) o

        go : (o : Option Tree) → other_side e x ≡ o → elim o as (λ _. Bool) [ None ↦ false | Some y ↦ leads y es z ] ≡ true → ((y : Tree) → leads y es z ≡ true → value v y ≡ value v z) → value v x ≡ value v z
        go None p f ih = let g : false ≡ true = f in cc
        go (Some y) p f ih = step y p ∙ ih y f

    chain-covers : (e : ℕ) (fs : List ℕ) → ChainNeeds terms trail e fs mid branches → AnyTrue v branches
    chain-covers e fs n =
        let lead : Bool = leads (part_at n.t 0) n.ts (part_at n.t 1) in
        let once : Bool = is_nil n.ts || not (same_tree (part_at n.t 0) (part_at n.t 1)) in
        let front : is_eq n.t && lead ≡ true = and-left (is_eq n.t && lead) once n.chain in
        let head : head_of n.t ≡ Eq = is-eq-head (head_of n.t) (and-left (is_eq n.t) lead front) in
        let same : value v (part_at n.t 0) ≡ value v (part_at n.t 1) =
        leads-same (part_at n.t 0) n.ts (part_at n.t 1) (all-at-in terms fs n.ts n.ts_at) n.values (and-right (is_eq n.t) lead front) in
        adds-covers n.t true (eq-holds v n.t (well n.t (has-get terms e n.t n.t_at)) head same) n.more

    -- ---- closed branches

    opposite : (x : Value) (b : Bool) → x ≡ truth b → x ≡ truth (not b) → ⊥
    opposite x true p q = let e : truth true ≡ truth false = sym p ∙ q in cc
    opposite x false p q = let e : truth false ≡ truth true = sym p ∙ q in cc

    close-covers : (k : ℕ) → CloseNeeds terms trail k mid branches → AnyTrue v branches
    close-covers k n = absurd (go (or-cases (is_known (known_by_parts trail n.f.0) (not n.f.1)) (has_fact (take k trail) n.f.0 (not n.f.1)) n.opposite))
      where
        is : IsTrueFact v n.f
        is = true-at v trail k n.f a n.f_at

        go : (is_known (known_by_parts trail n.f.0) (not n.f.1) ≡ true) ⊎ (has_fact (take k trail) n.f.0 (not n.f.1) ≡ true) → ⊥
        go (inl h) = opposite (value v n.f.0) n.f.1 is (is_known-says (known_by_parts trail n.f.0) (value v n.f.0) (not n.f.1) (known_by_parts-says v trail a n.f.0) h)
        go (inr h) = opposite (value v n.f.0) n.f.1 is (has_fact-true v (take k trail) n.f.0 (not n.f.1) (true-take v trail k a) h)

    rows-covers : (lines : List RowLine) → outcome terms trail (Rows lines) ≡ leaves mid branches → AnyTrue v branches
    rows-covers lines e = absurd (refuted-unmet (columns_under v terms) terms trail (facts-hold v terms w trail about a) eq-no-order mid branches 1 [] lines tt e)

    -- every step covers: one line for each kind of step
    pub step-covers : (s : Step) → outcome terms trail s ≡ leaves mid branches → AnyTrue v branches
    step-covers (Term line) e = term-covers line e
    step-covers (Split n) e = split-covers n (split-needs terms trail mid branches n e)
    step-covers (Order e l r) h = order-covers e l r (order-needs terms trail mid branches e l r h)
    step-covers (ChooseBranch t e) h = ite-covers t e (ite-needs terms trail mid branches t e h)
    step-covers (Chain e fs) h = chain-covers e fs (chain-needs terms trail mid branches e fs h)
    step-covers (Close k) e = close-covers k (close-needs terms trail mid branches k e)
    step-covers (Rows lines) e = rows-covers lines e
