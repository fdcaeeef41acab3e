-- what a step needed, where it left branches
use Rattle.std.proofs.Common.{◌≡◌, ℕ, List, [], ◌∷◌, ◌++◌, refl, Bool, true, false, not, ◌&&◌, ◌||◌, Option, Some, None, take, slice_get}
use Rattle.std.specs.List.{list_all}
use Rattle.sd_term.specs.Tree.{Tree, tree}
use Rattle.sd_term.specs.Numbering.{has}
use Rattle.sd_term.specs.Sorts.{is_truth_sort, sort_of}
use Rattle.sd_kernel.specs.declared.step.NodeLine.{NodeLine}
use Rattle.sd_kernel.specs.declared.step.Step.TheVariants.{Split, Close, Term, Order, Ite as ChooseBranch, Chain}
use Rattle.sd_kernel.specs.declared.step.StepCause.{StepCause}
use Rattle.sd_kernel.specs.declared.step.StepCause.TheVariants.{Shape, Known, Value as Value'}
use Rattle.sd_kernel.specs.Known.{Fact, Trail, known, known_by_parts, is_known, has_fact}
use Rattle.sd_kernel.specs.Steps.{Outcome, leaves, named, needs, adds, outcome, fits, line_head, first_part, second_part, numbers_next, are_orders_of, is_choice_of, is_chosen, all_at, is_chain}

pub named-leaves : {A : Type 0} (o : Option A) (f : A → Outcome) (m : List Tree) (bs : List Trail) → named o f ≡ leaves m bs → (x : A) × (o ≡ Some x) × (f x ≡ leaves m bs)
named-leaves None f m bs e = cc
named-leaves (Some x) f m bs e = (x, refl, e)

pub needs-leaves : (t : Bool) (c : StepCause) (o : Outcome) (m : List Tree) (bs : List Trail) → needs t c o ≡ leaves m bs → (t ≡ true) × (o ≡ leaves m bs)
needs-leaves true c o m bs e = (refl, e)
needs-leaves false c o m bs e = cc

pub left-terms : (ts mid : List Tree) (bs branches : List Trail) → leaves ts bs ≡ leaves mid branches → ts ≡ mid
left-terms ts mid bs branches e = cc

pub left-branches : (ts mid : List Tree) (bs branches : List Trail) → leaves ts bs ≡ leaves mid branches → bs ≡ branches
left-branches ts mid bs branches e = cc

-- the terms stay, and the branch has one more fact
pub record Adds (terms : List Tree) (trail : Trail) (t : Tree) (b : Bool) (mid : List Tree) (branches : List Trail) : Type 0 where
  pub same : terms ≡ mid
  pub one : (trail ++ (t, b) ∷ []) ∷ [] ≡ branches

added-fact : (terms : List Tree) (trail : Trail) (t : Tree) (b : Bool) (mid : List Tree) (branches : List Trail) → adds terms trail t b ≡ leaves mid branches → Adds terms trail t b mid branches
added-fact terms trail t b mid branches e = record {
  same = left-terms terms mid ((trail ++ (t, b) ∷ []) ∷ []) branches e;
  one = left-branches terms mid ((trail ++ (t, b) ∷ []) ∷ []) branches e;
}

pub record TermNeeds (terms : List Tree) (trail : Trail) (line : NodeLine) (mid : List Tree) (branches : List Trail) : Type 0 where
  pub a : Tree
  pub b : Tree
  pub a_at : slice_get terms (first_part line) ≡ Some a
  pub b_at : slice_get terms (second_part line) ≡ Some b
  pub sorts : fits line (sort_of a) (sort_of b) ≡ true
  pub grown : terms ++ tree (line_head line) (a ∷ b ∷ []) ∷ [] ≡ mid
  pub one : trail ∷ [] ≡ branches

pub record SplitNeeds (terms : List Tree) (trail : Trail) (n : ℕ) (mid : List Tree) (branches : List Trail) : Type 0 where
  pub t : Tree
  pub t_at : slice_get terms n ≡ Some t
  pub truth : is_truth_sort (sort_of t) ≡ true
  pub same : terms ≡ mid
  pub two : (trail ++ (t, true) ∷ []) ∷ (trail ++ (t, false) ∷ []) ∷ [] ≡ branches

pub record OrderNeeds (terms : List Tree) (trail : Trail) (e l r : ℕ) (mid : List Tree) (branches : List Trail) : Type 0 where
  pub t : Tree
  pub p : Tree
  pub q : Tree
  pub t_at : slice_get terms e ≡ Some t
  pub p_at : slice_get terms l ≡ Some p
  pub q_at : slice_get terms r ≡ Some q
  pub orders : are_orders_of t p q ≡ true
  pub values : is_known (known trail t) false && is_known (known trail p) true ≡ true
  pub more : Adds terms trail q false mid branches

pub record IteNeeds (terms : List Tree) (trail : Trail) (n e : ℕ) (mid : List Tree) (branches : List Trail) : Type 0 where
  pub t : Tree
  pub u : Tree
  pub t_at : slice_get terms n ≡ Some t
  pub u_at : slice_get terms e ≡ Some u
  pub choice : is_choice_of t u ≡ true
  pub chosen : is_chosen trail t u ≡ true
  pub more : Adds terms trail u true mid branches

pub record ChainNeeds (terms : List Tree) (trail : Trail) (e : ℕ) (fs : List ℕ) (mid : List Tree) (branches : List Trail) : Type 0 where
  pub t : Tree
  pub ts : List Tree
  pub t_at : slice_get terms e ≡ Some t
  pub ts_at : all_at terms fs ≡ Some ts
  pub chain : is_chain t ts ≡ true
  pub values : list_all (λ u. is_known (known trail u) true) ts ≡ true
  pub more : Adds terms trail t true mid branches

pub record CloseNeeds (terms : List Tree) (trail : Trail) (k : ℕ) (mid : List Tree) (branches : List Trail) : Type 0 where
  pub f : Fact
  pub f_at : slice_get trail k ≡ Some f
  pub opposite : is_known (known_by_parts trail f.0) (not f.1) || has_fact (take k trail) f.0 (not f.1) ≡ true
  pub same : terms ≡ mid
  pub nothing : [] ≡ branches

module _ (terms : List Tree) (trail : Trail) where
  -- what is left to do once the numbers name terms
  abbrev pub after_term : NodeLine → Tree → Tree → Outcome
  after_term line a b = needs (fits line (sort_of a) (sort_of b)) Shape (numbers_next terms trail (tree (line_head line) (a ∷ b ∷ [])))

  abbrev pub after_split : Tree → Outcome
  after_split t = needs (is_truth_sort (sort_of t)) Shape (leaves terms ((trail ++ (t, true) ∷ []) ∷ (trail ++ (t, false) ∷ []) ∷ []))

  abbrev pub after_order : Tree → Tree → Tree → Outcome
  after_order t p q = needs (are_orders_of t p q) Shape (needs (is_known (known trail t) false && is_known (known trail p) true) Value' (adds terms trail q false))

  abbrev pub after_ite : Tree → Tree → Outcome
  after_ite a b = needs (is_choice_of a b) Shape (needs (is_chosen trail a b) Value' (adds terms trail b true))

  abbrev pub after_chain : Tree → List Tree → Outcome
  after_chain t ts = needs (is_chain t ts) Shape (needs (list_all (λ u. is_known (known trail u) true) ts) Value' (adds terms trail t true))

  abbrev pub after_close : ℕ → Fact → Outcome
  after_close k f = needs (is_known (known_by_parts trail f.0) (not f.1) || has_fact (take k trail) f.0 (not f.1)) Value' (leaves terms [])

  module _ (mid : List Tree) (branches : List Trail) where
    pub term-needs : (line : NodeLine) → outcome terms trail (Term line) ≡ leaves mid branches → TermNeeds terms trail line mid branches
    term-needs line e =
        let one = named-leaves (slice_get terms (first_part line)) (λ a. named (slice_get terms (second_part line)) (after_term line a)) mid branches e in
        let two = named-leaves (slice_get terms (second_part line)) (after_term line one.0) mid branches one.2 in
        let t : Tree = tree (line_head line) (one.0 ∷ two.0 ∷ []) in
        let three = needs-leaves (fits line (sort_of one.0) (sort_of two.0)) Shape (numbers_next terms trail t) mid branches two.2 in
        let four = needs-leaves (not (has terms t)) Known (leaves (terms ++ t ∷ []) (trail ∷ [])) mid branches three.1 in
        record {
          a = one.0;
          b = two.0;
          a_at = one.1;
          b_at = two.1;
          sorts = three.0;
          grown = left-terms (terms ++ t ∷ []) mid (trail ∷ []) branches four.1;
          one = left-branches (terms ++ t ∷ []) mid (trail ∷ []) branches four.1;
        }

    pub split-needs : (n : ℕ) → outcome terms trail (Split n) ≡ leaves mid branches → SplitNeeds terms trail n mid branches
    split-needs n e =
        let one = named-leaves (slice_get terms n) after_split mid branches e in
        let both : List Trail = (trail ++ (one.0, true) ∷ []) ∷ (trail ++ (one.0, false) ∷ []) ∷ [] in
        let two = needs-leaves (is_truth_sort (sort_of one.0)) Shape (leaves terms both) mid branches one.2 in
        record { t = one.0; t_at = one.1; truth = two.0; same = left-terms terms mid both branches two.1; two = left-branches terms mid both branches two.1 }

    pub order-needs : (e l r : ℕ) → outcome terms trail (Order e l r) ≡ leaves mid branches → OrderNeeds terms trail e l r mid branches
    order-needs e l r h =
        let one = named-leaves (slice_get terms e) (λ t. named (slice_get terms l) (λ p. named (slice_get terms r) (after_order t p))) mid branches h in
        let two = named-leaves (slice_get terms l) (λ p. named (slice_get terms r) (after_order one.0 p)) mid branches one.2 in
        let three = named-leaves (slice_get terms r) (after_order one.0 two.0) mid branches two.2 in
        let rest : Outcome = needs (is_known (known trail one.0) false && is_known (known trail two.0) true) Value' (adds terms trail three.0 false) in
        let four = needs-leaves (are_orders_of one.0 two.0 three.0) Shape rest mid branches three.2 in
        let five = needs-leaves (is_known (known trail one.0) false && is_known (known trail two.0) true) Value' (adds terms trail three.0 false) mid branches four.1 in
        record {
          t = one.0;
          p = two.0;
          q = three.0;
          t_at = one.1;
          p_at = two.1;
          q_at = three.1;
          orders = four.0;
          values = five.0;
          more = added-fact terms trail three.0 false mid branches five.1;
        }

    pub ite-needs : (n e : ℕ) → outcome terms trail (ChooseBranch n e) ≡ leaves mid branches → IteNeeds terms trail n e mid branches
    ite-needs n e h =
        let one = named-leaves (slice_get terms n) (λ a. named (slice_get terms e) (after_ite a)) mid branches h in
        let two = named-leaves (slice_get terms e) (after_ite one.0) mid branches one.2 in
        let three = needs-leaves (is_choice_of one.0 two.0) Shape (needs (is_chosen trail one.0 two.0) Value' (adds terms trail two.0 true)) mid branches two.2 in
        let four = needs-leaves (is_chosen trail one.0 two.0) Value' (adds terms trail two.0 true) mid branches three.1 in
        record { t = one.0; u = two.0; t_at = one.1; u_at = two.1; choice = three.0; chosen = four.0; more = added-fact terms trail two.0 true mid branches four.1 }

    pub chain-needs : (e : ℕ) (fs : List ℕ) → outcome terms trail (Chain e fs) ≡ leaves mid branches → ChainNeeds terms trail e fs mid branches
    chain-needs e fs h =
        let one = named-leaves (slice_get terms e) (λ t. named (all_at terms fs) (after_chain t)) mid branches h in
        let two = named-leaves (all_at terms fs) (after_chain one.0) mid branches one.2 in
        let all : Bool = list_all (λ u. is_known (known trail u) true) two.0 in
        let three = needs-leaves (is_chain one.0 two.0) Shape (needs all Value' (adds terms trail one.0 true)) mid branches two.2 in
        let four = needs-leaves all Value' (adds terms trail one.0 true) mid branches three.1 in
        record { t = one.0; ts = two.0; t_at = one.1; ts_at = two.1; chain = three.0; values = four.0; more = added-fact terms trail one.0 true mid branches four.1 }

    pub close-needs : (k : ℕ) → outcome terms trail (Close k) ≡ leaves mid branches → CloseNeeds terms trail k mid branches
    close-needs k e =
        let one = named-leaves (slice_get trail k) (after_close k) mid branches e in
        let two = needs-leaves (is_known (known_by_parts trail one.0.0) (not one.0.1) || has_fact (take k trail) one.0.0 (not one.0.1)) Value' (leaves terms []) mid branches one.2 in
        record { f = one.0; f_at = one.1; opposite = two.0; same = left-terms terms mid [] branches two.1; nothing = left-branches terms mid [] branches two.1 }
