-- steps that are done one after another
use Rattle.std.proofs.Common.{◌≡◌, ℕ, ◌+◌, List, [], ◌∷◌, ◌++◌, refl, sym, ap, ◌∙◌, subst, append-nil, append_assoc, arith, Option, Some, None, slice_get, Bool, true, false, length, length-append}
use Rattle.std.specs.Prelude.{remove, if◌then◌else◌, not, ◌&&◌, suc}
use Rattle.std.specs.List.{list_all}
use Rattle.sd_kernel.specs.declared.step.Step.{Step}
use Rattle.sd_kernel.specs.declared.step.Step.TheVariants.{Split, Close, Term, Order, Ite as ChooseBranch, Chain, Rows}
use Rattle.sd_kernel.specs.declared.step.RowLine.{RowLine}
use Rattle.sd_kernel.specs.declared.step.StepCause.{StepCause}
use Rattle.sd_kernel.specs.declared.step.StepCause.TheVariants.{Shape, Known, Value as Value', Row as RowCause, Wide}
use Rattle.sd_kernel.specs.declared.step.Verdict.{Verdict}
use Rattle.sd_kernel.specs.declared.step.Verdict.TheVariants.{Accepted, Rejected}
use Rattle.sd_rows.specs.declared.row.Row.{Row}
use Rattle.sd_rows.specs.Rows.{is_within, is_absurd}
use Rattle.sd_kernel.specs.Known.{Fact, Trail, known, is_known}
use Rattle.sd_term.specs.Tree.{Tree, tree}
use Rattle.sd_term.specs.Numbering.{has}
use Rattle.sd_term.specs.Sorts.{is_truth_sort, sort_of}
use Rattle.sd_kernel.specs.Steps.{Outcome, bad, leaves, outcome, named, needs, adds, fits, line_head, first_part, second_part, numbers_next, are_orders_of, is_choice_of, is_chosen, all_at, is_chain, splits, is_contradicted, Made, made, wrong, row_of_line, if_within, gives_row, refuted_by}
use Rattle.sd_kernel.specs.Proof.{after, State, front, fails, continues, next, at_end, lines_of, judged}
use Rattle.sd_cube.specs.Spent.{ClosesBranch}
use Rattle.sd_search.specs.Outcome.{closing, closings}
use Rattle.sd_search.specs.Reading.{Reads, Continues, others, IsClosing}

-- ---- what has been read

pub reads-none : (s : State) (steps : List Step) → steps ≡ [] → Reads s steps s
reads-none s steps e = (0, λ rest. ap (λ l. judged s 0 (l ++ rest)) e)

pub reads-more : (s t t' : State) (xs : List Step) (x : Step) → Reads s xs t → next t x ≡ continues t' → Reads s (xs ++ x ∷ []) t'
reads-more s t t' xs x r e = (
  r.0 + lines_of x,
  λ rest.
      ap (λ l. judged s 0 l) (append_assoc xs (x ∷ []) rest) ∙ r.1 (x ∷ rest)
      ∙ ap (λ k. elim k as (λ _. Verdict) [ fails n c ↦ Rejected (r.0 + n) c | continues u ↦ judged u (r.0 + lines_of x) rest ]) e,
)

-- a closed walk has read a proof
pub reads-accepted : (s t : State) (xs : List Step) → Reads s xs t → ((t.1 ≡ [] → ⊥) → ⊥) → judged s 0 xs ≡ Accepted
reads-accepted s t xs r n = ap (λ l. judged s 0 l) (sym (append-nil xs)) ∙ r.1 [] ∙ closed t.1 n
  where
    closed : (bs : List Trail) → ((bs ≡ [] → ⊥) → ⊥) → at_end bs r.0 ≡ Accepted
    closed [] n = refl
    closed (b ∷ bs) n = absurd (n (λ e. cc))

-- ---- the first open branch

pub next-first : (s : State) (b : Trail) (bs : List Trail) (x : Step) → s.1 ≡ b ∷ bs → next s x ≡ after bs (outcome s.0 b x)
next-first s b bs x e = ap (λ (l : List Trail). next (s.0, l) x) e

pub front-first : (s : State) (b : Trail) (bs : List Trail) → s.1 ≡ b ∷ bs → front s ≡ b
front-first s b bs e = ap (λ (l : List Trail). front (s.0, l)) e

pub others-first : (s : State) (b : Trail) (bs : List Trail) → s.1 ≡ b ∷ bs → others s ≡ bs
others-first s b bs e = ap (λ (l : List Trail). others (s.0, l)) e

-- ---- steps that close it

module _ (terms : List Tree) (rest : List Trail) where
  pub closing-continues : (s : State) (x : Step) (xs : List Step) → IsClosing terms rest s (x ∷ xs) → Continues s x
  closing-continues s x xs h = go xs h.3
    where
      at : (o : Outcome) → outcome terms h.0 x ≡ o → next s x ≡ after rest o
      at o e = next-first s h.0 rest x h.2 ∙ ap (λ ts. after rest (outcome ts h.0 x)) h.1 ∙ ap (after rest) e

      go : (ys : List Step) → ClosesBranch terms h.0 (x ∷ ys) → Continues s x
      go [] k = ((terms, rest), at (leaves terms []) k)
      go (y ∷ ys) k = ((terms, k.0 ∷ rest), at (leaves terms (k.0 ∷ [])) k.1)

  pub closing-more : (s s' : State) (x : Step) (xs : List Step) → IsClosing terms rest s (x ∷ xs) → next s x ≡ continues s' → IsClosing terms rest s' xs
  closing-more s s' x xs h e = go xs h.3
    where
      at : (o : Outcome) → outcome terms h.0 x ≡ o → continues s' ≡ after rest o
      at o k = sym e ∙ next-first s h.0 rest x h.2 ∙ ap (λ ts. after rest (outcome ts h.0 x)) h.1 ∙ ap (after rest) k

      state : (t : State) → continues s' ≡ continues t → s' ≡ t
      state t k = cc

      go : (ys : List Step) → ClosesBranch terms h.0 (x ∷ ys) → IsClosing terms rest s' ys
      go [] k = let f : s' ≡ (terms, rest) = state (terms, rest) (at (leaves terms []) k) in (ap (λ (t : State). t.0) f, ap (λ (t : State). t.1) f)
      go (y ∷ ys) k =
          let f : s' ≡ (terms, k.0 ∷ rest) = state (terms, k.0 ∷ rest) (at (leaves terms (k.0 ∷ [])) k.1) in
          (k.0, ap (λ (t : State). t.0) f, ap (λ (t : State). t.1) f, k.2)

-- the first of a list
pub remove-first : (old new : List Step) (x : Step) → slice_get old 0 ≡ Some x → new ≡ remove old 0 → old ≡ x ∷ new
remove-first [] new x e f = cc
remove-first (y ∷ ys) new x e f = let g : y ≡ x = cc in λ i. g i ∷ sym f i

-- ---- how many of them close it

abbrev branches_of : Step → ℕ
branches_of (Split n) = 2
branches_of (Close k) = 0
branches_of (Rows lines) = 0
branches_of _ = 1

abbrev Leaves : ℕ → Outcome → Type 0
Leaves n (bad k c) = Unit {0}
Leaves n (leaves ts bs) = length bs ≡ n

leaves-named : {A : Type 0} (n : ℕ) (o : Option A) (f : A → Outcome) → ((x : A) → Leaves n (f x)) → Leaves n (named o f)
leaves-named n None f h = tt
leaves-named n (Some x) f h = h x

leaves-needs : (n : ℕ) (b : Bool) (c : StepCause) (o : Outcome) → Leaves n o → Leaves n (needs b c o)
leaves-needs n true c o h = h
leaves-needs n false c o h = tt

leaves-within : (n i : ℕ) (r : Row) (o : Outcome) → Leaves n o → Leaves n (if_within i r o)
leaves-within n i r o h = go (is_within r)
  where
    go : (b : Bool) → Leaves n (if b then o else bad i Wide)
    go true = h
    go false = tt

leaves-row : (n i : ℕ) (m : Made) (f : Row → Outcome) → ((r : Row) → Leaves n (f r)) → Leaves n (gives_row i m f)
leaves-row n i (wrong c) f h = tt
leaves-row n i (made r) f h = h r

leaves-rows : (terms : List Tree) (trail : Trail) (i : ℕ) (rows : List Row) (lines : List RowLine) → Leaves 0 (refuted_by terms trail i rows lines)
leaves-rows terms trail i rows [] = tt
leaves-rows terms trail i rows (l ∷ []) = leaves-row 0 i (row_of_line terms trail rows l) _ (λ r. go r (is_absurd r))
  where
    go : (r : Row) (b : Bool) → Leaves 0 (if b then if_within i r (leaves terms []) else bad i RowCause)
    go r true = leaves-within 0 i r (leaves terms []) refl
    go r false = tt
leaves-rows terms trail i rows (l ∷ k ∷ ls) =
    leaves-row 0 i (row_of_line terms trail rows l) _ (λ r. leaves-within 0 i r (refuted_by terms trail (suc i) (rows ++ r ∷ []) (k ∷ ls)) (leaves-rows terms trail (suc i) (rows ++ r ∷ []) (k ∷ ls)))

outcome-leaves : (terms : List Tree) (trail : Trail) (s : Step) → Leaves (branches_of s) (outcome terms trail s)
outcome-leaves terms trail (Term line) =
    leaves-named 1 (slice_get terms (first_part line)) _ (λ a. leaves-named 1 (slice_get terms (second_part line)) _ (λ b.
    leaves-needs 1 (fits line (sort_of a) (sort_of b)) Shape (numbers_next terms trail (tree (line_head line) (a ∷ b ∷ [])))
    (leaves-needs 1 (not (has terms (tree (line_head line) (a ∷ b ∷ [])))) Known (leaves (terms ++ tree (line_head line) (a ∷ b ∷ []) ∷ []) (trail ∷ [])) refl)))
outcome-leaves terms trail (Split n) =
    leaves-named 2 (slice_get terms n) _ (λ t. leaves-needs 2 (is_truth_sort (sort_of t)) Shape (splits terms trail t) refl)
outcome-leaves terms trail (Order e l r) =
    leaves-named 1 (slice_get terms e) _ (λ t. leaves-named 1 (slice_get terms l) _ (λ p. leaves-named 1 (slice_get terms r) _ (λ q.
    leaves-needs 1 (are_orders_of t p q) Shape (needs (is_known (known trail t) false && is_known (known trail p) true) Value' (adds terms trail q false))
    (leaves-needs 1 (is_known (known trail t) false && is_known (known trail p) true) Value' (adds terms trail q false) refl))))
outcome-leaves terms trail (ChooseBranch t e) =
    leaves-named 1 (slice_get terms t) _ (λ a. leaves-named 1 (slice_get terms e) _ (λ b.
    leaves-needs 1 (is_choice_of a b) Shape (needs (is_chosen trail a b) Value' (adds terms trail b true)) (leaves-needs 1 (is_chosen trail a b) Value' (adds terms trail b true) refl)))
outcome-leaves terms trail (Chain e fs) =
    leaves-named 1 (slice_get terms e) _ (λ t. leaves-named 1 (all_at terms fs) _ (λ ts.
    leaves-needs 1 (is_chain t ts) Shape (needs (list_all (λ u. is_known (known trail u) true) ts) Value' (adds terms trail t true))
    (leaves-needs 1 (list_all (λ u. is_known (known trail u) true) ts) Value' (adds terms trail t true) refl)))
outcome-leaves terms trail (Close k) =
    leaves-named 0 (slice_get trail k) _ (λ (f : Fact). leaves-needs 0 (is_contradicted trail k f) Value' (leaves terms []) refl)
outcome-leaves terms trail (Rows lines) = leaves-rows terms trail 1 [] lines

leaves-count : (terms mid : List Tree) (trail : Trail) (bs : List Trail) (s : Step) → outcome terms trail s ≡ leaves mid bs → length bs ≡ branches_of s
leaves-count terms mid trail bs s e = subst (Leaves (branches_of s)) e (outcome-leaves terms trail s)

closing-none : (s : Step) → 0 ≡ branches_of s → closing s ≡ 1
closing-none (Split n) e = absurd (omega (arith, e))
closing-none (Close k) e = refl
closing-none (Rows lines) e = refl
closing-none (Term line) e = absurd (omega (arith, e))
closing-none (Order a l r) e = absurd (omega (arith, e))
closing-none (ChooseBranch t a) e = absurd (omega (arith, e))
closing-none (Chain a fs) e = absurd (omega (arith, e))

closing-one : (s : Step) → 1 ≡ branches_of s → closing s ≡ 0
closing-one (Split n) e = refl
closing-one (Close k) e = absurd (omega (arith, e))
closing-one (Rows lines) e = absurd (omega (arith, e))
closing-one (Term line) e = refl
closing-one (Order a l r) e = refl
closing-one (ChooseBranch t a) e = refl
closing-one (Chain a fs) e = refl

-- steps that close a branch have one closing step
pub closes_branch-closings : (terms : List Tree) (trail : Trail) (steps : List Step) → ClosesBranch terms trail steps → closings steps ≡ 1
closes_branch-closings terms trail [] h = absurd h
closes_branch-closings terms trail (s ∷ []) h = let c : closing s ≡ 1 = closing-none s (leaves-count terms terms trail [] s h) in omega (arith, c)
closes_branch-closings terms trail (s ∷ r ∷ ss) h =
    let c : closing s ≡ 0 = closing-one s (leaves-count terms terms trail (h.0 ∷ []) s h.1) in
    let more : closings (r ∷ ss) ≡ 1 = closes_branch-closings terms h.0 (r ∷ ss) h.2 in
    ap (λ n. n + closings (r ∷ ss)) c ∙ omega (arith, more)

pub closings-append : (a b : List Step) → closings (a ++ b) ≡ closings a + closings b
closings-append [] b = omega arith
closings-append (s ∷ a) b = let ih : closings (a ++ b) ≡ closings a + closings b = closings-append a b in ap (λ n. closing s + n) ih ∙ omega arith

-- a step that closes nothing
pub closings-same : (old new : List Step) (x : Step) (n : ℕ) → new ≡ old ++ x ∷ [] → closing x ≡ 0 → closings old ≡ n → closings new ≡ n
closings-same old new x n e z h = ap closings e ∙ closings-append old (x ∷ []) ∙ omega (arith, z, h)

-- steps that close a branch
pub closings-closed : {A : Type 0} (old new closed : List Step) (terms : List Tree) (trail : Trail) (cubes more : List A) (c : A) → new ≡ old ++ closed → ClosesBranch terms trail closed → closings old ≡ length cubes → more ≡ cubes ++ c ∷ []
    → closings new ≡ length more
closings-closed old new closed terms trail cubes more c e h n m =
    let one : closings closed ≡ 1 = closes_branch-closings terms trail closed h in
    let long : length more ≡ length cubes + 1 = ap length m ∙ length-append cubes (c ∷ []) in
    ap closings e ∙ closings-append old closed ∙ omega (arith, one, n, long)
