-- what comes next on a branch may be done
use Rattle.std.proofs.Common.{◌≡◌, ◌≢◌, ℕ, zero, suc, ◌<◌, List, [], ◌∷◌, ◌++◌, map, length, get_or, refl, sym, ap, ◌∙◌, subst, Bool, true, false, not, cond, ◌||◌, inl, inr, Option, Some, None, unwrap_or, is_some, take, slice_get, arith, All}
use Rattle.std.specs.List.{AllByRecursion}
use Rattle.std.specs.Prelude.{Result, Ok, Err, IfOk}
use Rattle.sd_linear.specs.Elimination.{refuted}
use Rattle.sd_term.specs.Tree.{Tree, head_of, at_parts, same_tree, same_tree-self}
use Rattle.sd_term.specs.Bank.{tree_at}
use Rattle.sd_term.specs.Sorts.{sorts_of, is_truth_valued}
use Rattle.sd_term.proofs.Numbers.{has-at}
use Rattle.sd_kernel.specs.declared.step.Step.{Step}
use Rattle.sd_kernel.specs.declared.step.Step.TheVariants.{Close, Term, Split as SplitStep}
use Rattle.sd_kernel.specs.declared.step.StepCause.TheVariants.{Value as Value'}
use Rattle.sd_kernel.specs.Known.{Fact, Trail, first_fact, has_fact, by_parts, known_by, known, known_by_parts, known_at, is_known}
use Rattle.sd_kernel.specs.Steps.{leaves, named, needs, outcome, chosen_part}
use Rattle.sd_kernel.specs.Proof.{start}
use Rattle.sd_cube.specs.Atoms.{is_atom}
use Rattle.sd_cube.specs.Required.{IsRequired, choice, order, back, eq_tree}
use Rattle.sd_cube.specs.CubeRows.{eliminated_branch}
use Rattle.sd_cube.specs.OpenCube.{AllKnown}
use Rattle.sd_cube.specs.Spent.{IsReached, IsDue, ClosesBranch}
use Rattle.sd_euf.specs.Closed.{IsRequiredStep, AreSettled}
use Rattle.sd_search.specs.declared.choice.Choice.{Choice}
use Rattle.sd_search.specs.declared.choice.Choice.TheVariants as made
use Rattle.sd_search.specs.Terms.{AreTerms, AllTruthValued, AreValuesUnder, IsOpenAtom, IsReachedAtom}
use Rattle.sd_search.specs.Choice.{IsChoice, Begins, choice_of, IsLeftAtom}
use Rattle.sd_kernel.proofs.Lookups.{known_at-is as value-at}

-- a fact of the query has its place in a branch, and is true by the first fact on it
start-at : (facts : List Tree) (more : Trail) (k : ℕ) (t : Tree) → slice_get facts k ≡ Some t → slice_get (start facts ++ more) k ≡ Some (t, true)
start-at [] more k t e = cc
start-at (u ∷ facts) more zero t e = let f : u ≡ t = cc in ap (λ w. Some (w, true)) f
start-at (u ∷ facts) more (suc k) t e = start-at facts more k t e

start-first : (facts : List Tree) (more : Trail) (k : ℕ) (t : Tree) → slice_get facts k ≡ Some t → first_fact (start facts ++ more) t ≡ Some true
start-first [] more k t e = cc
start-first (u ∷ facts) more zero t e = let f : u ≡ t = cc in ap (λ q. cond q (Some true) (first_fact (start facts ++ more) t)) (ap (λ w. same_tree w t) f ∙ same_tree-self t)
start-first (u ∷ facts) more (suc k) t e = go (same_tree u t) (start-first facts more k t e)
  where
    go : (q : Bool) → first_fact (start facts ++ more) t ≡ Some true → cond q (Some true) (first_fact (start facts ++ more) t) ≡ Some true
    go true h = refl
    go false h = h

-- a false fact has the opposite value by its parts
false-by-parts : (b : Trail) (t : Tree) → first_fact b t ≡ Some true → known b t ≡ Some false → known_by_parts b t ≡ Some false
false-by-parts b t f e = go (by_parts (head_of t) (sorts_of t) (at_parts (known_by b) t)) e
  where
    go : (o : Option (Option Bool)) → unwrap_or o (first_fact b t) ≡ Some false → unwrap_or o None ≡ Some false
    go (Some k) e = e
    go None e = let g : Some true ≡ Some false = sym f ∙ e in cc

close-outcome : (terms facts : List Tree) (b : Trail) (k : ℕ) (t : Tree) → Begins facts b → slice_get facts k ≡ Some t → known b t ≡ Some false → outcome terms b (Close k) ≡ leaves terms []
close-outcome terms facts b k t h at e =
    let first : first_fact b t ≡ Some true = ap (λ l. first_fact l t) h.1 ∙ start-first facts h.0 k t at in
    let place : slice_get b k ≡ Some (t, true) = ap (λ l. slice_get l k) h.1 ∙ start-at facts h.0 k t at in
    ap (λ o. named o (λ (f : Fact). needs (is_known (known_by_parts b f.0) (not f.1) || has_fact (take k b) f.0 (not f.1)) Value' (leaves terms []))) place
    ∙ ap (λ (o : Option Bool). needs (is_known o false || has_fact (take k b) t false) Value' (leaves terms [])) (false-by-parts b t first e)

fact-at : (terms : List Tree) (ids : List ℕ) (k : ℕ) → k < length ids → slice_get (map (λ f. tree_at terms f) ids) k ≡ Some (tree_at terms (get_or ids k 0))
fact-at terms [] k h = absurd (omega (arith, h))
fact-at terms (i ∷ ids) zero h = refl
fact-at terms (i ∷ ids) (suc k) h = fact-at terms ids k (omega (arith, h))

-- truth-valued facts by number
pub facts-truth : (terms facts : List Tree) (ids : List ℕ) → map (λ f. tree_at terms f) ids ≡ facts → AllTruthValued facts → All (λ f. f < length terms) ids
    → All (λ f. (f < length terms) × (is_truth_valued (tree_at terms f) ≡ true)) ids
facts-truth terms facts ids e a b = λ k d lt. (b k d lt, go ids k d lt (subst AllTruthValued (sym e) a))
  where
    go : (js : List ℕ) (k d : ℕ) → k < length js → AllTruthValued (map (λ f. tree_at terms f) js) → is_truth_valued (tree_at terms (get_or js k d)) ≡ true
    go [] k d lt t = absurd (omega (arith, lt))
    go (j ∷ js) zero d lt t = t.0
    go (j ∷ js) (suc k) d lt t = go js k d (omega (arith, lt)) t.1

-- what is asked for is an atom
eq-atom : (a b : Tree) → is_truth_valued a ≡ false → is_atom (eq_tree a b) ≡ true
eq-atom a b n =
    let f : Bool → Option (Option Bool) = λ q. cond q (Some None) None in
    ap (λ q. not (is_some (f q))) n

pub required-atom : (terms : List Tree) (b : Trail) (t : Tree) → IsRequired terms b t → is_atom t ≡ true
required-atom terms b _ (choice t v h c k) = eq-atom t (chosen_part t v) c.1
required-atom terms b _ (order e h i k n) = refl
required-atom terms b _ (back e h i k n) = refl

module _ (facts terms : List Tree) (b : Trail) (ids : List ℕ) (values : List (Option Bool)) (are : map (λ f. tree_at terms f) ids ≡ facts) (within : All (λ f. f < length terms) ids) (is : AreValuesUnder b terms values) where
  pub closes-by : (k : ℕ) → Begins facts b → k < length ids → known_at values (get_or ids k 0) ≡ Some false → ClosesBranch terms b (Close k ∷ [])
  closes-by k h lt e =
      close-outcome terms facts b k (tree_at terms (get_or ids k 0)) h (ap (λ l. slice_get l k) (sym are) ∙ fact-at terms ids k lt) (sym (value-at b terms values (get_or ids k 0) is (within k 0 lt)) ∙ e)

  pub none-false : ((k : ℕ) → k < length ids → known_at values (get_or ids k 0) ≢ Some false) → AllByRecursion (λ t. known b t ≢ Some false) facts
  none-false n = subst (λ ts. AllByRecursion (λ t. known b t ≢ Some false) ts) are (go ids within n)
    where
      go : (js : List ℕ) → All (λ f. f < length terms) js → ((k : ℕ) → k < length js → known_at values (get_or js k 0) ≢ Some false) → AllByRecursion (λ t. known b t ≢ Some false) (map (λ f. tree_at terms f) js)
      go [] w n = tt
      go (j ∷ js) w n = ((λ e. n 0 (omega arith) (value-at b terms values j is (w 0 0 (omega arith)) ∙ e)), go js (λ k d lt. w (suc k) d (omega (arith, lt))) (λ k lt. n (suc k) (omega (arith, lt))))

  pub all-true : ((k : ℕ) → k < length ids → known_at values (get_or ids k 0) ≢ Some false) → ((k : ℕ) → k < length ids → known_at values (get_or ids k 0) ≢ None) → AllKnown b facts
  all-true n m = subst (AllKnown b) are (go ids within n m)
    where
      known-true : (o : Option Bool) → o ≢ Some false → o ≢ None → o ≡ Some true
      known-true (Some true) p q = refl
      known-true (Some false) p q = absurd (p refl)
      known-true None p q = absurd (q refl)

      go : (js : List ℕ) → All (λ f. f < length terms) js → ((k : ℕ) → k < length js → known_at values (get_or js k 0) ≢ Some false) → ((k : ℕ) → k < length js → known_at values (get_or js k 0) ≢ None)
          → AllKnown b (map (λ f. tree_at terms f) js)
      go [] w n m = tt
      go (j ∷ js) w n m = (
        sym (value-at b terms values j is (w 0 0 (omega arith))) ∙ known-true (known_at values j) (n 0 (omega arith)) (m 0 (omega arith)),
        go js (λ k d lt. w (suc k) d (omega (arith, lt))) (λ k lt. n (suc k) (omega (arith, lt))) (λ k lt. m (suc k) (omega (arith, lt))),
      )

  open-unknown : (n : ℕ) → IsOpenAtom terms values n → known b (tree_at terms n) ≡ None
  open-unknown n a = sym (value-at b terms values n is a.below) ∙ a.unknown

  -- an atom that is reached from a fact is due
  pub reached-choice : (n : ℕ) → ((k : ℕ) → k < length ids → known_at values (get_or ids k 0) ≢ Some false) → IsReachedAtom (map (λ f. tree_at terms f) ids) terms values n → IsChoice facts terms b (made.Split n)
  reached-choice n none r = (
    r.open_atom.below,
    record {
      atom = r.open_atom.atom;
      unknown = open-unknown n r.open_atom;
      none_false = none-false none;
      due = inl (subst (λ ts. IsReached ts b (tree_at terms n)) are (r.reached b is));
    },
  )

  -- all facts are true, and no row refutes
  module _ (none : (k : ℕ) → k < length ids → known_at values (get_or ids k 0) ≢ Some false) (some : (k : ℕ) → k < length ids → known_at values (get_or ids k 0) ≢ None)
      (not_refuted : eliminated_branch terms b ≢ refuted) (t : AreTerms facts terms) where
    left-due : (n : ℕ) → n < length terms → is_atom (tree_at terms n) ≡ true → known b (tree_at terms n) ≡ None → IsDue facts terms b (tree_at terms n)
    left-due n lt a u = record {
      atom = a;
      unknown = u;
      none_false = none-false none;
      due = inr (all-true none some, not_refuted, t.needed (tree_at terms n) (has-at terms (tree_at terms n) n lt refl));
    }

    pub required-choice : (step : Step) → IsRequiredStep terms b step → IsChoice facts terms b (choice_of step)
    required-choice (Term line) h = h
    required-choice (SplitStep n) h = (h.0, left-due n h.0 (required-atom terms b (tree_at terms n) h.1) h.2)
    required-choice _ h = absurd h

    pub left-choice : (classes : List ℕ) (c : Choice) → AreSettled terms b classes → IsLeftAtom terms values c → IsChoice facts terms b c
    left-choice classes (made.Split n) s a = (a.below, left-due n a.below a.atom (open-unknown n a))
    left-choice classes made.Settled s a = record {
      facts_true = all-true none some;
      valued = λ n lt at e. a n lt at (value-at b terms values n is lt ∙ e);
      choices = s.choices;
      orders = s.orders;
      none_joined = s.none_joined;
      not_refuted = not_refuted;
    }
    left-choice classes _ s a = absurd a

-- ---- what answers say

pub if-made : {A E : Type 0} (r : Result A E) (x : A) (P : A → Type 0) → IfOk r (λ y. y ≡ x) → P x → IfOk r P
if-made (Ok y) x P e p = subst P (sym e) p
if-made (Err e) x P h p = tt
