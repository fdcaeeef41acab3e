-- the branches of a walk before and after a step
use Rattle.std.proofs.Common.{◌≡◌, ℕ, zero, suc, ◌+◌, ◌<◌, ◌≤◌, List, [], ◌∷◌, ◌++◌, map, refl, sym, ap, ◌∙◌, subst, Bool, true, false, length, take, reverse, arith, All, length-append}
use Rattle.std.proofs.lemmas.List.{reverse-append, take-append-le, take-take, length-take-le, take_all}
use Rattle.std.proofs.lemmas.List.Elements.{All-map}
use Rattle.std.proofs.Math.Seq.{take-append_seam}
use Rattle.sd_term.specs.declared.node.Head.TheVariants.{Op as Plain}
use Rattle.sd_term.specs.declared.node.Op.{Op}
use Rattle.sd_term.specs.declared.node.TermNode.{TermNode}
use Rattle.sd_term.specs.Tree.{Tree, tree}
use Rattle.sd_term.specs.Bank.{tree_at, tree_of}
use Rattle.sd_term.specs.Sorts.{AllWellSorted}
use Rattle.sd_term.proofs.Trees.{tree_at-append}
use Rattle.sd_kernel.specs.declared.effect.Effect.{Effect}
use Rattle.sd_kernel.specs.declared.effect.Effect.TheVariants.{Grows, Adds, Splits, Closes}
use Rattle.sd_kernel.specs.declared.known.Fact.{Fact as NumberedFact}
use Rattle.sd_kernel.specs.declared.walk.Waiting.{Waiting}
use Rattle.sd_kernel.specs.Known.{known}
use Rattle.sd_kernel.specs.Facts.{fact_of, trail_of}
use Rattle.sd_kernel.specs.Proof.{start, State, IsOpen, front, continues, after}
use Rattle.sd_kernel.specs.Effects.{outcome_of, after_effect, IsEffectOn}
use Rattle.sd_kernel.specs.Branches.{waiting_branches, open_branches, AreFronts, IsWalk}
use Rattle.sd_kernel.proofs.Members.{sorted-append}

pub trail_of-snoc : (terms : List Tree) (fs : List NumberedFact) (f : NumberedFact) → trail_of terms (fs ++ f ∷ []) ≡ trail_of terms fs ++ fact_of terms f ∷ []
trail_of-snoc terms [] f = refl
trail_of-snoc terms (g ∷ fs) f = ap (λ l. fact_of terms g ∷ l) (trail_of-snoc terms fs f)

-- waiting branches see their fronts of the trail alone
pub waiting-same : (terms : List Tree) (a b : List NumberedFact) (m n : ℕ) (ws : List Waiting) → ((k : ℕ) → k ≤ n → take k a ≡ take k b) → AreFronts m n ws → waiting_branches terms a ws ≡ waiting_branches terms b ws
waiting-same terms a b m n [] same f = refl
waiting-same terms a b m n (w ∷ ws) same f =
    let here : take w.length a ≡ take w.length b = same w.length f.0 in
    let more : waiting_branches terms a ws ≡ waiting_branches terms b ws = waiting-same terms a b m w.length ws (λ k le. same k (omega (arith, le, f.0))) f.2 in
    λ i. (trail_of terms (here i) ++ (tree_at terms w.term, false) ∷ []) ∷ more i

pub fronts-more : (m n k : ℕ) (ws : List Waiting) → n ≤ k → AreFronts m n ws → AreFronts m k ws
fronts-more m n k [] le f = tt
fronts-more m n k (w ∷ ws) le f = (omega (arith, f.0, le), f.1, f.2)

pub facts-more : (terms : List Tree) (fs : List NumberedFact) (n : ℕ) (g : NumberedFact) → All (λ (h : NumberedFact). h.term < length terms) fs → g.term < length terms → All (λ (h : NumberedFact). h.term < length terms) (take n fs ++ g ∷ [])
facts-more terms fs zero g a lt zero d k = lt
facts-more terms fs zero g a lt (suc j) d k = absurd (omega (arith, k))
facts-more terms [] (suc n) g a lt zero d k = lt
facts-more terms [] (suc n) g a lt (suc j) d k = absurd (omega (arith, k))
facts-more terms (f ∷ fs) (suc n) g a lt zero d k = a 0 d (omega arith)
facts-more terms (f ∷ fs) (suc n) g a lt (suc j) d k = facts-more terms fs n g (λ i e l. a (suc i) e (omega (arith, l))) lt j d (omega (arith, k))

-- ---- a step and its effect

pub open-true : (terms : List Tree) (fs : List NumberedFact) (ws : List Waiting) (o : Bool) (s : State) → ◌≡◌ {A = State} (terms, open_branches terms fs ws o) s → IsOpen s → o ≡ true
open-true terms fs ws true s is h = refl
open-true terms fs ws false s is h = absurd (h (sym (ap (λ (t : State). t.1) is)))

-- the terms of a walk
pub terms-is : (terms : List Tree) (fs : List NumberedFact) (ws : List Waiting) (o : Bool) (s : State) → ◌≡◌ {A = State} (terms, open_branches terms fs ws o) s → terms ≡ s.0
terms-is terms fs ws o s is = ap (λ (t : State). t.0) is

module _ (terms : List Tree) (fs : List NumberedFact) (ws : List Waiting) (w : IsWalk terms fs ws) (o : Bool) (s : State) (is : ◌≡◌ {A = State} (terms, open_branches terms fs ws o) s) (opened : IsOpen s) where
  op : o ≡ true
  op = open-true terms fs ws o s is opened

  at-front : (e : Effect) → after_effect s e ≡ after (waiting_branches terms fs (reverse ws)) (outcome_of terms (trail_of terms fs) e)
  at-front e = ap (λ t. after_effect t e) (sym is) ∙ ap (λ b. after_effect (terms, open_branches terms fs ws b) e) op

  -- ---- one more fact

  pub add-continues : (n : ℕ) (b : Bool) (fs' : List NumberedFact) (f : NumberedFact) → fs' ≡ fs ++ f ∷ [] → fact_of terms f ≡ (tree_at terms n, b) → after_effect s (Adds n b) ≡ continues (terms, open_branches terms fs' ws o)
  add-continues n b fs' f ef is2 =
      let keep : (k : ℕ) → k ≤ length fs → take k fs ≡ take k fs' = λ k le. sym (ap (λ l. take k l) ef ∙ take-append-le k fs (f ∷ []) le) in
      let others : waiting_branches terms fs (reverse ws) ≡ waiting_branches terms fs' (reverse ws) = waiting-same terms fs fs' (length terms) (length fs) (reverse ws) keep w.fronts in
      let first : trail_of terms fs ++ (tree_at terms n, b) ∷ [] ≡ trail_of terms fs' = ap (λ g. trail_of terms fs ++ g ∷ []) (sym is2) ∙ sym (ap (trail_of terms) ef ∙ trail_of-snoc terms fs f) in
      at-front (Adds n b) ∙ (λ i. continues (terms, first i ∷ others i)) ∙ ap (λ c. continues (terms, open_branches terms fs' ws c)) (sym op)

  pub add-walk : (fs' : List NumberedFact) (f : NumberedFact) → fs' ≡ fs ++ f ∷ [] → f.term < length s.0 → IsWalk terms fs' ws
  add-walk fs' f ef lt =
      let below : f.term < length terms = subst (λ ts. f.term < length ts) (sym (terms-is terms fs ws o s is)) lt in
      let all : take (length fs) fs ≡ fs = take_all (length fs) fs (omega arith) in
      let long : length fs' ≡ length fs + 1 = ap length ef ∙ length-append fs (f ∷ []) in
      record {
        facts = subst (λ l. All (λ (h : NumberedFact). h.term < length terms) l) (sym (ef ∙ ap (λ l. l ++ f ∷ []) (sym all))) (facts-more terms fs (length fs) f w.facts below);
        sorted = w.sorted;
        fronts = fronts-more (length terms) (length fs) (length fs') (reverse ws) (omega (arith, long)) w.fronts;
      }

  -- ---- a split

  pub split-continues : (n : ℕ) (fs' : List NumberedFact) (ws' : List Waiting) (f : NumberedFact) (u : Waiting)
      → fs' ≡ fs ++ f ∷ [] → ws' ≡ ws ++ u ∷ [] → fact_of terms f ≡ (tree_at terms n, true) → u.length ≡ length fs → u.term ≡ n
      → after_effect s (Splits n) ≡ continues (terms, open_branches terms fs' ws' o)
  split-continues n fs' ws' f u ef ew is2 long term =
      let back : reverse ws' ≡ u ∷ reverse ws = ap reverse ew ∙ reverse-append ws (u ∷ []) in
      let keep : (k : ℕ) → k ≤ length fs → take k fs ≡ take k fs' = λ k le. sym (ap (λ l. take k l) ef ∙ take-append-le k fs (f ∷ []) le) in
      let others : waiting_branches terms fs (reverse ws) ≡ waiting_branches terms fs' (reverse ws) = waiting-same terms fs fs' (length terms) (length fs) (reverse ws) keep w.fronts in
      let whole : take u.length fs' ≡ fs = ap (λ k. take k fs') long ∙ ap (λ l. take (length fs) l) ef ∙ take-append_seam fs (f ∷ []) in
      let first : trail_of terms fs ++ (tree_at terms n, true) ∷ [] ≡ trail_of terms fs' = ap (λ g. trail_of terms fs ++ g ∷ []) (sym is2) ∙ sym (ap (trail_of terms) ef ∙ trail_of-snoc terms fs f) in
      let second : trail_of terms fs ++ (tree_at terms n, false) ∷ [] ≡ trail_of terms (take u.length fs') ++ (tree_at terms u.term, false) ∷ [] =
      λ i. trail_of terms (sym whole i) ++ (tree_at terms (sym term i), false) ∷ [] in
      at-front (Splits n)
      ∙ (λ i. continues (terms, first i ∷ second i ∷ others i))
      ∙ ap (λ l. continues (terms, trail_of terms fs' ∷ waiting_branches terms fs' l)) (sym back)
      ∙ ap (λ b. continues (terms, open_branches terms fs' ws' b)) (sym op)

  -- ---- a branch that is closed

  pub close-more : (fs' fs'' : List NumberedFact) (ws' : List Waiting) (u : Waiting) (g : NumberedFact) → ws ≡ ws' ++ u ∷ [] → fs'' ≡ take u.length fs → fs' ≡ fs'' ++ g ∷ [] → fact_of terms g ≡ (tree_at terms u.term, false)
      → after_effect s Closes ≡ continues (terms, open_branches terms fs' ws' o)
  close-more fs' fs'' ws' u g ew et ef is2 =
      let back : reverse ws ≡ u ∷ reverse ws' = ap reverse ew ∙ reverse-append ws' (u ∷ []) in
      let fronts : AreFronts (length terms) (length fs) (u ∷ reverse ws') = subst (AreFronts (length terms) (length fs)) back w.fronts in
      let long : length fs'' ≡ u.length = ap length et ∙ length-take-le u.length fs fronts.0 in
      let keep : (k : ℕ) → k ≤ u.length → take k fs ≡ take k fs' = λ k le. sym (ap (λ l. take k l) ef ∙ take-append-le k fs'' (g ∷ []) (omega (arith, le, long)) ∙ ap (λ l. take k l) et ∙ take-take k u.length fs le) in
      let others : waiting_branches terms fs (reverse ws') ≡ waiting_branches terms fs' (reverse ws') = waiting-same terms fs fs' (length terms) u.length (reverse ws') keep fronts.2 in
      let first : trail_of terms (take u.length fs) ++ (tree_at terms u.term, false) ∷ [] ≡ trail_of terms fs' =
      (λ i. trail_of terms (sym et i) ++ sym is2 i ∷ []) ∙ sym (ap (trail_of terms) ef ∙ trail_of-snoc terms fs'' g) in
      at-front Closes
      ∙ ap (λ l. continues (terms, waiting_branches terms fs l)) back
      ∙ (λ i. continues (terms, first i ∷ others i))
      ∙ ap (λ b. continues (terms, open_branches terms fs' ws' b)) (sym op)

pub close-walk : (terms : List Tree) (fs : List NumberedFact) (ws : List Waiting) → IsWalk terms fs ws → (fs' fs'' : List NumberedFact) (ws' : List Waiting) (u : Waiting) (g : NumberedFact)
    → ws ≡ ws' ++ u ∷ [] → fs'' ≡ take u.length fs → fs' ≡ fs'' ++ g ∷ [] → g.term ≡ u.term → IsWalk terms fs' ws'
close-walk terms fs ws w fs' fs'' ws' u g ew et ef eg =
    let back : reverse ws ≡ u ∷ reverse ws' = ap reverse ew ∙ reverse-append ws' (u ∷ []) in
    let fronts : AreFronts (length terms) (length fs) (u ∷ reverse ws') = subst (AreFronts (length terms) (length fs)) back w.fronts in
    let long : length fs'' ≡ u.length = ap length et ∙ length-take-le u.length fs fronts.0 in
    let long' : length fs' ≡ u.length + 1 = ap length ef ∙ omega (arith, length-append fs'' (g ∷ []), long) in
    record {
      facts = subst (λ l. All (λ (h : NumberedFact). h.term < length terms) l) (sym (ef ∙ ap (λ l. l ++ g ∷ []) et)) (facts-more terms fs u.length g w.facts (subst (λ k. k < length terms) (sym eg) fronts.1));
      sorted = w.sorted;
      fronts = fronts-more (length terms) u.length (length fs') (reverse ws') (omega (arith, long')) fronts.2;
    }

-- ---- a new term

trail-grown : (terms more : List Tree) (fs : List NumberedFact) → All (λ (f : NumberedFact). f.term < length terms) fs → trail_of (terms ++ more) fs ≡ trail_of terms fs
trail-grown terms more [] a = refl
trail-grown terms more (f ∷ fs) a =
    let here : tree_at (terms ++ more) f.term ≡ tree_at terms f.term = tree_at-append terms more f.term (a 0 f (omega arith)) in
    λ i. (here i, f.value) ∷ trail-grown terms more fs (λ k d lt. a (suc k) d (omega (arith, lt))) i

all-take : (n : ℕ) (fs : List NumberedFact) (m : ℕ) → All (λ (f : NumberedFact). f.term < m) fs → All (λ (f : NumberedFact). f.term < m) (take n fs)
all-take zero fs m a k d lt = absurd (omega (arith, lt))
all-take (suc n) [] m a k d lt = absurd (omega (arith, lt))
all-take (suc n) (f ∷ fs) m a zero d lt = a 0 d (omega arith)
all-take (suc n) (f ∷ fs) m a (suc k) d lt = all-take n fs m (λ j e l. a (suc j) e (omega (arith, l))) k d (omega (arith, lt))

waiting-grown : (terms more : List Tree) (fs : List NumberedFact) (n : ℕ) (ws : List Waiting) → All (λ (f : NumberedFact). f.term < length terms) fs → AreFronts (length terms) n ws
    → waiting_branches (terms ++ more) fs ws ≡ waiting_branches terms fs ws
waiting-grown terms more fs n [] a f = refl
waiting-grown terms more fs n (w ∷ ws) a f =
    let trail : trail_of (terms ++ more) (take w.length fs) ≡ trail_of terms (take w.length fs) = trail-grown terms more (take w.length fs) (all-take w.length fs (length terms) a) in
    let here : tree_at (terms ++ more) w.term ≡ tree_at terms w.term = tree_at-append terms more w.term f.1 in
    λ i. (trail i ++ (here i, false) ∷ []) ∷ waiting-grown terms more fs w.length ws a f.2 i

fronts-grown : (m k n : ℕ) (ws : List Waiting) → m ≤ k → AreFronts m n ws → AreFronts k n ws
fronts-grown m k n [] le f = tt
fronts-grown m k n (w ∷ ws) le f = (f.0, omega (arith, f.1, le), fronts-grown m k w.length ws le f.2)

module _ (terms : List Tree) (fs : List NumberedFact) (ws : List Waiting) (w : IsWalk terms fs ws) (o : Bool) (s : State) (is : ◌≡◌ {A = State} (terms, open_branches terms fs ws o) s)
    (c : Op) (a b : ℕ) (node : TermNode) (head : node.head ≡ Plain c) (parts : node.parts ≡ a ∷ b ∷ []) (terms' : List Tree) (more : terms' ≡ terms ++ tree_of terms node ∷ []) where
  grown : terms' ≡ terms ++ tree (Plain c) (tree_at terms a ∷ tree_at terms b ∷ []) ∷ []
  grown = more ∙ (λ i. terms ++ tree (head i) (map (λ n. tree_at terms n) (parts i)) ∷ [])

  pub grow-walk : IsEffectOn s.0 (Grows c a b) → IsWalk terms' fs ws
  grow-walk e =
      let here : IsEffectOn terms (Grows c a b) = subst (λ ts. IsEffectOn ts (Grows c a b)) (sym (terms-is terms fs ws o s is)) e in
      let t : Tree = tree (Plain c) (tree_at terms a ∷ tree_at terms b ∷ []) in
      let long : length (terms ++ t ∷ []) ≡ length terms + 1 = length-append terms (t ∷ []) in
      subst (λ ts. IsWalk ts fs ws) (sym grown) (record {
        facts = λ k d lt. omega (arith, w.facts k d lt, long);
        sorted = sorted-append terms (t ∷ []) w.sorted (here.3, tt);
        fronts = fronts-grown (length terms) (length (terms ++ t ∷ [])) (length fs) (reverse ws) (omega (arith, long)) w.fronts;
      })

  pub grow-continues : IsOpen s → after_effect s (Grows c a b) ≡ continues (terms', open_branches terms' fs ws o)
  grow-continues h =
      let t : Tree = tree (Plain c) (tree_at terms a ∷ tree_at terms b ∷ []) in
      let trail : trail_of (terms ++ t ∷ []) fs ≡ trail_of terms fs = trail-grown terms (t ∷ []) fs w.facts in
      let others : waiting_branches (terms ++ t ∷ []) fs (reverse ws) ≡ waiting_branches terms fs (reverse ws) = waiting-grown terms (t ∷ []) fs (length fs) (reverse ws) w.facts w.fronts in
      at-front terms fs ws w o s is h (Grows c a b)
      ∙ (λ i. continues (terms ++ t ∷ [], sym trail i ∷ sym others i))
      ∙ ap (λ c. continues (terms ++ t ∷ [], open_branches (terms ++ t ∷ []) fs ws c)) (sym (open-true terms fs ws o s is h))
      ∙ ap (λ ts. continues (ts, open_branches ts fs ws o)) (sym grown)

-- the walk at its start
abbrev pub true_fact : ℕ → NumberedFact
true_fact n = record { term = n; value = true }

pub new-walk : (terms : List Tree) (fs : List NumberedFact) (ws : List Waiting) (ids : List ℕ) → All (λ n. n < length terms) ids → AllWellSorted terms → fs ≡ map true_fact ids → ws ≡ [] → IsWalk terms fs ws
new-walk terms fs ws ids a w e n = record {
  sorted = w;
  facts = subst (λ l. All (λ (f : NumberedFact). f.term < length terms) l) (sym e) (All-map (λ (f : NumberedFact). f.term < length terms) true_fact ids a);
  fronts = subst (λ l. AreFronts (length terms) (length fs) (reverse l)) (sym n) tt;
}

start-of : (terms : List Tree) (ids : List ℕ) → trail_of terms (map true_fact ids) ≡ start (map (λ n. tree_at terms n) ids)
start-of terms [] = refl
start-of terms (n ∷ ids) = ap (λ l. (tree_at terms n, true) ∷ l) (start-of terms ids)

pub new-trail : (terms : List Tree) (fs : List NumberedFact) (ws : List Waiting) (ids : List ℕ) → fs ≡ map true_fact ids → ws ≡ []
    → ◌≡◌ {A = State} (terms, open_branches terms fs ws true) (terms, start (map (λ n. tree_at terms n) ids) ∷ [])
new-trail terms fs ws ids e n =
    let trail : trail_of terms fs ≡ start (map (λ k. tree_at terms k) ids) = ap (trail_of terms) e ∙ start-of terms ids in
    ap (λ l. (terms, open_branches terms fs l true)) n ∙ (λ i. (terms, trail i ∷ []))

-- the facts of an open walk are those of its first branch
pub values-front : (terms : List Tree) (fs : List NumberedFact) (ws : List Waiting) (o : Bool) (s : State) → ◌≡◌ {A = State} (terms, open_branches terms fs ws o) s → IsOpen s
    → map (λ t. known (trail_of terms fs) t) terms ≡ map (λ t. known (front s) t) s.0
values-front terms fs ws o s e n = go o (λ k. n (sym (ap (λ (r : State). r.1) e) ∙ k)) ∙ ap (λ (r : State). map (λ t. known (front r) t) r.0) e
  where
    go : (b : Bool) → (open_branches terms fs ws b ≡ [] → ⊥) → map (λ t. known (trail_of terms fs) t) terms ≡ map (λ t. known (front (terms, open_branches terms fs ws b)) t) terms
    go true k = refl
    go false k = absurd (k refl)
