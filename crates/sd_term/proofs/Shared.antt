-- the nodes of a bank in which each tree has one number
use Rattle.std.proofs.Common.{◌≡◌, ◌≢◌, ℕ, zero, suc, ◌+◌, ◌<◌, ◌^◌, List, [], ◌∷◌, ◌++◌, map, length, get_or, All, refl, sym, ap, ◌∙◌, subst, arith, length-append, suc-le-suc, Bool, true, false, cond, ◌||◌, if◌then◌else◌, Option, Some, None, IfNone, take, below_more}
use Rattle.std.proofs.lemmas.Grind.{common_steps}
use Rattle.std.proofs.lemmas.List.Folds.{list_any_at, list_any_none}
use Rattle.std.proofs.lemmas.Map.Keys.{IsDistinct-head, IsDistinct-tail}
use Rattle.std.proofs.lemmas.List.Quantifiers.{position-Some}
use Rattle.std.specs.List.{list_any, position, IsDistinct, AllByRecursion}
use Rattle.indexmap.specs.IndexSet.{insert_key}
use Rattle.sd_term.specs.declared.node.TermNode.{TermNode}
use Rattle.sd_term.specs.Tree.{Tree, same_tree-true}
use Rattle.sd_term.specs.Bank.{tree_at, tree_of, trees, PartsBelow}
use Rattle.sd_term.specs.BankInvariant.{AreShared, IsBank}
use Rattle.sd_base.specs.declared.sort.Sort.{Sort}
use Rattle.sd_term.specs.Build.{Extends}
use Rattle.sd_term.specs.Distinct.{AreDistinct, with_tree}
use Rattle.sd_term.specs.Keys.{same_node, same_node-true, same_node-same, same_node-equivalence}
use Rattle.sd_term.specs.Numbering.{has, IsFirst}
use Rattle.sd_term.proofs.Trees.{length-trees, trees-append, tree_at-append, tree_at-last, tree-head, tree-parts, trees-node}
use Rattle.sd_term.proofs.Numbers.{has-at}

-- where equal trees have equal numbers, lists of numbers with equal trees are equal
numbers-same : (bank : List Tree) → AreDistinct bank → (xs ys : List ℕ) → All (λ p. p < length bank) xs → All (λ p. p < length bank) ys
    → map (λ n. tree_at bank n) xs ≡ map (λ n. tree_at bank n) ys → xs ≡ ys
unfolding AreDistinct
numbers-same bank d [] [] a b e = refl
numbers-same bank d [] (y ∷ ys) a b e = let f : 0 ≡ length (map (λ n. tree_at bank n) (y ∷ ys)) = ap length e in absurd (omega (arith, f))
numbers-same bank d (x ∷ xs) [] a b e = let f : length (map (λ n. tree_at bank n) (x ∷ xs)) ≡ 0 = ap length e in absurd (omega (arith, f))
numbers-same bank d (x ∷ xs) (y ∷ ys) a b e =
    let here : x ≡ y = d x y (a 0 0 (omega arith)) (b 0 0 (omega arith)) (ap (λ l. get_or l 0 (tree_at bank x)) e) in
    let more : xs ≡ ys = numbers-same bank d xs ys (λ k m lt. a (suc k) m (suc-le-suc lt)) (λ k m lt. b (suc k) m (suc-le-suc lt)) (ap rest e) in
    cc
  where
    rest : List Tree → List Tree
    rest [] = []
    rest (t ∷ ts) = ts

with_tree-has : (bank : List Tree) (t : Tree) → has bank t ≡ true → with_tree bank t ≡ bank
with_tree-has bank t e = ap (λ b. cond b bank (bank ++ t ∷ [])) e

with_tree-lacks : (bank : List Tree) (t : Tree) → has bank t ≡ false → with_tree bank t ≡ bank ++ t ∷ []
with_tree-lacks bank t e = ap (λ b. cond b bank (bank ++ t ∷ [])) e

-- what is found changes nothing
pub found-there : (bank : List Tree) (t : Tree) (i : ℕ) → i < length bank → tree_at bank i ≡ t → bank ≡ with_tree bank t
found-there bank t i lt e = sym (with_tree-has bank t (has-at bank t i lt e))

-- what isn't there comes last
pub not-there : (bank new : List Tree) (t : Tree) → has bank t ≡ false → new ≡ bank ++ t ∷ [] → new ≡ with_tree bank t
not-there bank new t h e = e ∙ sym (with_tree-lacks bank t h)

-- a tree that no number has isn't there
pub lacks-has : (bank : List Tree) (t : Tree) → ((i : ℕ) → i < length bank → tree_at bank i ≢ t) → has bank t ≡ false
lacks-has [] t h = refl
lacks-has (u ∷ bank) t h = grind (arith, lacks-has bank t (λ i lt e. h (suc i) (suc-le-suc lt) e), h 0 (omega arith), same_tree-true u t)

pub if-none : {P : Type 0} (r : Option ℕ) → P → IfNone r P
if-none None p = p
if-none (Some x) p = tt

pub Extends-self : (bank : List Tree) → Extends bank bank
Extends-self bank = record { longer = omega arith; kept = λ i lt. refl }

pub IsBank-none : (nodes : List TermNode) (sorts : List Sort) → nodes ≡ [] → sorts ≡ [] → IsBank nodes sorts 0
unfolding AreDistinct
IsBank-none nodes sorts e f =
    subst (λ l. IsBank l sorts 0) (sym e)
    (subst (λ l. IsBank [] l 0) (sym f)
    (record {
      shared = record { ascends = λ i d lt. absurd (omega arith); short = omega arith; distinct = λ i j a b s. absurd (omega arith) };
      sorts_are = refl;
      above = refl;
    }))

pub same-number : (bank : List Tree) (i j : ℕ) → AreDistinct bank → i < length bank → j < length bank → tree_at bank i ≡ tree_at bank j → i ≡ j
unfolding AreDistinct
same-number bank i j d a b e = d i j a b e

pub first-itself : (bank : List Tree) (i : ℕ) → AreDistinct bank → i < length bank → IsFirst bank i
first-itself bank i d lt = λ j a e. omega (arith, same-number bank j i d a lt e)

-- sets of nodes

pub insert-new : (nodes new : List TermNode) (node : TermNode) → list_any (same_node node) nodes ≡ false → new ≡ insert_key same_node nodes node → new ≡ nodes ++ node ∷ []
insert-new nodes new node none e = e ∙ ap (λ b. if b then nodes else nodes ++ node ∷ []) none

at-all : (P : TermNode → Type 0) (ks : List TermNode) (i : ℕ) (d : TermNode) → AllByRecursion P ks → i < length ks → P (get_or ks i d)
at-all P [] i d a h = absurd (omega arith)
at-all P (k ∷ ks) zero d a h = a.0
at-all P (k ∷ ks) (suc i) d a h = at-all P ks i d a.1 (omega (arith, h))

earlier-apart : (ks : List TermNode) (i : ℕ) (d : TermNode) → IsDistinct same_node ks → i < length ks → list_any (same_node (get_or ks i d)) (take i ks) ≡ false
earlier-apart [] i d u h = absurd (omega arith)
earlier-apart (k ∷ ks) zero d u h = refl
earlier-apart (k ∷ ks) (suc i) d u h =
    let here : same_node (get_or ks i d) k ≡ false =
    same_node-equivalence.symm (get_or ks i d) k ∙ at-all (λ y. same_node k y ≡ false) ks i d (IsDistinct-head same_node k ks u) (omega (arith, h)) in
    let more : list_any (same_node (get_or ks i d)) (take i ks) ≡ false = earlier-apart ks i d (IsDistinct-tail same_node k ks u) (omega (arith, h)) in
    λ j. here j || more j

take-next : (ks : List TermNode) (i : ℕ) (d : TermNode) → i < length ks → take i ks ++ get_or ks i d ∷ [] ≡ take (suc i) ks
take-next [] i d h = absurd (omega arith)
take-next (k ∷ ks) zero d h = refl
take-next (k ∷ ks) (suc i) d h = ap (λ l. k ∷ l) (take-next ks i d (omega (arith, h)))

-- one more copy, in a set of the copies of those before it
pub copies-more : (nodes copies new : List TermNode) (i : ℕ) (copy d : TermNode) → IsDistinct same_node nodes → i < length nodes → copies ≡ take i nodes → copy ≡ get_or nodes i d
    → new ≡ insert_key same_node copies copy → new ≡ take (i + 1) nodes
copies-more nodes copies new i copy d u lt before is e =
    let none : list_any (same_node copy) copies ≡ false = (λ j. list_any (same_node (is j)) (before j)) ∙ earlier-apart nodes i d u lt in
    let next : suc i ≡ i + 1 = omega arith in
    insert-new copies new copy none e ∙ (λ j. before j ++ is j ∷ []) ∙ take-next nodes i d lt ∙ (λ j. take (next j) nodes)

module _ (nodes : List TermNode) (h : AreShared nodes) where
  below-more : (i : ℕ) (d : TermNode) → i < length nodes → PartsBelow (length nodes) (get_or nodes i d)
  below-more i d lt = λ k e a. omega (arith, h.ascends i d lt k e a)

  pub node-tree : (i : ℕ) (d : TermNode) → i < length nodes → tree_at (trees nodes) i ≡ tree_of (trees nodes) (get_or nodes i d)
  node-tree i d lt = trees-node nodes i d lt (h.ascends i d lt)

  -- two nodes with one tree are one
  one-node : (a b : TermNode) → PartsBelow (length nodes) a → PartsBelow (length nodes) b → tree_of (trees nodes) a ≡ tree_of (trees nodes) b → a ≡ b
  one-node a b p q e =
      let heads : a.head ≡ b.head = tree-head a.head b.head (map (λ n. tree_at (trees nodes) n) a.parts) (map (λ n. tree_at (trees nodes) n) b.parts) e in
      let parts : a.parts ≡ b.parts = numbers-same (trees nodes) h.distinct a.parts b.parts (λ k d lt. omega (arith, p k d lt, length-trees nodes)) (λ k d lt. omega (arith, q k d lt, length-trees nodes))
      (tree-parts a.head b.head (map (λ n. tree_at (trees nodes) n) a.parts) (map (λ n. tree_at (trees nodes) n) b.parts) e) in
      λ i. record { head = heads i; parts = parts i }

  -- a node that isn't one of the list has a new tree
  pub lacks-tree : (node : TermNode) → PartsBelow (length nodes) node → list_any (same_node node) nodes ≡ false → (i : ℕ) → i < length nodes → tree_at (trees nodes) i ≢ tree_of (trees nodes) node
  lacks-tree node p none i lt e =
      let same : get_or nodes i node ≡ node = one-node (get_or nodes i node) node (below-more i node lt) p (sym (node-tree i node lt) ∙ e) in
      let there : list_any (same_node node) nodes ≡ true = list_any_at (same_node node) nodes i node lt (same_node-same node (get_or nodes i node) (sym same)) in
      let f : true ≡ false = sym there ∙ none in
      cc

  -- and a node with a new tree isn't one of the list
  pub lacks-node : (node : TermNode) → ((i : ℕ) → i < length nodes → tree_at (trees nodes) i ≢ tree_of (trees nodes) node) → list_any (same_node node) nodes ≡ false
  lacks-node node lacks = list_any_none (same_node node) nodes (λ i d lt. by (get_or nodes i d) i lt (node-tree i d lt) (same_node node (get_or nodes i d)) refl)
    where
      by : (n : TermNode) (i : ℕ) → i < length nodes → tree_at (trees nodes) i ≡ tree_of (trees nodes) n → (b : Bool) → same_node node n ≡ b → same_node node n ≡ false
      by n i lt at true e = absurd (lacks i lt (at ∙ ap (λ m. tree_of (trees nodes) m) (sym (same_node-true node n e))))
      by n i lt at false e = e

  -- the place of a node is that of its tree
  pub found-tree : (node : TermNode) (i : ℕ) → position (same_node node) nodes ≡ Some i → (i < length nodes) × (tree_at (trees nodes) i ≡ tree_of (trees nodes) node)
  found-tree node i e =
      let p = position-Some (same_node node) nodes i node e in
      (p.0, node-tree i node p.0 ∙ ap (λ n. tree_of (trees nodes) n) (sym (same_node-true node (get_or nodes i node) p.1)))

  module _ (node : TermNode) (p : PartsBelow (length nodes) node) (lacks : (i : ℕ) → i < length nodes → tree_at (trees nodes) i ≢ tree_of (trees nodes) node) (room : length nodes + 1 < 2 ^ 32) where
    long : length (nodes ++ node ∷ []) ≡ length nodes + 1
    long = length-append nodes (node ∷ [])

    old-tree : (i : ℕ) → i < length nodes → tree_at (trees (nodes ++ node ∷ [])) i ≡ tree_at (trees nodes) i
    old-tree i lt = ap (λ l. tree_at l i) (trees-append nodes node) ∙ tree_at-append (trees nodes) (tree_of (trees nodes) node ∷ []) i (omega (arith, length-trees nodes))

    new-tree : tree_at (trees (nodes ++ node ∷ [])) (length nodes) ≡ tree_of (trees nodes) node
    new-tree =
        ap (λ l. tree_at l (length nodes)) (trees-append nodes node)
        ∙ ap (λ n. tree_at (trees nodes ++ tree_of (trees nodes) node ∷ []) n) (sym (length-trees nodes))
        ∙ tree_at-last (trees nodes) (tree_of (trees nodes) node)

    old-node : (i : ℕ) (d : TermNode) → i < length nodes → get_or (nodes ++ node ∷ []) i d ≡ get_or nodes i d
    old-node i d lt = grind (arith, common_steps)

    new-node : (d : TermNode) → get_or (nodes ++ node ∷ []) (length nodes) d ≡ node
    new-node d = grind (arith, common_steps)

    -- what holds of each earlier number and of the new one holds of each
    each : (P : ℕ → Type 0) → ((i : ℕ) → i < length nodes → P i) → P (length nodes) → (i : ℕ) → i < length nodes + 1 → P i
    each P old new i lt = below_more P (length nodes) old new i lt

    P : ℕ → ℕ → Type 0
    P i j = tree_at (trees (nodes ++ node ∷ [])) i ≡ tree_at (trees (nodes ++ node ∷ [])) j → i ≡ j

    all-distinct : (i j : ℕ) → i < length nodes + 1 → j < length nodes + 1 → P i j
    unfolding P
    all-distinct i j a b =
        each (λ m. P m j)
        (λ m lt. each (λ n. P m n)
        (λ n le e. same-number (trees nodes) m n h.distinct (omega (arith, length-trees nodes)) (omega (arith, length-trees nodes)) (sym (old-tree m lt) ∙ e ∙ old-tree n le))
        (λ e. absurd (lacks m lt (sym (old-tree m lt) ∙ e ∙ new-tree))) j b)
        (each (λ n. P (length nodes) n)
        (λ n le e. absurd (lacks n le (sym (old-tree n le) ∙ sym e ∙ new-tree)))
        (λ e. refl) j b) i a

    pub grows : AreShared (nodes ++ node ∷ [])
    unfolding P AreDistinct
    grows = record {
      ascends = λ i d lt. each (λ m. PartsBelow m (get_or (nodes ++ node ∷ []) m d)) (λ m le. subst (λ n. PartsBelow m n) (sym (old-node m d le)) (h.ascends m d le)) (subst (λ n. PartsBelow (length nodes) n) (sym (new-node d)) p) i (omega (arith, long));
      short = subst (λ n. n < 2 ^ 32) (sym long) room;
      distinct = λ i j a b. all-distinct i j (omega (arith, long, length-trees (nodes ++ node ∷ []))) (omega (arith, long, length-trees (nodes ++ node ∷ [])));
    }
