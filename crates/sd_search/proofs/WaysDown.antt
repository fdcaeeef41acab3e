-- the way from a fact without a value down to an atom without a value
use Rattle.std.proofs.Common.{◌≡◌, ◌≢◌, ℕ, suc, ◌<◌, ◌≤◌, List, [], ◌∷◌, ◌++◌, map, length, get_or, refl, sym, ap, ◌∙◌, subst, Bool, true, false, not, ◌&&◌, ◌⊎◌, inl, inr, Option, Some, None, unwrap_or, is_some, All, arith}
use Rattle.std.specs.Prelude.{Contains}
use Rattle.std.proofs.lemmas.List.{get_or-map, length-map}
use Rattle.sd_base.specs.declared.sort.Sort.{Sort, Bool as Truth}
use Rattle.sd_term.specs.declared.node.TermNode.{TermNode}
use Rattle.sd_term.specs.Heads.{Ite}
use Rattle.sd_term.specs.Tree.{Tree, head_of, parts_of, at_parts}
use Rattle.sd_term.specs.Bank.{tree_at, tree_of, PartsBelow}
use Rattle.sd_term.specs.Sorts.{sort_of, sorts_of, sort_by, sort_at, is_truth_sort, is_truth_valued, Takes, AllWellSorted}
use Rattle.sd_term.proofs.Folds.{at_parts-node, head_of-node}
use Rattle.sd_term.proofs.Numbers.{node-parts}
use Rattle.sd_kernel.specs.Known.{Trail, first_fact, known_at, by_parts, known_by, known}
use Rattle.sd_kernel.proofs.Lookups.{sorted-at, known_at-is as value-at}
use Rattle.sd_cube.specs.Atoms.{is_atom}
use Rattle.sd_cube.specs.Spent.{Reaches}
use Rattle.sd_search.specs.Terms.{AreValuesUnder, AreValues, IsOpenAtom, IsOpenPart, IsReachedAtom}
use Rattle.sd_search.proofs.AtomFacts.{judged-same}
use Rattle.sd_search.proofs.Judged.{AreKnown, IfJudged, judged-some, second-some, judged-truths}
use Rattle.sd_cube.proofs.Cubes.{truth-at}
use Rattle.sd_search.proofs.Same.{not-none-some}

pub reaches-more : (b : Trail) (t : Tree) (way : List Tree) (u p : Tree) → Reaches b t way u → Contains (parts_of u) p → known b p ≡ None → Reaches b t (way ++ p ∷ []) p
reaches-more b t [] u p r c n = (r.1, subst (λ v. Contains (parts_of v) p) (sym r.0) c, (refl, n))
reaches-more b t (w ∷ way) u p r c n = (r.0, r.1, reaches-more b w way u p r.2 c n)

-- ---- lists by place

pub contains-map : {A B : Type 0} (f : A → B) (xs : List A) (k : ℕ) (x : A) → k < length xs → x ≡ get_or xs k x → Contains (map f xs) (f x)
contains-map f xs k x h e = (k, subst (λ n. k < n) (sym (length-map xs f)) h, get_or-map f xs k x (f x) h ∙ ap f (sym e))

known-judged : (b : Trail) (t : Tree) → is_truth_valued t ≡ true → is_atom t ≡ false → IfJudged (by_parts (head_of t) (sorts_of t) (at_parts (known_by b) t)) → is_some (known b t) ≡ true
known-judged b t s a j = go (by_parts (head_of t) (sorts_of t) (at_parts (known_by b) t)) refl j
  where
    go : (o : Option (Option Bool)) → by_parts (head_of t) (sorts_of t) (at_parts (known_by b) t) ≡ o → IfJudged o → is_some (unwrap_or o (first_fact b t)) ≡ true
    go (Some k) e j = j
    go None e j =
        let unjudged : is_some (by_parts (head_of t) (sorts_of t) []) ≡ false = judged-same (head_of t) (sorts_of t) [] (at_parts (known_by b) t) ∙ ap (λ (o : Option (Option Bool)). is_some o) e in
        let f : true ≡ false = (λ i. sym s i && not (sym unjudged i)) ∙ a in
        cc

judged : (t : Tree) → is_truth_valued t ≡ true → is_atom t ≡ false → is_some (by_parts (head_of t) (sorts_of t) []) ≡ true
judged t s a = go (is_some (by_parts (head_of t) (sorts_of t) [])) refl
  where
    go : (q : Bool) → is_some (by_parts (head_of t) (sorts_of t) []) ≡ q → is_some (by_parts (head_of t) (sorts_of t) []) ≡ true
    go true e = e
    go false e = let f : true ≡ false = (λ i. sym s i && not (sym e i)) ∙ a in cc

-- a node of a judged, well-sorted term
module _ (terms : List Tree) (id : ℕ) (node : TermNode) (lt : id < length terms) (sorted : AllWellSorted terms) (tree : tree_of terms node ≡ tree_at terms id)
    (truth : is_truth_valued (tree_at terms id) ≡ true) (no_atom : is_atom (tree_at terms id) ≡ false) (below : PartsBelow id node) where
  abbrev part_sorts : List Sort
  part_sorts = map (λ p. sort_of (tree_at terms p)) node.parts

  sorts_are : sorts_of (tree_at terms id) ≡ part_sorts
  sorts_are = ap sorts_of (sym tree) ∙ at_parts-node (λ u ss. sort_by (head_of u) ss) terms node

  head_is : head_of (tree_at terms id) ≡ node.head
  head_is = ap head_of (sym tree) ∙ head_of-node terms node

  takes : Takes node.head part_sorts
  takes = subst (λ h. Takes h part_sorts) head_is (subst (Takes (head_of (tree_at terms id))) sorts_are (sorted-at terms id sorted lt).1)

  pub open-part : (values : List (Option Bool)) (parts : List ℕ) (place part : ℕ) → parts ≡ node.parts → place < length parts → part ≡ get_or parts place part → known_at values part ≡ None → IsOpenPart terms values id part
  open-part values parts place part e h is unknown =
      let long : place < length node.parts = subst (λ ps. place < length ps) e h in
      let here : part ≡ get_or node.parts place part = is ∙ ap (λ ps. get_or ps place part) e in
      let all = judged-truths (head_of (tree_at terms id)) (sorts_of (tree_at terms id)) [] (sorted-at terms id sorted lt).1 (judged (tree_at terms id) truth no_atom) in
      let sort : sort_of (tree_at terms part) ≡ Truth =
      ap (λ p. sort_of (tree_at terms p)) here ∙ sym (get_or-map (λ p. sort_of (tree_at terms p)) node.parts place part Truth long) ∙ ap (λ ss. sort_at ss place) (sym sorts_are) ∙ truth-at (sorts_of (tree_at terms id)) place all in
      record {
        below = subst (λ p. p < id) (sym here) (below place part long);
        is_part = subst (λ ps. Contains ps (tree_at terms part)) (sym (node-parts terms node (tree_at terms id) tree)) (contains-map (λ n. tree_at terms n) node.parts place part long here);
        truth = ap is_truth_sort sort;
        unknown = unknown;
      }

  module _ (b : Trail) (values : List (Option Bool)) (is : AreValuesUnder b terms values) where
    abbrev part_values : List (Option Bool)
    part_values = map (λ p. known_at values p) node.parts

    values_same : (ps : List ℕ) → All (λ p. p < id) ps → map (λ p. known_at values p) ps ≡ map (λ p. known b (tree_at terms p)) ps
    values_same [] a = refl
    values_same (p ∷ ps) a =
        let p_in : p < length terms = (let k = a 0 0 (omega arith) in omega (arith, lt)) in
        let one : known_at values p ≡ known b (tree_at terms p) = value-at b terms values p is p_in in
        let more = values_same ps (λ k d h. a (suc k) d (omega (arith, h))) in
        λ i. one i ∷ more i

    values_are : at_parts (known_by b) (tree_at terms id) ≡ part_values
    values_are = ap (at_parts (known_by b)) (sym tree) ∙ at_parts-node (known_by b) terms node ∙ sym (values_same node.parts below)

    known_if : IfJudged (by_parts node.head part_sorts part_values) → is_some (known b (tree_at terms id)) ≡ true
    known_if j =
        known-judged b (tree_at terms id) truth no_atom (subst (λ o. IfJudged o) (λ i. by_parts (sym head_is i) (sym sorts_are i) (sym values_are i)) j)

    all_known : (ps : List ℕ) → ((k : ℕ) → k < length ps → known_at values (get_or ps k 0) ≢ None) → AreKnown (map (λ p. known_at values p) ps) (map (λ p. sort_of (tree_at terms p)) ps)
    all_known [] h = tt
    all_known (p ∷ ps) h = ((λ e. not-none-some (known_at values p) (h 0 (omega arith))), all_known ps (λ k lt'. h (suc k) (omega (arith, lt'))))

    -- the term has a value where each of its parts has one
    pub all-parts : ((k : ℕ) → k < length node.parts → known_at values (get_or node.parts k 0) ≢ None) → is_some (known b (tree_at terms id)) ≡ true
    all-parts h = known_if (judged-some node.head part_sorts part_values takes (all_known node.parts h))

    -- a choice by a false condition has a value where its last part has one
    pub last-part : node.head ≡ Ite → known_at part_values 0 ≡ Some false → ((k : ℕ) → 2 ≤ k → k < length node.parts → known_at values (get_or node.parts k 0) ≢ None) → is_some (known b (tree_at terms id)) ≡ true
    last-part e c h =
        let t : Takes Ite part_sorts = subst (λ d. Takes d part_sorts) e takes in
        let long : length node.parts ≡ 3 = sym (length-map node.parts (λ p. sort_of (tree_at terms p))) ∙ ap length t.1 in
        let third : is_some (known_at part_values 2) ≡ true =
        ap (λ (o : Option Bool). is_some o) (get_or-map (λ p. known_at values p) node.parts 2 0 None (omega (arith, long))) ∙ not-none-some (known_at values (get_or node.parts 2 0)) (h 2 (omega arith) (omega (arith, long))) in
        known_if (subst (λ d. IfJudged (by_parts d part_sorts part_values)) (sym e) (second-some part_sorts part_values c third))

  -- so some part that matters has none
  pub no-value : (values : List (Option Bool)) (parts : List ℕ) (first : ℕ) → AreValues terms values → parts ≡ node.parts → known_at values id ≡ None
      → ((first ≡ 0) ⊎ ((first ≡ 2) × (node.head ≡ Ite) × (known_at (map (λ p. known_at values p) parts) 0 ≡ Some false)))
      → ((k : ℕ) → first ≤ k → k < length parts → known_at values (get_or parts k 0) ≢ None) → ⊥
  no-value values parts first v e unknown way h = contradicted (go way)
    where
      known_here : is_some (known v.0 (tree_at terms id)) ≡ true → ⊥
      known_here k = let f : true ≡ false = sym k ∙ ap (λ (o : Option Bool). is_some o) (sym (value-at v.0 terms values id v.1 lt) ∙ unknown) in cc

      contradicted : is_some (known v.0 (tree_at terms id)) ≡ true → ⊥
      contradicted k = known_here k

      at_node : (k : ℕ) → first ≤ k → k < length node.parts → known_at values (get_or node.parts k 0) ≢ None
      at_node = subst (λ (ps : List ℕ). (k : ℕ) → first ≤ k → k < length ps → known_at values (get_or ps k 0) ≢ None) e h

      go : ((first ≡ 0) ⊎ ((first ≡ 2) × (node.head ≡ Ite) × (known_at (map (λ p. known_at values p) parts) 0 ≡ Some false))) → is_some (known v.0 (tree_at terms id)) ≡ true
      go (inl z) = all-parts v.0 values v.1 (λ k l. at_node k (omega (arith, z)) l)
      go (inr w) = last-part v.0 values v.1 w.1 (ap (λ ps. known_at (map (λ p. known_at values p) ps) 0) (sym e) ∙ w.2) (λ k g l. at_node k (let s = w.0 in omega arith) l)

-- the way gets one longer
pub one-down : (terms : List Tree) (values : List (Option Bool)) (fact term part : ℕ) → term < length terms → IsOpenPart terms values term part
    → ((b : Trail) → AreValuesUnder b terms values → (way : List Tree) × Reaches b (tree_at terms fact) way (tree_at terms term))
    → (b : Trail) → AreValuesUnder b terms values → (way : List Tree) × Reaches b (tree_at terms fact) way (tree_at terms part)
one-down terms values fact term part lt o way b is =
    let w = way b is in
    let p_in : part < length terms = (let k = o.below in omega arith) in
    (w.0 ++ tree_at terms part ∷ [], reaches-more b (tree_at terms fact) w.0 (tree_at terms term) (tree_at terms part) w.1 o.is_part (sym (value-at b terms values part is p_in) ∙ o.unknown))

pub reached-from : (terms : List Tree) (facts : List ℕ) (values : List (Option Bool)) (place fact n : ℕ) → place < length facts → fact ≡ get_or facts place fact → IsOpenAtom terms values n
    → ((b : Trail) → AreValuesUnder b terms values → (way : List Tree) × Reaches b (tree_at terms fact) way (tree_at terms n))
    → IsReachedAtom (map (λ f. tree_at terms f) facts) terms values n
reached-from terms facts values place fact n h e a way = record {
  open_atom = a;
  reached = λ b is. let w = way b is in (tree_at terms fact, w.0, contains-map (λ f. tree_at terms f) facts place fact h e, w.1);
}

-- a value that is read
pub read-none : (values : List (Option Bool)) (n m : ℕ) (r : Bool) → m ≡ n → is_some (known_at values m) ≡ not r → r ≡ true → known_at values n ≡ None
read-none values n m r e f g = ap (known_at values) (sym e) ∙ go (known_at values m) (f ∙ ap not g)
  where
    go : (o : Option Bool) → is_some o ≡ false → o ≡ None
    go None h = refl
    go (Some x) h = let k : true ≡ false = h in cc
