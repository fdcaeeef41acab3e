-- terms that are reached from a root by true equalities
use Rattle.std.proofs.Common.{◌≡◌, ℕ, suc, ◌+◌, ◌<◌, ◌≤◌, List, [], ◌∷◌, ◌++◌, map, length, refl, sym, ap, ◌∙◌, subst, Bool, true, inl, inr, Option, Some, arith, length-append}
use Rattle.std.specs.List.{AllByRecursion}
use Rattle.std.proofs.lemmas.Bool.{cases_lt}
use Rattle.std.proofs.lemmas.List.{get_or_append_left, get_or_push, map_push}
use Rattle.sd_term.specs.Tree.{Tree, same_tree-true, same_tree-self}
use Rattle.sd_term.specs.Bank.{tree_at}
use Rattle.sd_term.specs.Sorts.{IsWellSorted}
use Rattle.sd_forms.specs.FactRows.{part_at}
use Rattle.sd_kernel.specs.Known.{Trail, known}
use Rattle.sd_kernel.specs.Steps.{is_eq, other_side, leads}
use Rattle.sd_cube.specs.Required.{IsTrueEq, eq_tree}
use Rattle.sd_euf.specs.declared.links.Link.{Link}
use Rattle.sd_euf.specs.Judged.{HasValues}
use Rattle.sd_euf.specs.Links.{IsEqAt, IsChain, link_at, reached_at, IsLink, AreLinks, IsReached, AreReached, AreMore}
use Rattle.sd_euf.proofs.Shapes.{eq-form, Place, has-place, value-at}
use Rattle.sd_euf.proofs.Joined.{Begins, begins, leads-more, leads-append, all-append, other-back}

pub no-eq : (t : Tree) → IsWellSorted t → ((x y : Tree) → t ≡ eq_tree x y → ⊥) → is_eq t ≡ true → ⊥
no-eq t w n e = n (part_at t 0) (part_at t 1) (eq-form t w e).is

-- ---- one more link

link-kept : (xs : List Link) (x : Link) (k : ℕ) → k < length xs → link_at (xs ++ x ∷ []) k ≡ link_at xs k
link-kept xs x k h = get_or_append_left xs (x ∷ []) (record { term = 0; by = 0; from = 0 }) k h

link-last : (xs : List Link) (x : Link) → link_at (xs ++ x ∷ []) (length xs) ≡ x
link-last xs x = get_or_push xs x (record { term = 0; by = 0; from = 0 }) (length xs) refl

one-more : (xs : List Link) (x : Link) → length (xs ++ x ∷ []) ≡ suc (length xs)
one-more xs x = omega (arith, length-append xs (x ∷ []))

pub more-push : (xs ys zs : List Link) (x : Link) → AreMore xs ys → zs ≡ ys ++ x ∷ [] → AreMore xs zs
more-push xs ys zs x m e =
    subst (AreMore xs) (sym e) (record { longer = λ k h. omega (arith, m.longer k h, one-more ys x); kept = λ k h. link-kept ys x k (m.longer k h) ∙ m.kept k h })

module _ (terms : List Tree) (values : List (Option Bool)) where
  -- a term and an equality that joins it to an earlier one
  pub record Reaches (links : List Link) (x : Link) : Type 0 where
    pub from : x.from < length links
    pub term : x.term < length terms
    pub by : IsEqAt terms values x.by true
    pub other : other_side (tree_at terms x.by) (reached_at terms links x.from) ≡ Some (tree_at terms x.term)

  pub links-push : (xs ys : List Link) (x : Link) → AreLinks terms values xs → Reaches xs x → ys ≡ xs ++ x ∷ [] → AreLinks terms values ys
  links-push xs ys x a r e =
      subst (AreLinks terms values) (sym e)
      (record {
        some = omega (arith, one-more xs x);
        below = λ k h. elim (cases_lt k (length xs)) [
          | inl lt ↦ subst (λ l. l.term < length terms) (sym (link-kept xs x k lt)) (a.below k lt)
          | inr ge ↦ subst (λ l. l.term < length terms) (sym (here k h ge)) r.term
        ];
        down = λ k p h. elim (cases_lt k (length xs)) [
          | inl lt ↦ subst (λ l. l.from < k) (sym (link-kept xs x k lt)) (a.down k p lt)
          | inr ge ↦ subst (λ l. l.from < k) (sym (here k h ge)) (omega (arith, r.from, ge))
        ];
        linked = λ k p h. elim (cases_lt k (length xs)) [ inl lt ↦ earlier k p lt | inr ge ↦ last k (here k h ge) ];
      })
    where
      here : (k : ℕ) → k < length (xs ++ x ∷ []) → length xs ≤ k → link_at (xs ++ x ∷ []) k ≡ x
      here k h ge = let same : k ≡ length xs = omega (arith, one-more xs x, h, ge) in ap (link_at (xs ++ x ∷ [])) same ∙ link-last xs x

      earlier : (k : ℕ) → 0 < k → k < length xs → IsLink terms values (xs ++ x ∷ []) k
      earlier k p lt =
          let f : ℕ = (link_at xs k).from in
          let same : link_at (xs ++ x ∷ []) k ≡ link_at xs k = link-kept xs x k lt in
          let before : link_at (xs ++ x ∷ []) f ≡ link_at xs f = link-kept xs x f (omega (arith, a.down k p lt, lt)) in
          let old : IsLink terms values xs k = a.linked k p lt in
          record {
            by = subst (λ l. IsEqAt terms values l.by true) (sym same) old.by;
            other = (λ i. other_side (tree_at terms (same i).by) (tree_at terms (same i).term)) ∙ old.other ∙ ap (λ l. Some (tree_at terms l.term)) (sym before) ∙ ap (λ l. Some (reached_at terms (xs ++ x ∷ []) l.from)) (sym same);
          }

      last : (k : ℕ) → link_at (xs ++ x ∷ []) k ≡ x → IsLink terms values (xs ++ x ∷ []) k
      last k same =
          let before : link_at (xs ++ x ∷ []) x.from ≡ link_at xs x.from = link-kept xs x x.from r.from in
          record {
            by = subst (λ l. IsEqAt terms values l.by true) (sym same) r.by;
            other = (λ i. other_side (tree_at terms (same i).by) (tree_at terms (same i).term)) ∙ other-back (tree_at terms x.by) (reached_at terms xs x.from) (tree_at terms x.term) r.other
                ∙ ap (λ l. Some (tree_at terms l.term)) (sym before) ∙ ap (λ l. Some (reached_at terms (xs ++ x ∷ []) l.from)) (sym same);
          }

  pub links-root : (xs : List Link) (x : Link) → x.term < length terms → xs ≡ [] ++ x ∷ [] → AreLinks terms values xs
  links-root xs x h is =
      subst (AreLinks terms values) (sym is)
      (record {
        some = omega arith;
        below = λ k lt. let zero-k : 0 ≡ k = omega (arith, lt) in subst (λ j. (link_at (x ∷ []) j).term < length terms) zero-k h;
        down = λ k p lt. absurd (omega (arith, p, lt));
        linked = λ k p lt. absurd (omega (arith, p, lt));
      })

  -- ---- what is reached stays so

  pub still-reached : (xs ys : List Link) (t : Tree) → AreMore xs ys → IsReached terms xs t → IsReached terms ys t
  still-reached xs ys t m r = record { at = r.at; within = m.longer r.at r.within; is = ap (λ l. tree_at terms l.term) (m.kept r.at r.within) ∙ r.is }

  pub still-all : (xs ys : List Link) (k n : ℕ) → AreMore xs ys → k < length xs → AreReached terms values xs k n → AreReached terms values ys k n
  still-all xs ys k n m lt a = λ j h e t o.
      still-reached xs ys t m (a j h e t (ap (λ l. other_side (tree_at terms j) (tree_at terms l.term)) (sym (m.kept k lt)) ∙ o))

  pub here-at : (old xs : List Link) (at here : ℕ) → AreMore old xs → at < length old → here ≡ (link_at old at).term → reached_at terms xs at ≡ tree_at terms here
  here-at old xs at here m lt e = ap (λ l. tree_at terms l.term) (m.kept at lt) ∙ ap (tree_at terms) (sym e)

  pub reached-by : (xs ys : List Link) (p : ℕ) (t u : Tree) → ys ≡ xs → p < length ys → reached_at terms ys p ≡ u → u ≡ t → IsReached terms xs t
  reached-by xs ys p t u e lt is same = subst (λ zs. IsReached terms zs t) e (record { at = p; within = lt; is = is ∙ same })

  pub reached-last : (xs ys : List Link) (x : Link) (t : Tree) → ys ≡ xs ++ x ∷ [] → tree_at terms x.term ≡ t → IsReached terms ys t
  reached-last xs ys x t e is =
      subst (λ zs. IsReached terms zs t) (sym e) (record { at = length xs; within = omega (arith, one-more xs x); is = ap (λ l. tree_at terms l.term) (link-last xs x) ∙ is })

  -- one more equality
  pub reached-more : (xs : List Link) (k n : ℕ) → AreReached terms values xs k n → ((t : Tree) → IsEqAt terms values n true → other_side (tree_at terms n) (reached_at terms xs k) ≡ Some t → IsReached terms xs t)
      → AreReached terms values xs k (n + 1)
  reached-more xs k n a h = λ j lt e t o.
      elim (cases_lt j n) [
        | inl below ↦ a j below e t o
        | inr above ↦ (let same : j ≡ n = omega (arith, lt, above) in h t (subst (λ i. IsEqAt terms values i true) same e) (ap (λ i. other_side (tree_at terms i) (reached_at terms xs k)) (sym same) ∙ o))
      ]

  -- all terms that are joined to the root are reached
  pub reaches-all : (xs : List Link) (trail : Trail) → HasValues terms trail values → ((k : ℕ) → k < length xs → AreReached terms values xs k (length terms))
      → (a : Tree) (es : List Tree) (c : Tree) → AllByRecursion (λ e. IsTrueEq terms trail e) es → leads a es c ≡ true → IsReached terms xs a → IsReached terms xs c
  reaches-all xs trail v h a [] c t l r = subst (IsReached terms xs) (same_tree-true a c l) r
  reaches-all xs trail v h a (e ∷ es) c t l r =
      let s : Begins a e es c = begins a e es c l in
      let p : Place terms e = has-place terms e t.0.1.0 in
      let there : IsEqAt terms values p.at true =
      record { below = p.within; equality = ap is_eq p.is ∙ s.equality; value = value-at terms trail values p.at v p.within ∙ ap (known trail) p.is ∙ t.0.1.1 } in
      reaches-all xs trail v h s.next es c t.1 s.rest
      (h r.at r.within p.at p.within there s.next ((λ i. other_side (p.is i) (r.is i)) ∙ s.other))

  -- ---- back to the root

  pub chain-more : (a : Tree) (ns ms : List ℕ) (b c : Tree) (n : ℕ) → IsChain terms values a ns b → IsEqAt terms values n true → other_side (tree_at terms n) b ≡ Some c → ms ≡ ns ++ n ∷ [] → IsChain terms values a ms c
  chain-more a ns ms b c n h e o is =
      subst (λ l. IsChain terms values a l c) (sym is)
      (record {
        each = all-append (λ m. IsEqAt terms values m true) ns (n ∷ []) h.each (e, tt);
        leading = ap (λ es. leads a es c) (map_push (λ m. tree_at terms m) ns n)
            ∙ leads-append a (map (λ m. tree_at terms m) ns) b (tree_at terms n ∷ []) c h.leading (leads-more b (tree_at terms n) c [] c e.equality o (same_tree-self c));
      })

  pub chain-none : (a c : Tree) (ns : List ℕ) → ns ≡ [] → a ≡ c → IsChain terms values a ns c
  chain-none a c ns is e = subst (λ l. IsChain terms values a l c) (sym is) (record { each = tt; leading = ap (λ t. leads t [] c) e ∙ same_tree-self c })
