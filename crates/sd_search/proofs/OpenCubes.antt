-- where nothing is left to do, the values of the atoms are an open cube
use Rattle.std.proofs.Common.{◌≡◌, ◌≢◌, ℕ, zero, suc, ◌<◌, List, [], ◌∷◌, ◌++◌, map, length, refl, sym, ap, ◌∙◌, subst, Bool, true, false, not, cond, Option, Some, None, unwrap_or, is_some, All, arith, ◌⊎◌, inl, inr, get_or}
use Rattle.std.specs.Prelude.{filter}
use Rattle.std.specs.List.{AllByRecursion, flat_map}
use Rattle.sd_rows.specs.Rows.{is_within}
use Rattle.sd_linear.specs.Elimination.{elimination, refuted}
use Rattle.sd_term.specs.declared.cube.Cube.{Cube}
use Rattle.sd_term.specs.declared.cube.Literal.{Literal}
use Rattle.sd_term.specs.Heads.{True}
use Rattle.sd_term.specs.Tree.{Tree, leaf, below, subterms, same_tree, same_tree-true, parts_of}
use Rattle.sd_term.specs.Bank.{tree_at}
use Rattle.sd_term.specs.Sorts.{is_truth_valued, AllWellSorted}
use Rattle.sd_term.specs.Numbering.{has, numbered, AllIn}
use Rattle.sd_term.proofs.Numbers.{has-at, AllIn-left, AllIn-right, below-parts}
use Rattle.sd_term.specs.Closed.{IsClosed}
use Rattle.sd_forms.specs.FactRows.{part_at}
use Rattle.sd_kernel.specs.Known.{Trail, known, known_by_parts}
use Rattle.sd_kernel.proofs.Members.{sorted-in}
use Rattle.sd_cube.specs.Atoms.{is_atom}
use Rattle.sd_cube.specs.Required.{ChoicesHold, OrdersHold, NoneJoined, IsThere, IsTrueEq, choice_eq, order_of, order_back}
use Rattle.sd_cube.specs.CubeTerms.{cube_terms, literals_of}
use Rattle.sd_cube.specs.CubeRows.{rows_if, eliminated_branch}
use Rattle.sd_cube.specs.OpenCube.{AreExtra, AllKnown, AllValued, NoneTwice, NoneOpposite, IsOpenCube}
use Rattle.sd_search.specs.Atoms.{atom_literals}
use Rattle.sd_search.specs.Settled.{IsSettled}
use Rattle.sd_search.proofs.AtomFacts.{atom-by-parts}
use Rattle.sd_search.proofs.Same.{atom_facts, or-cases, not-none-some, some-not-none, AllTruths, known-same, known-some}
use Rattle.sd_search.proofs.Literals.{IsNamed, literals-facts, literals-named, literals-once}

-- no literal on an atom has the opposite value by its parts
none-opposite : (ls b : Trail) (ts : List Tree) → NoneOpposite ls (atom_facts b ts)
none-opposite ls b [] = tt
none-opposite ls b (t ∷ ts) = go (is_atom t) refl (none-opposite ls b ts)
  where
    unjudged : is_atom t ≡ true → (v : Bool) → known_by_parts ls t ≢ Some v
    unjudged a v e = let f : None ≡ Some v = sym (atom-by-parts ls t a) ∙ e in cc

    go : (q : Bool) → is_atom t ≡ q → NoneOpposite ls (atom_facts b ts) → NoneOpposite ls (cond q ((t, unwrap_or (known b t) false) ∷ atom_facts b ts) (atom_facts b ts))
    go true a n = (unjudged a (not (unwrap_or (known b t) false)), n)
    go false a n = n

pub has-place : (ts : List Tree) (t : Tree) → has ts t ≡ true → (n : ℕ) × (n < length ts) × (tree_at ts n ≡ t)
has-place [] t h = let f : false ≡ true = h in cc
has-place (u ∷ ts) t h =
    or-cases (same_tree u t) (has ts t) h
    (λ e. (0, omega arith, same_tree-true u t e))
    (λ e k. let r = has-place ts t k in (suc r.0, omega (arith, r.1), r.2))

-- the parts of terms are terms
pub part-in : (terms : List Tree) (t : Tree) (k : ℕ) → AllIn terms (below t) → (has terms (part_at t k) ≡ true) ⊎ (part_at t k ≡ leaf True)
part-in terms t k h = go (parts_of t) k (subst (AllIn terms) (below-parts t) h)
  where
    go : (ps : List Tree) (n : ℕ) → AllIn terms (flat_map subterms ps) → (has terms (get_or ps n (leaf True)) ≡ true) ⊎ (get_or ps n (leaf True) ≡ leaf True)
    go [] n a = inr refl
    go (p ∷ ps) zero a = inl (AllIn-right terms (below p) (p ∷ []) (AllIn-left terms (subterms p) (flat_map subterms ps) a)).0
    go (p ∷ ps) (suc n) a = go ps n (AllIn-right terms (subterms p) (flat_map subterms ps) a)

module _ (terms : List Tree) (a b : Trail) (same : (t : Tree) → has terms t ≡ true → known a t ≡ known b t) where
  there-moved : (t : Tree) (v : Bool) → IsThere terms b t v → IsThere terms a t v
  there-moved t v h = (h.0, same t h.0 ∙ h.1)

  eqs-moved : (es : List Tree) → AllByRecursion (IsTrueEq terms a) es → AllByRecursion (IsTrueEq terms b) es
  eqs-moved [] h = tt
  eqs-moved (e ∷ es) h = ((h.0.0, (h.0.1.0, sym (same e h.0.1.0) ∙ h.0.1.1)), eqs-moved es h.1)

  orders-moved : OrdersHold terms b → OrdersHold terms a
  orders-moved o = λ e h i k. go e (o e h i (sym (same e h) ∙ k))
    where
      go : (e : Tree) → IsThere terms b (order_of e) false ⊎ IsThere terms b (order_back e) false → IsThere terms a (order_of e) false ⊎ IsThere terms a (order_back e) false
      go e (inl x) = inl (there-moved (order_of e) false x)
      go e (inr x) = inr (there-moved (order_back e) false x)

  joined-moved : NoneJoined terms b → NoneJoined terms a
  joined-moved n = λ e h i k j. n e h i (sym (same e h) ∙ k) (j.0, eqs-moved j.0 j.1, j.2)

  choices-moved : ((t : Tree) → has terms t ≡ true → known a (part_at t 0) ≡ known b (part_at t 0)) → ChoicesHold terms b → ChoicesHold terms a
  choices-moved parts c = λ t h i v k. there-moved (choice_eq t v) true (c t h i v (sym (parts t h) ∙ k))

  rows-same : (ts : List Tree) → ((t : Tree) → has ts t ≡ true → has terms t ≡ true) → flat_map (λ t. rows_if terms t (known a t)) ts ≡ flat_map (λ t. rows_if terms t (known b t)) ts
  rows-same [] h = refl
  rows-same (t ∷ ts) h =
      let one : known a t ≡ known b t = same t (h t (first t ts)) in
      let more = rows-same ts (λ u k. h u (later t u ts k)) in
      λ i. rows_if terms t (one i) ++ more i
    where
      first : (u : Tree) (us : List Tree) → has (u ∷ us) u ≡ true
      first u us = has-at (u ∷ us) u 0 (omega arith) refl

      later : (u v : Tree) (us : List Tree) → has us v ≡ true → has (u ∷ us) v ≡ true
      later u v us k = let r = has-place us v k in has-at (u ∷ us) v (suc r.0) (let lt = r.1 in omega arith) r.2

  refuted-moved : eliminated_branch terms b ≢ refuted → eliminated_branch terms a ≢ refuted
  refuted-moved n e = n (sym (ap (λ rs. elimination (filter is_within rs)) (rows-same terms (λ t h. h))) ∙ e)

  known-moved : (facts : List Tree) → AllIn terms facts → AllKnown b facts → AllKnown a facts
  known-moved [] h k = tt
  known-moved (t ∷ ts) h k = (same t h.0 ∙ k.0, known-moved ts h.1 k.1)

module _ (facts : List Tree) (b : Trail) (cube : Cube) (values : List (Option Bool))
    (extra : AreExtra facts (numbered facts) cube.extra)
    (sorted : AllWellSorted (cube_terms facts cube)) (closed : IsClosed (cube_terms facts cube)) (truths : AllTruths b) (there : AllIn (cube_terms facts cube) facts)
    (settled : IsSettled facts (cube_terms facts cube) b) where
  abbrev terms : List Tree
  terms = cube_terms facts cube

  decided : (t : Tree) → has terms t ≡ true → is_atom t ≡ true → is_some (known b t) ≡ true
  decided t h a =
      let p = has-place terms t h in
      not-none-some (known b t) (λ n. settled.valued p.0 p.1 (ap is_atom p.2 ∙ a) (ap (known b) p.2 ∙ n))

  same : (t : Tree) → has terms t ≡ true → known (atom_facts b terms) t ≡ known b t
  same t h = known-same terms b truths decided t (closed t h)

  same-part : (t : Tree) → has terms t ≡ true → known (atom_facts b terms) (part_at t 0) ≡ known b (part_at t 0)
  same-part t h = go (part-in terms t 0 (AllIn-left terms (below t) (t ∷ []) (closed t h)))
    where
      go : (has terms (part_at t 0) ≡ true) ⊎ (part_at t 0 ≡ leaf True) → known (atom_facts b terms) (part_at t 0) ≡ known b (part_at t 0)
      go (inl e) = same (part_at t 0) e
      go (inr e) = ap (known (atom_facts b terms)) e ∙ sym (ap (known b) e)

  valued : AllValued terms (atom_facts b terms)
  valued = λ n lt s.
      let h : has terms (tree_at terms n) ≡ true = has-at terms (tree_at terms n) n lt refl in
      some-not-none (known (atom_facts b terms) (tree_at terms n))
      (ap (λ (o : Option Bool). is_some o) (same (tree_at terms n) h) ∙ known-some terms b decided (tree_at terms n) (closed (tree_at terms n) h) (sorted-in terms (tree_at terms n) sorted h) s)

  names : All (IsNamed terms b 0 (length terms)) (atom_literals 0 terms (map (λ t. known b t) terms))
  names = literals-named terms b [] terms 0 refl refl

  pub open-cube : values ≡ map (λ t. known b t) terms → cube.literals ≡ atom_literals 0 terms values → IsOpenCube facts cube
  open-cube is lits =
      let e : cube.literals ≡ atom_literals 0 terms (map (λ t. known b t) terms) = lits ∙ ap (λ vs. atom_literals 0 terms vs) is in
      let trail : atom_facts b terms ≡ literals_of terms cube.literals = sym (ap (literals_of terms) e ∙ literals-facts terms b [] terms 0 refl refl) in
      record {
        extra = extra;
        named = subst (λ ls. All (λ (l : Literal). l.term < length terms) ls) (sym e) (λ k d lt. (names k d lt).below);
        sorts = subst (λ ls. All (λ (l : Literal). is_truth_valued (tree_at terms l.term) ≡ true) ls) (sym e) (λ k d lt. (names k d lt).sort);
        once = subst (λ ls. NoneTwice ls) (sym e) (literals-once terms b [] terms 0 refl refl);
        valued = subst (λ fs. AllValued terms fs) trail valued;
        none_opposite = subst (λ fs. NoneOpposite fs fs) trail (none-opposite (atom_facts b terms) b terms);
        facts_true = subst (λ fs. AllKnown fs facts) trail (known-moved terms (atom_facts b terms) b same facts there settled.facts_true);
        choices = subst (λ fs. ChoicesHold terms fs) trail (choices-moved terms (atom_facts b terms) b same same-part settled.choices);
        orders = subst (λ fs. OrdersHold terms fs) trail (orders-moved terms (atom_facts b terms) b same settled.orders);
        none_joined = subst (λ fs. NoneJoined terms fs) trail (joined-moved terms (atom_facts b terms) b same settled.none_joined);
        not_refuted = subst (λ fs. eliminated_branch terms fs ≢ refuted) trail (refuted-moved terms (atom_facts b terms) b same settled.not_refuted);
      }
