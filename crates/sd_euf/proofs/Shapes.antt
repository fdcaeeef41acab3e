-- the forms of terms, by their nodes and by their sorts
use Rattle.std.proofs.Common.{◌≡◌, ℕ, suc, ◌<◌, List, [], ◌∷◌, ◌++◌, length, refl, sym, ap, ◌∙◌, subst, Bool, true, false, arith, length-append, get_or, Some, Option, slice_get, ◌||◌}
use Rattle.std.proofs.lemmas.List.{length-map, get_or-map}
use Rattle.std.proofs.lemmas.Option.{slice_get-get_or}
use Rattle.sd_base.specs.declared.sort.Sort.{Sort}
use Rattle.sd_term.specs.declared.node.Head.{Head}
use Rattle.sd_term.specs.declared.node.TermNode.{TermNode}
use Rattle.sd_term.specs.Heads.{True, Eq, Ite}
use Rattle.sd_term.specs.Tree.{Tree, leaf, call, tree, head_of, parts_of, same_tree-true, same_tree}
use Rattle.sd_term.specs.Bank.{tree_at, tree_of}
use Rattle.sd_term.specs.Numbering.{has}
use Rattle.sd_term.specs.Sorts.{sort_of, sorts_of, Takes, IsWellSorted}
use Rattle.sd_forms.specs.FactRows.{part_at}
use Rattle.sd_kernel.specs.Known.{Trail, known}
use Rattle.sd_kernel.specs.Steps.{is_ite_head, is_eq}
use Rattle.sd_cube.specs.Required.{eq_tree}
use Rattle.sd_term.proofs.Folds.{head_of-node}
use Rattle.sd_term.proofs.Numbers.{node-parts}
use Rattle.sd_kernel.proofs.Values.{is-eq-head, is-ite-head}
use Rattle.sd_euf.specs.Judged.{HasValues}

-- ---- places

pub tree-got : (terms : List Tree) (n : ℕ) → n < length terms → slice_get terms n ≡ Some (tree_at terms n)
tree-got terms n h = slice_get-get_or terms n (leaf True) h

pub value-at : (terms : List Tree) (trail : Trail) (values : List (Option Bool)) (n : ℕ) → HasValues terms trail values → n < length terms → get_or values n Option.None ≡ known trail (tree_at terms n)
value-at terms trail values n e h = ap (λ vs. get_or vs n Option.None) e ∙ get_or-map (λ t. known trail t) terms n (leaf True) Option.None h

-- where a tree of the list stands
pub record Place (terms : List Tree) (t : Tree) : Type 0 where
  pub at : ℕ
  pub within : at < length terms
  pub is : tree_at terms at ≡ t

pub has-place : (terms : List Tree) (t : Tree) → has terms t ≡ true → Place terms t
has-place [] t e = let f : false ≡ true = e in cc
has-place (u ∷ ts) t e = go (same_tree u t) refl e (has-place ts t)
  where
    go : (b : Bool) → same_tree u t ≡ b → b || has ts t ≡ true → (has ts t ≡ true → Place ts t) → Place (u ∷ ts) t
    go true q f h = record { at = 0; within = omega arith; is = same_tree-true u t q }
    go false q f h = let p : Place ts t = h f in record { at = suc p.at; within = omega (arith, p.within); is = p.is }

-- ---- nodes

head-is : (terms : List Tree) (node : TermNode) (t : Tree) → tree_of terms node ≡ t → head_of t ≡ node.head
head-is terms node t e = sym (ap head_of e) ∙ head_of-node terms node

pub other-head : (terms : List Tree) (node : TermNode) (t : Tree) (h : Head) → tree_of terms node ≡ t → (node.head ≡ h → ⊥) → head_of t ≡ h → ⊥
other-head terms node t h e n f = n (sym (head-is terms node t e) ∙ f)

pub part-count : (terms : List Tree) (node : TermNode) (t : Tree) → tree_of terms node ≡ t → length (parts_of t) ≡ length node.parts
part-count terms node t e = ap length (node-parts terms node t e) ∙ length-map node.parts (λ n. tree_at terms n)

-- ---- sorts

count-sorts : (t : Tree) → length (sorts_of t) ≡ length (parts_of t)
count-sorts (leaf h) = refl
count-sorts (call f x) = omega (arith, count-sorts f, length-append (sorts_of f) (sort_of x ∷ []), length-append (parts_of f) (x ∷ []))

pub ite-is : (t : Tree) → is_ite_head (head_of t) ≡ true → head_of t ≡ Ite
ite-is t e = is-ite-head (head_of t) e

pub ite-count : (t : Tree) → IsWellSorted t → is_ite_head (head_of t) ≡ true → length (parts_of t) ≡ 3
ite-count t w e =
    let k : Takes Ite (sorts_of t) = subst (λ h. Takes h (sorts_of t)) (ite-is t e) w.1 in
    sym (count-sorts t) ∙ ap length k.1

-- a tree over two parts
pub two-parts : (t : Tree) (s r : Sort) → sorts_of t ≡ s ∷ r ∷ [] → t ≡ tree (head_of t) (part_at t 0 ∷ part_at t 1 ∷ [])
two-parts (leaf h) s r e = let f : [] ≡ s ∷ r ∷ [] = e in cc
two-parts (call (leaf h) a) s r e = absurd (omega (arith, ap length e))
two-parts (call (call (leaf h) a) b) s r e = refl
two-parts (call (call (call f x) y) z) s r e =
    absurd (omega (arith, ap length e, length-append ((sorts_of f ++ sort_of x ∷ []) ++ sort_of y ∷ []) (sort_of z ∷ []), length-append (sorts_of f ++ sort_of x ∷ []) (sort_of y ∷ []), length-append (sorts_of f) (sort_of x ∷ [])))

-- a well-sorted equality has two sides of one sort
pub record IsEqForm (t : Tree) : Type 0 where
  pub is : t ≡ eq_tree (part_at t 0) (part_at t 1)
  pub sorts : sort_of (part_at t 0) ≡ sort_of (part_at t 1)

pub eq-form : (t : Tree) → IsWellSorted t → is_eq t ≡ true → IsEqForm t
eq-form t w e =
    let h : head_of t ≡ Eq = is-eq-head (head_of t) e in
    let k : Takes Eq (sorts_of t) = subst (λ g. Takes g (sorts_of t)) h w.1 in
    let form : t ≡ eq_tree (part_at t 0) (part_at t 1) = two-parts t k.0 k.0 k.1 ∙ ap (λ g. tree g (part_at t 0 ∷ part_at t 1 ∷ [])) h in
    let same : sort_of (part_at t 0) ∷ sort_of (part_at t 1) ∷ [] ≡ k.0 ∷ k.0 ∷ [] = sym (ap sorts_of form) ∙ k.1 in
    record { is = form; sorts = cc }

-- a list that has none of a tree lacks it
pub has-none : (terms : List Tree) (t : Tree) → ((n : ℕ) → n < length terms → tree_at terms n ≡ t → ⊥) → has terms t ≡ false
has-none terms t f = go (has terms t) refl
  where
    go : (b : Bool) → has terms t ≡ b → b ≡ false
    go true e = let p = has-place terms t e in absurd (f p.at p.within p.is)
    go false e = refl
