-- a well-sorted comparison has two parts
use Rattle.std.proofs.Common.{◌≡◌, ℕ, ◌<◌, List, [], ◌∷◌, length, get_or, slice_get, Some, None, refl, sym, ap, ◌∙◌, Bool, true, false, ◌||◌, ◌&&◌, arith, length-append}
use Rattle.sd_base.specs.declared.sort.Sort.{Sort, Int}
use Rattle.sd_term.specs.declared.node.Head.{Head}
use Rattle.sd_term.specs.declared.node.Head.TheVariants.{Op as Plain}
use Rattle.sd_term.specs.declared.node.Op.{Op}
use Rattle.sd_term.specs.declared.node.Op.TheVariants as op
use Rattle.sd_term.specs.declared.node.TermNode.{TermNode}
use Rattle.sd_term.specs.Heads.{True, Eq, Le}
use Rattle.sd_term.specs.Tree.{Tree, leaf, call, head_of, parts_of}
use Rattle.sd_term.specs.Sorts.{sort_of, sorts_of, Takes, IsWellSorted}
use Rattle.sd_term.specs.Bank.{tree_at, tree_of}
use Rattle.sd_term.proofs.Folds.{head_of-node, get_or-some}
use Rattle.std.proofs.lemmas.List.{length-map}
use Rattle.sd_term.proofs.Numbers.{node-parts, part-at}
use Rattle.sd_base.proofs.Lists.{get_or-map_none, slice_get-map_some}
use Rattle.sd_forms.specs.FactRows.{part_at, is_int_sort, is_le_head, is_eq_head, is_le, is_comparison}

-- the sorts of a comparison's parts
takes-two : (h : Head) (ss : List Sort) (b : Bool) → Takes h ss → is_le_head h || (is_eq_head h && b) ≡ true → length ss ≡ 2
takes-two Le ss b k e = ap length k
takes-two Eq ss b k e = ap length k.1
takes-two _ ss b k e = let f : false ≡ true = e in absurd (cc)

length-sorts_of : (t : Tree) → length (sorts_of t) ≡ length (parts_of t)
length-sorts_of (leaf h) = refl
length-sorts_of (call f x) = omega (arith, length-append (sorts_of f) (sort_of x ∷ []), length-append (parts_of f) (x ∷ []), length-sorts_of f)

pub two-parts : (t : Tree) → IsWellSorted t → is_comparison t ≡ true → length (parts_of t) ≡ 2
two-parts t w e = sym (length-sorts_of t) ∙ takes-two (head_of t) (sorts_of t) (is_int_sort (sort_of (part_at t 0))) w.1 e

-- the part of a node's tree at a place
pub part_at-node : (terms : List Tree) (node : TermNode) (t : Tree) (ps : List ℕ) (k p : ℕ) → tree_of terms node ≡ t → ps ≡ node.parts → k < length ps → p ≡ get_or ps k p → part_at t k ≡ tree_at terms p
part_at-node terms node t ps k p at e h is = get_or-some (parts_of t) k (leaf True) (tree_at terms p) (part-at terms node t ps k p at e h is)

pub part_at-none : (terms : List Tree) (node : TermNode) (t : Tree) (k : ℕ) → tree_of terms node ≡ t → slice_get node.parts k ≡ None → part_at t k ≡ leaf True
part_at-none terms node t k at e = ap (λ ts. get_or ts k (leaf True)) (node-parts terms node t at) ∙ get_or-map_none (λ n. tree_at terms n) node.parts k (leaf True) e

pub part_at-some : (terms : List Tree) (node : TermNode) (t : Tree) (k p : ℕ) → tree_of terms node ≡ t → slice_get node.parts k ≡ Some p → part_at t k ≡ tree_at terms p
part_at-some terms node t k p at e =
    get_or-some (parts_of t) k (leaf True) (tree_at terms p) (ap (λ ts. slice_get ts k) (node-parts terms node t at) ∙ slice_get-map_some (λ n. tree_at terms n) node.parts k p e)

pub two-numbers : (terms : List Tree) (node : TermNode) (t : Tree) → tree_of terms node ≡ t → IsWellSorted t → is_comparison t ≡ true → length node.parts ≡ 2
two-numbers terms node t at w e = sym (length-map node.parts (λ n. tree_at terms n)) ∙ sym (ap length (node-parts terms node t at)) ∙ two-parts t w e

-- tests of a node's head
pub le-node : (terms : List Tree) (node : TermNode) (t : Tree) (h : Head) → tree_of terms node ≡ t → node.head ≡ h → is_le_head h ≡ is_le t
le-node terms node t h at e = sym (ap (λ u. is_le u) (sym at) ∙ ap is_le_head (head_of-node terms node ∙ e))

pub eq-node : (terms : List Tree) (node : TermNode) (t : Tree) (h : Head) → tree_of terms node ≡ t → node.head ≡ h → is_eq_head h ≡ is_eq_head (head_of t)
eq-node terms node t h at e = sym (ap (λ u. is_eq_head (head_of u)) (sym at) ∙ ap is_eq_head (head_of-node terms node ∙ e))

pub le-op : (o : Op) → (o ≡ op.Le → ⊥) → false ≡ is_le_head (Plain o)
le-op op.Le n = absurd (n refl)
le-op _ n = refl

pub le-other : (h : Head) → ((o : Op) → h ≡ Plain o → ⊥) → false ≡ is_le_head h
le-other (Plain o) n = absurd (n o refl)
le-other _ n = refl

pub eq-op : (o : Op) → (o ≡ op.Eq → ⊥) → false ≡ is_eq_head (Plain o)
eq-op op.Eq n = absurd (n refl)
eq-op _ n = refl

pub eq-other : (h : Head) → ((o : Op) → h ≡ Plain o → ⊥) → false ≡ is_eq_head h
eq-other (Plain o) n = absurd (n o refl)
eq-other _ n = refl

pub other-sort : (s : Sort) → (s ≡ Int → ⊥) → false ≡ is_int_sort s
other-sort Int n = absurd (n refl)
other-sort _ n = refl
