-- atoms: truth-valued terms that aren't judged by their parts
use Rattle.std.proofs.Common.{◌≡◌, List, [], ◌∷◌, ◌++◌, refl, ap, ◌∙◌, Bool, true, false, not, ◌&&◌, cond, Option, Some, None, unwrap_or, is_some}
use Rattle.sd_base.specs.declared.sort.Sort.{Sort}
use Rattle.sd_term.specs.declared.node.Head.{Head}
use Rattle.sd_term.specs.Heads.{True, False, Not, And, Or, Eq, Ite}
use Rattle.sd_term.specs.Tree.{Tree, head_of, at_parts, same_tree, same_tree-self, and-left, and-right}
use Rattle.sd_term.specs.Sorts.{is_truth_sort, is_truth_valued, sort_at, sorts_of}
use Rattle.sd_kernel.specs.Known.{Fact, Trail, first_fact, by_parts, known_by, known, known_by_parts, if_truth}
use Rattle.sd_cube.specs.Atoms.{is_atom}

if_truth-some : (s : Sort) (k l : Option Bool) → is_some (if_truth s k) ≡ is_some (if_truth s l)
if_truth-some s k l = go (is_truth_sort s)
  where
    go : (b : Bool) → is_some (cond b (Some k) None) ≡ is_some (cond b (Some l) None)
    go true = refl
    go false = refl

-- whether a head is judged by its parts doesn't hang on what is known of them
pub judged-same : (h : Head) (ss : List Sort) (ks ls : List (Option Bool)) → is_some (by_parts h ss ks) ≡ is_some (by_parts h ss ls)
judged-same True ss ks ls = refl
judged-same False ss ks ls = refl
judged-same Not ss ks ls = refl
judged-same And ss ks ls = refl
judged-same Or ss ks ls = refl
judged-same Eq ss ks ls = if_truth-some (sort_at ss 0) _ _
judged-same Ite ss ks ls = if_truth-some (sort_at ss 1) _ _
judged-same _ ss ks ls = refl

none-of : (o : Option (Option Bool)) → is_some o ≡ false → o ≡ None
none-of None e = refl
none-of (Some k) e = let f : true ≡ false = e in cc

not-true : (b : Bool) → not b ≡ true → b ≡ false
not-true true e = let f : false ≡ true = e in cc
not-true false e = refl

pub atom-truth : (t : Tree) → is_atom t ≡ true → is_truth_valued t ≡ true
atom-truth t e = and-left (is_truth_valued t) (not (is_some (by_parts (head_of t) (sorts_of t) []))) e

pub atom-unjudged : (t : Tree) (ks : List (Option Bool)) → is_atom t ≡ true → by_parts (head_of t) (sorts_of t) ks ≡ None
atom-unjudged t ks e =
    none-of (by_parts (head_of t) (sorts_of t) ks)
    (judged-same (head_of t) (sorts_of t) ks []
    ∙ not-true (is_some (by_parts (head_of t) (sorts_of t) [])) (and-right (is_truth_valued t) (not (is_some (by_parts (head_of t) (sorts_of t) []))) e))

pub unjudged-atom : (t : Tree) (ks : List (Option Bool)) → is_truth_valued t ≡ true → by_parts (head_of t) (sorts_of t) ks ≡ None → is_atom t ≡ true
unjudged-atom t ks s e =
    (λ i. s i && not (is_some (by_parts (head_of t) (sorts_of t) [])))
    ∙ ap not (judged-same (head_of t) (sorts_of t) [] ks ∙ ap (λ (o : Option (Option Bool)). is_some o) e)

pub atom-known : (b : Trail) (t : Tree) → is_atom t ≡ true → known b t ≡ first_fact b t
atom-known b t e = ap (λ (o : Option (Option Bool)). unwrap_or o (first_fact b t)) (atom-unjudged t (at_parts (known_by b) t) e)

pub atom-by-parts : (b : Trail) (t : Tree) → is_atom t ≡ true → known_by_parts b t ≡ None
atom-by-parts b t e = ap (λ (o : Option (Option Bool)). unwrap_or o None) (atom-unjudged t (at_parts (known_by b) t) e)

-- ---- first facts

pub first-none-right : (a b : Trail) (t : Tree) → first_fact (a ++ b) t ≡ None → first_fact b t ≡ None
first-none-right [] b t e = e
first-none-right (f ∷ a) b t e = go (same_tree f.0 t) e (λ h. first-none-right a b t h)
  where
    go : (q : Bool) → cond q (Some f.1) (first_fact (a ++ b) t) ≡ None → (first_fact (a ++ b) t ≡ None → first_fact b t ≡ None) → first_fact b t ≡ None
    go true e ih = cc
    go false e ih = ih e

pub first-none-left : (a b : Trail) (t : Tree) → first_fact (a ++ b) t ≡ None → first_fact a t ≡ None
first-none-left [] b t e = refl
first-none-left (f ∷ a) b t e = go (same_tree f.0 t) e (λ h. first-none-left a b t h)
  where
    go : (q : Bool) → cond q (Some f.1) (first_fact (a ++ b) t) ≡ None → (first_fact (a ++ b) t ≡ None → first_fact a t ≡ None) → cond q (Some f.1) (first_fact a t) ≡ None
    go true e ih = cc
    go false e ih = ih e

pub first-other : (f : Fact) (fs : Trail) (t : Tree) → first_fact (f ∷ []) t ≡ None → first_fact (f ∷ fs) t ≡ first_fact fs t
first-other f fs t e = go (same_tree f.0 t) e
  where
    go : (q : Bool) → cond q (Some f.1) None ≡ None → cond q (Some f.1) (first_fact fs t) ≡ first_fact fs t
    go true e = cc
    go false e = refl

pub first-here : (f : Fact) (fs : Trail) → first_fact (f ∷ fs) f.0 ≡ Some f.1
first-here f fs = ap (λ q. cond q (Some f.1) (first_fact fs f.0)) (same_tree-self f.0)
