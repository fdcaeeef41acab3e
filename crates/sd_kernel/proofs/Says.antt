-- what is known of a term in a branch holds of its value wherever the facts of the branch are true
use Rattle.std.proofs.Common.{◌≡◌, ℕ, zero, suc, List, [], ◌∷◌, ◌++◌, refl, sym, ap, ◌∙◌, subst, Bool, true, false, not, ◌&&◌, ◌||◌, cond, Option, Some, None, unwrap_or}
use Rattle.sd_term.specs.declared.node.Head.{Head}
use Rattle.sd_term.specs.Heads.{True, False, Not, And, Or, Eq, Ite}
use Rattle.sd_base.specs.declared.sort.Sort.{Sort}
use Rattle.sd_base.specs.declared.sort.Sort.{Bool as Truth}
use Rattle.sd_term.specs.Tree.{Tree, leaf, call, head_of, at_parts, same_tree, same_tree-true}
use Rattle.sd_term.specs.Sorts.{is_truth_sort, sort_at, sort_by, sorts_of}
use Rattle.sd_base.specs.Value.{Value, Truth as truth, same_value}
use Rattle.sd_base.specs.Meaning.{truth_of}
use Rattle.sd_base.specs.Cast.{cast}
use Rattle.sd_term.proofs.Typed.{is-truth-sort}
use Rattle.sd_term.specs.Truth.{same_bool, Valuation, value_at, apply, values, value}
use Rattle.sd_kernel.specs.Known.{Fact, Trail, first_fact, not3, and3, or3, iff3, ite3, known_at, if_truth, by_parts, known_by, known, known_by_parts, is_known}

abbrev pub IsTrueFact : Valuation → Fact → Type 0
IsTrueFact v f = value v f.0 ≡ truth f.1

abbrev pub AllTrue : Valuation → Trail → Type 0
AllTrue v [] = Unit {0}
AllTrue v (f ∷ fs) = IsTrueFact v f × AllTrue v fs

-- what is known is the value
abbrev pub Says : Option Bool → Value → Type 0
Says None x = Unit {0}
Says (Some b) x = x ≡ truth b

abbrev pub Agree : List (Option Bool) → List Value → Type 0
Agree [] [] = Unit {0}
Agree [] (x ∷ xs) = ⊥
Agree (k ∷ ks) [] = ⊥
Agree (k ∷ ks) (x ∷ xs) = Says k x × Agree ks xs

pub agree-snoc : (ks : List (Option Bool)) (xs : List Value) (k : Option Bool) (x : Value) → Agree ks xs → Says k x → Agree (ks ++ k ∷ []) (xs ++ x ∷ [])
agree-snoc [] [] k x a s = (s, tt)
agree-snoc [] (y ∷ xs) k x a s = absurd a
agree-snoc (l ∷ ks) [] k x a s = absurd a
agree-snoc (l ∷ ks) (y ∷ xs) k x a s = (a.0, agree-snoc ks xs k x a.1 s)

pub agree-at : (ks : List (Option Bool)) (xs : List Value) → Agree ks xs → (n : ℕ) → Says (known_at ks n) (value_at xs n)
agree-at [] [] a n = tt
agree-at [] (x ∷ xs) a n = absurd a
agree-at (k ∷ ks) [] a n = absurd a
agree-at (k ∷ ks) (x ∷ xs) a zero = a.0
agree-at (k ∷ ks) (x ∷ xs) a (suc n) = agree-at ks xs a.1 n

not3-says : (k : Option Bool) (x : Value) → Says k x → Says (not3 k) (truth (not (truth_of x)))
not3-says None x s = tt
not3-says (Some a) x s = ap (λ y. truth (not (truth_of y))) s

and3-says : (k l : Option Bool) (x y : Value) → Says k x → Says l y → Says (and3 k l) (truth (truth_of x && truth_of y))
and3-says (Some true) (Some b) x y s t = λ i. truth (truth_of (s i) && truth_of (t i))
and3-says (Some true) None x y s t = tt
and3-says (Some false) l x y s t = ap (λ z. truth (truth_of z && truth_of y)) s
and3-says None (Some true) x y s t = tt
and3-says None (Some false) x y s t = ap (λ z. truth (truth_of x && truth_of z)) t ∙ ap truth (and-false (truth_of x))
  where
    and-false : (b : Bool) → b && false ≡ false
    and-false true = refl
    and-false false = refl
and3-says None None x y s t = tt

or3-says : (k l : Option Bool) (x y : Value) → Says k x → Says l y → Says (or3 k l) (truth (truth_of x || truth_of y))
or3-says (Some true) l x y s t = ap (λ z. truth (truth_of z || truth_of y)) s
or3-says (Some false) (Some b) x y s t = λ i. truth (truth_of (s i) || truth_of (t i))
or3-says (Some false) None x y s t = tt
or3-says None (Some true) x y s t = ap (λ z. truth (truth_of x || truth_of z)) t ∙ ap truth (or-true (truth_of x))
  where
    or-true : (b : Bool) → b || true ≡ true
    or-true true = refl
    or-true false = refl
or3-says None (Some false) x y s t = tt
or3-says None None x y s t = tt

same-truths : (a b : Bool) → same_value (truth a) (truth b) ≡ same_bool a b
same-truths true b = refl
same-truths false true = refl
same-truths false false = refl

iff3-says : (k l : Option Bool) (x y : Value) → Says k x → Says l y → Says (iff3 k l) (truth (same_value x y))
iff3-says (Some a) (Some b) x y s t = (λ i. truth (same_value (s i) (t i))) ∙ ap truth (same-truths a b)
iff3-says (Some a) None x y s t = tt
iff3-says None l x y s t = tt

ite3-says : (k l m : Option Bool) (x y z : Value) → Says k x → Says l y → Says m z → Says (ite3 k l m) (cond (truth_of x) y z)
ite3-says (Some true) l m x y z s t u = subst (λ w. Says l (cond (truth_of w) y z)) (sym s) t
ite3-says (Some false) l m x y z s t u = subst (λ w. Says m (cond (truth_of w) y z)) (sym s) u
ite3-says None l m x y z s t u = tt

abbrev pub PartsSay : Option (Option Bool) → Value → Type 0
PartsSay None x = Unit {0}
PartsSay (Some k) x = Says k x

if_truth-says : (s : Sort) (k : Option Bool) (x : Value) → Says k x → PartsSay (if_truth s k) x
if_truth-says s k x h = go (is_truth_sort s)
  where
    go : (b : Bool) → PartsSay (cond b (Some k) None) x
    go true = h
    go false = tt

-- a cast does nothing where something is known
pub cast-says : (k : Option Bool) (x : Value) → Says k x → Says k (cast Truth x)
cast-says None x h = tt
cast-says (Some b) x h = ap (cast Truth) h

pub if_truth-cast : (s : Sort) (k : Option Bool) (x : Value) → Says k x → PartsSay (if_truth s k) (cast s x)
if_truth-cast s k x h = go (is_truth_sort s) refl
  where
    go : (b : Bool) → is_truth_sort s ≡ b → PartsSay (cond b (Some k) None) (cast s x)
    go true e = subst (λ r. Says k (cast r x)) (sym (is-truth-sort s e)) (cast-says k x h)
    go false e = tt

pub same_bool-true : (c b : Bool) → same_bool c b ≡ true → c ≡ b
same_bool-true true true e = refl
same_bool-true true false e = let f : false ≡ true = e in cc
same_bool-true false true e = let f : false ≡ true = e in cc
same_bool-true false false e = refl

pub is_known-says : (k : Option Bool) (x : Value) (b : Bool) → Says k x → is_known k b ≡ true → x ≡ truth b
is_known-says None x b s e = let f : false ≡ true = e in cc
is_known-says (Some c) x b s e = s ∙ ap truth (same_bool-true c b e)

module _ (v : Valuation) where
  -- one line for each head
  pub by_parts-says : (h : Head) (ss : List Sort) (ks : List (Option Bool)) (xs : List Value) → Agree ks xs → PartsSay (by_parts h ss ks) (apply v h (sort_by h ss) xs)
  by_parts-says True ss ks xs a = refl
  by_parts-says False ss ks xs a = refl
  by_parts-says Not ss ks xs a = not3-says (known_at ks 0) (value_at xs 0) (agree-at ks xs a 0)
  by_parts-says And ss ks xs a = and3-says (known_at ks 0) (known_at ks 1) (value_at xs 0) (value_at xs 1) (agree-at ks xs a 0) (agree-at ks xs a 1)
  by_parts-says Or ss ks xs a = or3-says (known_at ks 0) (known_at ks 1) (value_at xs 0) (value_at xs 1) (agree-at ks xs a 0) (agree-at ks xs a 1)
  by_parts-says Eq ss ks xs a =
      if_truth-says (sort_at ss 0) (iff3 (known_at ks 0) (known_at ks 1)) (truth (same_value (value_at xs 0) (value_at xs 1)))
      (iff3-says (known_at ks 0) (known_at ks 1) (value_at xs 0) (value_at xs 1) (agree-at ks xs a 0) (agree-at ks xs a 1))
  by_parts-says Ite ss ks xs a =
      if_truth-cast (sort_at ss 1) (ite3 (known_at ks 0) (known_at ks 1) (known_at ks 2)) (cond (truth_of (value_at xs 0)) (value_at xs 1) (value_at xs 2))
      (ite3-says (known_at ks 0) (known_at ks 1) (known_at ks 2) (value_at xs 0) (value_at xs 1) (value_at xs 2) (agree-at ks xs a 0) (agree-at ks xs a 1) (agree-at ks xs a 2))
  by_parts-says _ ss ks xs a = tt

  pub first_fact-says : (trail : Trail) → AllTrue v trail → (t : Tree) → Says (first_fact trail t) (value v t)
  first_fact-says [] a t = tt
  first_fact-says (f ∷ fs) a t = go (same_tree f.0 t) refl (first_fact-says fs a.1 t)
    where
      go : (b : Bool) → same_tree f.0 t ≡ b → Says (first_fact fs t) (value v t) → Says (cond b (Some f.1) (first_fact fs t)) (value v t)
      go true e more = subst (λ u. value v u ≡ truth f.1) (same_tree-true f.0 t e) a.0
      go false e more = more

  unwrap-says : (o : Option (Option Bool)) (k : Option Bool) (x : Value) → PartsSay o x → Says k x → Says (unwrap_or o k) x
  unwrap-says None k x p s = s
  unwrap-says (Some l) k x p s = p

  module _ (trail : Trail) (a : AllTrue v trail) where
    pub parts-agree : (t : Tree) → Agree (at_parts (known_by trail) t) (values v t)
    parts-agree (leaf h) = tt
    parts-agree (call f x) =
        agree-snoc (at_parts (known_by trail) f) (values v f) (known trail x) (value v x) (parts-agree f)
        (unwrap-says (by_parts (head_of x) (sorts_of x) (at_parts (known_by trail) x)) (first_fact trail x) (value v x)
        (by_parts-says (head_of x) (sorts_of x) (at_parts (known_by trail) x) (values v x) (parts-agree x)) (first_fact-says trail a x))

    pub known-says : (t : Tree) → Says (known trail t) (value v t)
    known-says t =
        unwrap-says (by_parts (head_of t) (sorts_of t) (at_parts (known_by trail) t)) (first_fact trail t) (value v t)
        (by_parts-says (head_of t) (sorts_of t) (at_parts (known_by trail) t) (values v t) (parts-agree t)) (first_fact-says trail a t)

    pub known_by_parts-says : (t : Tree) → Says (known_by_parts trail t) (value v t)
    known_by_parts-says t =
        unwrap-says (by_parts (head_of t) (sorts_of t) (at_parts (known_by trail) t)) None (value v t)
        (by_parts-says (head_of t) (sorts_of t) (at_parts (known_by trail) t) (values v t) (parts-agree t)) tt
