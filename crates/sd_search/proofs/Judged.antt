-- heads that are judged by their parts: which sorts these have, and when the value is known
use Rattle.std.proofs.Common.{◌≡◌, ℕ, zero, suc, ◌<◌, List, [], ◌∷◌, ◌++◌, length, refl, sym, ap, ◌∙◌, subst, Bool, true, false, cond, Option, Some, None, is_some, arith}
use Rattle.sd_base.specs.declared.sort.Sort.{Sort, Bool as Truth}
use Rattle.sd_term.specs.declared.node.Head.{Head}
use Rattle.sd_term.specs.Heads.{True, False, Not, And, Or, Eq, Ite}
use Rattle.sd_term.specs.Sorts.{is_truth_sort, sort_at, Takes}
use Rattle.sd_term.proofs.Typed.{is-truth-sort}
use Rattle.sd_cube.proofs.Cubes.{AllTruth}
use Rattle.sd_kernel.specs.Known.{not3, and3, or3, iff3, ite3, known_at, if_truth, by_parts}

-- a truth-valued part has a value, and there are as many as sorts
abbrev pub AreKnown : List (Option Bool) → List Sort → Type 0
AreKnown [] [] = Unit {0}
AreKnown [] (s ∷ ss) = ⊥
AreKnown (k ∷ ks) [] = ⊥
AreKnown (k ∷ ks) (s ∷ ss) = (is_truth_sort s ≡ true → is_some k ≡ true) × AreKnown ks ss

pub are-known-last : (ks : List (Option Bool)) (ss : List Sort) (k : Option Bool) (s : Sort) → AreKnown ks ss → (is_truth_sort s ≡ true → is_some k ≡ true) → AreKnown (ks ++ k ∷ []) (ss ++ s ∷ [])
are-known-last [] [] k s a e = (e, tt)
are-known-last [] (r ∷ ss) k s a e = absurd a
are-known-last (l ∷ ks) [] k s a e = absurd a
are-known-last (l ∷ ks) (r ∷ ss) k s a e = (a.0, are-known-last ks ss k s a.1 e)

are-known-at : (ks : List (Option Bool)) (ss : List Sort) (n : ℕ) → AreKnown ks ss → n < length ss → is_truth_sort (sort_at ss n) ≡ true → is_some (known_at ks n) ≡ true
are-known-at [] [] n a h s = absurd (omega (arith, h))
are-known-at [] (r ∷ ss) n a h s = absurd a
are-known-at (k ∷ ks) [] n a h s = absurd a
are-known-at (k ∷ ks) (r ∷ ss) zero a h s = a.0 s
are-known-at (k ∷ ks) (r ∷ ss) (suc n) a h s = are-known-at ks ss n a.1 (omega (arith, h)) s

not-some : (k : Option Bool) → is_some k ≡ true → is_some (not3 k) ≡ true
not-some (Some a) e = refl
not-some None e = e

and-some : (k l : Option Bool) → is_some k ≡ true → is_some l ≡ true → is_some (and3 k l) ≡ true
and-some (Some true) l e f = f
and-some (Some false) l e f = refl
and-some None (Some true) e f = e
and-some None (Some false) e f = refl
and-some None None e f = e

or-some : (k l : Option Bool) → is_some k ≡ true → is_some l ≡ true → is_some (or3 k l) ≡ true
or-some (Some true) l e f = refl
or-some (Some false) l e f = f
or-some None (Some true) e f = refl
or-some None (Some false) e f = e
or-some None None e f = e

iff-some : (k l : Option Bool) → is_some k ≡ true → is_some l ≡ true → is_some (iff3 k l) ≡ true
iff-some (Some a) (Some b) e f = refl
iff-some (Some a) None e f = f
iff-some None l e f = e

ite-some : (k l m : Option Bool) → is_some k ≡ true → is_some l ≡ true → is_some m ≡ true → is_some (ite3 k l m) ≡ true
ite-some (Some true) l m e f g = f
ite-some (Some false) l m e f g = g
ite-some None l m e f g = e

abbrev pub IfJudged : Option (Option Bool) → Type 0
IfJudged None = Unit {0}
IfJudged (Some k) = is_some k ≡ true

pub if-truth-judged : (s : Sort) (k : Option Bool) → (is_truth_sort s ≡ true → is_some k ≡ true) → IfJudged (if_truth s k)
if-truth-judged s k e = go (is_truth_sort s) e
  where
    go : (b : Bool) → (b ≡ true → is_some k ≡ true) → IfJudged (cond b (Some k) None)
    go true f = f refl
    go false f = tt

-- a judged head whose truth-valued parts are known is known
pub judged-some : (h : Head) (ss : List Sort) (ks : List (Option Bool)) → Takes h ss → AreKnown ks ss → IfJudged (by_parts h ss ks)
judged-some True ss ks t a = refl
judged-some False ss ks t a = refl
judged-some Not ss ks t a =
    let long : length ss ≡ 1 = ap length t in
    not-some (known_at ks 0) (are-known-at ks ss 0 a (omega (arith, long)) (ap (λ l. is_truth_sort (sort_at l 0)) t))
judged-some And ss ks t a =
    let long : length ss ≡ 2 = ap length t in
    and-some (known_at ks 0) (known_at ks 1) (are-known-at ks ss 0 a (omega (arith, long)) (ap (λ l. is_truth_sort (sort_at l 0)) t)) (are-known-at ks ss 1 a (omega (arith, long)) (ap (λ l. is_truth_sort (sort_at l 1)) t))
judged-some Or ss ks t a =
    let long : length ss ≡ 2 = ap length t in
    or-some (known_at ks 0) (known_at ks 1) (are-known-at ks ss 0 a (omega (arith, long)) (ap (λ l. is_truth_sort (sort_at l 0)) t)) (are-known-at ks ss 1 a (omega (arith, long)) (ap (λ l. is_truth_sort (sort_at l 1)) t))
judged-some Eq ss ks t a =
    let long : length ss ≡ 2 = ap length t.1 in
    let same : sort_at ss 1 ≡ sort_at ss 0 = ap (λ l. sort_at l 1) t.1 ∙ sym (ap (λ l. sort_at l 0) t.1) in
    if-truth-judged (sort_at ss 0) (iff3 (known_at ks 0) (known_at ks 1))
    (λ e. iff-some (known_at ks 0) (known_at ks 1) (are-known-at ks ss 0 a (omega (arith, long)) e) (are-known-at ks ss 1 a (omega (arith, long)) (ap is_truth_sort same ∙ e)))
judged-some Ite ss ks t a =
    let long : length ss ≡ 3 = ap length t.1 in
    let same : sort_at ss 2 ≡ sort_at ss 1 = ap (λ l. sort_at l 2) t.1 ∙ sym (ap (λ l. sort_at l 1) t.1) in
    if-truth-judged (sort_at ss 1) (ite3 (known_at ks 0) (known_at ks 1) (known_at ks 2))
    (λ e. ite-some (known_at ks 0) (known_at ks 1) (known_at ks 2) (are-known-at ks ss 0 a (omega (arith, long)) (ap (λ l. is_truth_sort (sort_at l 0)) t.1))
    (are-known-at ks ss 1 a (omega (arith, long)) e) (are-known-at ks ss 2 a (omega (arith, long)) (ap is_truth_sort same ∙ e)))
judged-some _ ss ks t a = tt

-- a choice by a false condition
pub second-some : (ss : List Sort) (ks : List (Option Bool)) → known_at ks 0 ≡ Some false → is_some (known_at ks 2) ≡ true → IfJudged (by_parts Ite ss ks)
second-some ss ks c e = if-truth-judged (sort_at ss 1) (ite3 (known_at ks 0) (known_at ks 1) (known_at ks 2)) (λ s. ap (λ o. is_some (ite3 o (known_at ks 1) (known_at ks 2))) c ∙ e)

if-truth-sort : (s : Sort) (k : Option Bool) → is_some (if_truth s k) ≡ true → s ≡ Truth
if-truth-sort s k e = go (is_truth_sort s) refl e
  where
    go : (b : Bool) → is_truth_sort s ≡ b → is_some (cond b (Some k) None) ≡ true → s ≡ Truth
    go true t e = is-truth-sort s t
    go false t e = let f : false ≡ true = e in cc

pub judged-truths : (h : Head) (ss : List Sort) (ks : List (Option Bool)) → Takes h ss → is_some (by_parts h ss ks) ≡ true → AllTruth ss
judged-truths True ss ks t e = subst AllTruth (sym t) tt
judged-truths False ss ks t e = subst AllTruth (sym t) tt
judged-truths Not ss ks t e = subst AllTruth (sym t) (refl, tt)
judged-truths And ss ks t e = subst AllTruth (sym t) (refl, (refl, tt))
judged-truths Or ss ks t e = subst AllTruth (sym t) (refl, (refl, tt))
judged-truths Eq ss ks t e =
    let s : t.0 ≡ Truth = sym (ap (λ l. sort_at l 0) t.1) ∙ if-truth-sort (sort_at ss 0) (iff3 (known_at ks 0) (known_at ks 1)) e in
    subst AllTruth (sym t.1) (s, (s, tt))
judged-truths Ite ss ks t e =
    let s : t.0 ≡ Truth = sym (ap (λ l. sort_at l 1) t.1) ∙ if-truth-sort (sort_at ss 1) (ite3 (known_at ks 0) (known_at ks 1) (known_at ks 2)) e in
    subst AllTruth (sym t.1) (refl, (s, (s, tt)))
judged-truths _ ss ks t e = let f : false ≡ true = e in cc
