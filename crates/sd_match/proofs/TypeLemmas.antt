-- Tests of types by position.
use Rattle.std.proofs.Common.{◌≡◌, ◌≢◌, ◌∙◌, sym, ap, refl, ℕ, suc, ◌+◌, ◌<◌, Bool, true, false, List, [], ◌∷◌, length, get_or, drop, arith}
use Rattle.sd_base.proofs.Lists.{drop-at}
use Rattle.sd_base.proofs.SortLemmas.{same_sort-test}
use Rattle.std.specs.Prelude.{◌&&◌, ◌↔◌, IsTrue}
use Rattle.sd_base.specs.declared.Sort.{Sort}
use Rattle.sd_base.specs.declared.Var.{Var}
use Rattle.sd_core.specs.Formed.{same_sort}
use Rattle.sd_match.specs.Pairs.{same_sorts}
use Rattle.sd_match.specs.Refusals.{all_same_sorts}

and_false : (b : Bool) → (b && false) ≡ false
and_false true = refl
and_false false = refl

pub same_sorts-differ : (xs ys : List Var) → length xs ≢ length ys → same_sorts xs ys ≡ false
same_sorts-differ [] [] h = absurd (h refl)
same_sorts-differ [] (y ∷ ys) h = refl
same_sorts-differ (x ∷ xs) [] h = refl
same_sorts-differ (x ∷ xs) (y ∷ ys) h = ap (λ b. same_sort x.sort y.sort && b) (same_sorts-differ xs ys (λ e. h (ap suc e))) ∙ and_false (same_sort x.sort y.sort)

pub same_sorts-step : (xs ys : List Var) (i : ℕ) (x y : Var) (r : Bool) → i < length xs → length xs ≡ length ys → x ≡ get_or xs i x → y ≡ get_or ys i y → (IsTrue r ↔ ((get_or xs i x).sort ≡ (get_or ys i y).sort)) → same_sorts (drop i xs) (drop i ys) ≡ (r && same_sorts (drop (i + 1) xs) (drop (i + 1) ys))
same_sorts-step xs ys i x y r within count at at' test =
    let e = drop-at xs i x within at in
    let f = drop-at ys i y (omega arith) at' in
    (λ k. same_sorts (e k) (f k)) ∙ ap (λ b. b && same_sorts (drop (i + 1) xs) (drop (i + 1) ys)) ((λ k. same_sort (at k).sort (at' k).sort) ∙ sym (same_sort-test (get_or xs i x).sort (get_or ys i y).sort r test))

pub all_same_sorts-differ : (xs ys : List Sort) → length xs ≢ length ys → all_same_sorts xs ys ≡ false
all_same_sorts-differ [] [] h = absurd (h refl)
all_same_sorts-differ [] (y ∷ ys) h = refl
all_same_sorts-differ (x ∷ xs) [] h = refl
all_same_sorts-differ (x ∷ xs) (y ∷ ys) h = ap (λ b. same_sort x y && b) (all_same_sorts-differ xs ys (λ e. h (ap suc e))) ∙ and_false (same_sort x y)

pub all_same_sorts-step : (xs ys : List Sort) (i : ℕ) (x y : Sort) (r : Bool) → i < length xs → length xs ≡ length ys → x ≡ get_or xs i x → y ≡ get_or ys i y → (IsTrue r ↔ (x ≡ y)) → all_same_sorts (drop i xs) (drop i ys) ≡ (r && all_same_sorts (drop (i + 1) xs) (drop (i + 1) ys))
all_same_sorts-step xs ys i x y r within count at at' test =
    let e = drop-at xs i x within at in
    let f = drop-at ys i y (omega arith) at' in
    (λ k. all_same_sorts (e k) (f k)) ∙ ap (λ b. b && all_same_sorts (drop (i + 1) xs) (drop (i + 1) ys)) (sym (same_sort-test x y r test))
