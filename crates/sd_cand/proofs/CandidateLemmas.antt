-- The candidates of a pair, one after another.
use Rattle.std.proofs.Common.{◌≡◌, ◌∙◌, ap, sym, refl, ℕ, zero, suc, ◌+◌, ◌<◌, List, [], ◌∷◌, ◌++◌, length, get_or, take, drop, map, arith, append_assoc}
use Rattle.std.specs.Prelude.{Option, Some, slice_get}
use Rattle.std.proofs.lemmas.List.{take_more}
use Rattle.std.proofs.lemmas.Option.{slice_get-get_or, same_Some}

-- something stands at a place
drop_step : {A : Type 0} (xs : List A) (n : ℕ) → n < length xs → (x : A) × (drop n xs ≡ x ∷ drop (suc n) xs)
drop_step [] n h = absurd (omega arith)
drop_step (x ∷ xs) zero h = (x, refl)
drop_step (x ∷ xs) (suc n) h = let r = drop_step xs n (omega arith) in (r.0, r.1)

-- One more is made of a list that is made by places.
pub one_more : {A B : Type 0} (made : ℕ → List A → List B) (at : ℕ → B) → ((n : ℕ) (x : A) (xs : List A) → made n (x ∷ xs) ≡ at n ∷ made (suc n) xs)
    → (xs : List A) (n : ℕ) (was now all : List B) (b : B) → n < length xs → now ≡ was ++ b ∷ [] → b ≡ at n → was ++ made n (drop n xs) ≡ all → now ++ made (n + 1) (drop (n + 1) xs) ≡ all
one_more made at unfolds xs n was now all b within pushed is before =
    let r = drop_step xs n within in
    let next : suc n ≡ n + 1 = omega arith in
    let rest : made n (drop n xs) ≡ b ∷ made (n + 1) (drop (n + 1) xs) = ap (made n) r.1 ∙ unfolds n r.0 (drop (suc n) xs) ∙ (λ i. sym is i ∷ made (next i) (drop (next i) xs)) in
    ap (λ ys. ys ++ made (n + 1) (drop (n + 1) xs)) pushed ∙ append_assoc was (b ∷ []) (made (n + 1) (drop (n + 1) xs)) ∙ ap (λ ys. was ++ ys) (sym rest) ∙ before

map-append : {A B : Type 0} (f : A → B) (xs ys : List A) → map f (xs ++ ys) ≡ map f xs ++ map f ys
map-append f [] ys = refl
map-append f (x ∷ xs) ys = ap (λ zs. f x ∷ zs) (map-append f xs ys)

-- the front of a list, by one more
pub front_more : {A B : Type 0} (f : A → B) (xs : List A) (n : ℕ) (x : A) (was now : List B) (b : B) → n < length xs → slice_get xs n ≡ Some x → now ≡ was ++ b ∷ [] → b ≡ f x → was ≡ map f (take n xs) → now ≡ map f (take (n + 1) xs)
front_more f xs n x was now b within got pushed is before =
    let here : x ≡ get_or xs n x = same_Some x (get_or xs n x) (sym got ∙ slice_get-get_or xs n x within) in
    pushed ∙ (λ i. before i ++ (is ∙ ap f here) i ∷ []) ∙ sym (map-append f (take n xs) (get_or xs n x ∷ [])) ∙ ap (map f) (sym (take_more xs n x within))
