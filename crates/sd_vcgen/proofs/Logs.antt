-- Values for the symbols of calls: what they carry, and the terms that they give values to.
use Rattle.std.proofs.Common.{◌≡◌, ℕ, zero, suc, ◌+◌, List, [], ◌∷◌, ◌++◌, length, get_or, refl, sym, ap, subst, ◌∙◌, arith}
use Rattle.std.specs.Prelude.{Bool, true, false, map}
use Rattle.std.proofs.lemmas.List.{length-append}
use Rattle.sd_base.specs.declared.Sort.{Sort, Bool as BoolSort}
use Rattle.sd_base.specs.Value.{Value, Truth}
use Rattle.sd_base.specs.Sorts.{HasSort}
use Rattle.sd_base.specs.Cast.{cast}
use Rattle.sd_base.specs.Meaning.{truth_of}
use Rattle.sd_core.specs.Run.{nothing}
use Rattle.sd_core.specs.Meanings.{HaveSorts}
use Rattle.sd_runs.specs.Kept.{at_all}
use Rattle.sd_term.specs.Truth.{Valuation, value}
use Rattle.sd_term.proofs.Typed.{cast-same, sorted-has}
use Rattle.sd_vcgen.specs.Body.{symbols, site_flag, flag_symbols}
use Rattle.sd_vcgen.specs.Laws.{truth, Carries}

-- ---- positions

pub carries_front : (v : Valuation) (k : ℕ) (xs ys : List Value) → Carries v k (xs ++ ys) → Carries v k xs
carries_front v k [] ys h = tt
carries_front v k (x ∷ xs) ys h = (h.0, carries_front v (suc k) xs ys h.1)

pub carries_back : (v : Valuation) (k : ℕ) (xs ys : List Value) (n : ℕ) → length xs ≡ n → Carries v k (xs ++ ys) → Carries v (k + n) ys
carries_back v k [] ys n e h = let f : k ≡ k + n = omega (arith, e) in subst (λ (j : ℕ). Carries v j ys) f h
carries_back v k (x ∷ xs) ys n e h =
    let f : suc k + length xs ≡ k + n = omega (arith, e) in
    subst (λ (j : ℕ). Carries v j ys) f (carries_back v (suc k) xs ys (length xs) refl h.1)

pub two_sizes : (xs ys : List Value) (m n : ℕ) → length xs ≡ m → length ys ≡ n → length (xs ++ ys) ≡ m + n
two_sizes xs ys m n a b = length-append xs ys ∙ (λ i. a i + b i)

-- so many of them, and nothing past their end
pub resized : ℕ → List Value → List Value
resized zero xs = []
resized (suc n) [] = nothing ∷ resized n []
resized (suc n) (x ∷ xs) = x ∷ resized n xs

pub length-resized : (n : ℕ) (xs : List Value) → length (resized n xs) ≡ n
unfolding resized
length-resized zero xs = refl
length-resized (suc n) [] = ap suc (length-resized n [])
length-resized (suc n) (x ∷ xs) = ap suc (length-resized n xs)

pub resized-same : (n : ℕ) (xs : List Value) → length xs ≡ n → resized n xs ≡ xs
unfolding resized
resized-same zero [] e = refl
resized-same zero (x ∷ xs) e = absurd (omega (arith, e))
resized-same (suc n) [] e = absurd (omega (arith, e))
resized-same (suc n) (x ∷ xs) e = ap (λ (ys : List Value). x ∷ ys) (resized-same n xs (omega (arith, e)))

-- ---- values of the declared types

pub sorted-length : (ss : List Sort) (xs : List Value) → HaveSorts ss xs → length xs ≡ length ss
sorted-length [] xs h = ap (λ (ys : List Value). length ys) h
sorted-length (s ∷ ss) [] h = absurd h
sorted-length (s ∷ ss) (x ∷ xs) h = ap suc (sorted-length ss xs h.1)

sorted-at : (ss : List Sort) (xs : List Value) (i : ℕ) → HaveSorts ss xs → HasSort (get_or ss i BoolSort) (get_or xs i nothing)
sorted-at [] [] i h = tt
sorted-at [] (x ∷ xs) i h = cc
sorted-at (s ∷ ss) [] i h = absurd h
sorted-at (s ∷ ss) (x ∷ xs) zero h = h.0
sorted-at (s ∷ ss) (x ∷ xs) (suc i) h = sorted-at ss xs i h.1

pub at_all-sorted : (ss : List Sort) (xs : List Value) (ms : List ℕ) → HaveSorts ss xs → HaveSorts (map (λ i. get_or ss i BoolSort) ms) (at_all xs ms)
at_all-sorted ss xs [] h = refl
at_all-sorted ss xs (m ∷ ms) h = (sorted-at ss xs m h, at_all-sorted ss xs ms h)

-- symbols have the values of their types that they carry
pub symbols-value : (v : Valuation) (k : ℕ) (ss : List Sort) (xs : List Value) → HaveSorts ss xs → Carries v k xs → map (value v) (symbols k ss) ≡ xs
symbols-value v k [] xs h c = sym h
symbols-value v k (s ∷ ss) [] h c = absurd h
symbols-value v k (s ∷ ss) (x ∷ xs) h c =
    λ i. (ap (cast s) c.0 ∙ cast-same s x (sorted-has s x h.0)) i ∷ symbols-value v (suc k) ss xs h.1 c.1 i

-- ---- flags

pub flag_log : Bool → Bool → List Value
flag_log true flag = []
flag_log false flag = Truth flag ∷ []

pub length-flag : (infallible flag : Bool) → length (flag_log infallible flag) ≡ flag_symbols infallible
unfolding flag_log
length-flag true flag = refl
length-flag false flag = refl

pub flag-value : (v : Valuation) (k : ℕ) (infallible flag : Bool) → (infallible ≡ true → flag ≡ false) → Carries v k (flag_log infallible flag) → truth v (site_flag infallible k) ≡ flag
unfolding flag_log
flag-value v k true flag h c = sym (h refl)
flag-value v k false flag h c = ap (λ (x : Value). truth_of (cast BoolSort x)) c.0
