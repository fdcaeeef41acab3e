-- Places in states, by position and by name.
use Rattle.std.proofs.Common.{◌≡◌, ◌∙◌, sym, ap, refl, ℕ, zero, suc, ◌+◌, ◌<◌, ◌≤◌, min, Bool, true, false, List, [], ◌∷◌, length, get_or, drop, add-one, arith}
use Rattle.sd_base.proofs.Lists.{drop-at}
use Rattle.std.proofs.lemmas.List.{drop_more}
use Rattle.std.specs.Prelude.{◌&&◌, Option, Some, slice_get, if◌then◌else◌}
use Rattle.std.specs.List.{AllByRecursion, IsDistinct}
use Rattle.sd_base.specs.declared.Var.{Var}
use Rattle.sd_base.specs.Value.{same_text}
use Rattle.sd_core.specs.declared.Spot.TheVariants.{Slot}
use Rattle.sd_core.specs.Formed.{names_of, same_sort}
use Rattle.sd_core.specs.Failure as failure
use Rattle.sd_base.specs.Names.{place_from}
use Rattle.sd_match.specs.Pairs.{by_position}
use Rattle.sd_match.proofs.ListLemmas.{some_is}
use Rattle.sd_base.proofs.Texts.{same_text-flip}

pub alike-step : (news : List Var) (place : ℕ) (x y : Var) (r : Bool) → place < length news → y ≡ get_or news place y → r ≡ (same_text x.name y.name && same_sort x.sort y.sort)
    → failure.place_from place (drop place news) x ≡ (if r then Some place else failure.place_from (place + 1) (drop (place + 1) news) x)
alike-step news place x y r within at test =
    ap (λ ys. failure.place_from place ys x) (drop-at news place y within at)
    ∙ (λ k. if sym test k then Some place else failure.place_from (sym (add-one place) k) (drop (place + 1) news) x)

-- ---- distinct names

-- what is said of a variable that isn't the first
later : (n k : ℕ) (b : Bool) (r : Option ℕ) → (if b then Some n else r) ≡ Some (n + suc k) → (b ≡ false) × (r ≡ Some (suc n + k))
later n k true r e = absurd (let h : n ≡ n + suc k = some_is n (n + suc k) e in omega arith)
later n k false r e = (refl, e ∙ ap Some (omega arith))

apart : (y : Var) (ys : List Var) → ((k : ℕ) (x : Var) → slice_get ys k ≡ Some x → same_text x.name y.name ≡ false) → AllByRecursion (λ z. same_text y.name z ≡ false) (names_of ys)
apart y [] h = tt
apart y (z ∷ zs) h = (same_text-flip y.name z.name ∙ h 0 z refl, apart y zs (λ k x e. h (suc k) x e))

firsts_distinct : (n : ℕ) (xs : List Var) → ((k : ℕ) (x : Var) → slice_get xs k ≡ Some x → place_from n (names_of xs) x.name ≡ Some (n + k)) → IsDistinct same_text (names_of xs)
unfolding IsDistinct
firsts_distinct n [] h = tt
firsts_distinct n (y ∷ ys) h =
    let each = λ (k : ℕ) (x : Var) (e : slice_get ys k ≡ Some x). later n k (same_text x.name y.name) (place_from (suc n) (names_of ys) x.name) (h (suc k) x e) in
    (apart y ys (λ k x e. (each k x e).0), firsts_distinct (suc n) ys (λ k x e. (each k x e).1))

-- Where each name stands at its own place first, the names are distinct.
pub own_places-distinct : (xs : List Var) → ((k : ℕ) (x : Var) → slice_get xs k ≡ Some x → place_from 0 (names_of xs) x.name ≡ Some k) → IsDistinct same_text (names_of xs)
own_places-distinct xs h = firsts_distinct 0 xs (λ k x e. h k x e ∙ ap Some (omega arith))

-- ---- by position

pub by_position-step : (i j place : ℕ) (olds news : List Var) (x : Var) → place < length olds → place < length news → x ≡ get_or olds place x
    → by_position (i + place) (j + place) (drop place olds) (drop place news) ≡ record { old = Slot (i + place); new = Slot (j + place); sort = x.sort } ∷ by_position (i + (place + 1)) (j + (place + 1)) (drop (place + 1) olds) (drop (place + 1) news)
by_position-step i j place olds news x within within' at =
    let e = drop-at olds place x within at in
    let f = drop_more news place x within' in
    let m : suc (i + place) ≡ i + (place + 1) = omega arith in
    let n : suc (j + place) ≡ j + (place + 1) = omega arith in
    (λ k. by_position (i + place) (j + place) (e k) (f k))
    ∙ (λ k. record { old = Slot (i + place); new = Slot (j + place); sort = x.sort } ∷ by_position (m k) (n k) (drop (place + 1) olds) (drop (place + 1) news))

by_position-nil : (i j : ℕ) (xs : List Var) → by_position i j xs [] ≡ []
by_position-nil i j [] = refl
by_position-nil i j (x ∷ xs) = refl

pub by_position-end : (i j n : ℕ) (olds news : List Var) → min (length olds) (length news) ≤ n → by_position i j (drop n olds) (drop n news) ≡ []
by_position-end i j zero [] news h = refl
by_position-end i j zero (x ∷ xs) [] h = refl
by_position-end i j zero (x ∷ xs) (y ∷ ys) h = absurd (omega arith)
by_position-end i j (suc n) [] news h = refl
by_position-end i j (suc n) (x ∷ xs) [] h = by_position-nil i j (drop n xs)
by_position-end i j (suc n) (x ∷ xs) (y ∷ ys) h = by_position-end i j n xs ys (omega arith)
