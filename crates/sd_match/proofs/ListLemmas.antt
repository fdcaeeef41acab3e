-- Lists by places.
use Rattle.std.proofs.Common.{◌≡◌, ◌∙◌, sym, ap, refl, ℕ, zero, suc, ◌<◌, List, [], ◌∷◌, ◌++◌, append_assoc, append-nil, length, map, get_or, take, arith, subst}
use Rattle.std.specs.Prelude.{Option, Some, None, slice_get}
use Rattle.std.specs.List.{AllByRecursion}

pub some_is : {A : Type 0} (a b : A) → ◌≡◌ {A = Option A} (Some a) (Some b) → a ≡ b
some_is a b e = cc

pub slice_get-within : {A : Type 0} (xs : List A) (i : ℕ) (x : A) → slice_get xs i ≡ Some x → i < length xs
slice_get-within [] i x e = absurd (cc)
slice_get-within (y ∷ ys) zero x e = omega arith
slice_get-within (y ∷ ys) (suc i) x e = let h = slice_get-within ys i x e in omega arith

-- an element, or else the one for places past the end
pub get_or-none : {A : Type 0} (xs : List A) (i : ℕ) (d : A) → slice_get xs i ≡ None → get_or xs i d ≡ d
get_or-none [] i d e = refl
get_or-none (x ∷ xs) zero d e = absurd (let bad : ◌≡◌ {A = Option _} (Some x) None = e in cc)
get_or-none (x ∷ xs) (suc i) d e = get_or-none xs i d e

pub get_or-some : {A : Type 0} (xs : List A) (i : ℕ) (x d : A) → slice_get xs i ≡ Some x → get_or xs i d ≡ x
get_or-some [] i x d e = absurd (let bad : ◌≡◌ {A = Option _} None (Some x) = e in cc)
get_or-some (y ∷ ys) zero x d e = some_is y x e
get_or-some (y ∷ ys) (suc i) x d e = get_or-some ys i x d e

-- what a function gives of the first n elements
pub get_or-map-take : {A B : Type 0} (f : A → B) (xs : List A) (n i : ℕ) (x : A) (d : B) → i < n → slice_get xs i ≡ Some x → get_or (map f (take n xs)) i d ≡ f x
get_or-map-take f [] n i x d below e = absurd (let bad : ◌≡◌ {A = Option _} None (Some x) = e in cc)
get_or-map-take f (y ∷ ys) zero i x d below e = absurd (omega arith)
get_or-map-take f (y ∷ ys) (suc n) zero x d below e = ap f (some_is y x e)
get_or-map-take f (y ∷ ys) (suc n) (suc i) x d below e = get_or-map-take f ys n i x d (omega arith) e

pub get_or-map : {A B : Type 0} (f : A → B) (xs : List A) (i : ℕ) (x : A) (d : B) → slice_get xs i ≡ Some x → get_or (map f xs) i d ≡ f x
get_or-map f [] i x d e = absurd (let bad : ◌≡◌ {A = Option _} None (Some x) = e in cc)
get_or-map f (y ∷ ys) zero x d e = ap f (some_is y x e)
get_or-map f (y ∷ ys) (suc i) x d e = get_or-map f ys i x d e

pub all_at : {A : Type 0} (P : A → Type 0) (xs : List A) (i : ℕ) (x : A) → AllByRecursion P xs → slice_get xs i ≡ Some x → P x
all_at P [] i x all e = absurd (let bad : ◌≡◌ {A = Option _} None (Some x) = e in cc)
all_at P (y ∷ ys) zero x all e = subst P (some_is y x e) all.0
all_at P (y ∷ ys) (suc i) x all e = all_at P ys i x all.1 e

-- ---- a list that grows by what comes next

pub push-step : {A : Type 0} (front longer : List A) (x y : A) (rest left whole : List A) → longer ≡ front ++ y ∷ [] → y ≡ x → left ≡ x ∷ rest → front ++ left ≡ whole → longer ++ rest ≡ whole
push-step front longer x y rest left whole pushed same next before =
    ap (λ l. l ++ rest) pushed ∙ append_assoc front (y ∷ []) rest ∙ (λ k. front ++ (same k ∷ rest)) ∙ ap (λ l. front ++ l) (sym next) ∙ before

pub whole-end : {A : Type 0} (front left whole : List A) → left ≡ [] → front ++ left ≡ whole → front ≡ whole
whole-end front left whole none before = sym (append-nil front) ∙ ap (λ l. front ++ l) (sym none) ∙ before
