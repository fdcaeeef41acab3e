-- Lists: what holds of each element, and the element at a place.
use Rattle.std.proofs.Common.{◌≡◌, ◌∙◌, ap, sym, refl, ℕ, zero, suc, ◌+◌, ◌<◌, Bool, true, false, cond, List, [], ◌∷◌, ◌++◌, length, take, drop, get_or, map, arith, None, Some, filter, Contains, All}
use Rattle.std.specs.List.{AllByRecursion, slice_get}
use Rattle.std.specs.Option.{option_map}
use Rattle.std.proofs.lemmas.List.{drop_more, take_more}
use Rattle.std.proofs.lemmas.Option.{none-some, same_Some, slice_get-map}

-- ---- each element

module _ {A : Type 0} (P : A → Type 0) where
  pub all-append : (xs ys : List A) → AllByRecursion P xs → AllByRecursion P ys → AllByRecursion P (xs ++ ys)
  all-append [] ys f g = g
  all-append (x ∷ xs) ys f g = (f.0, all-append xs ys f.1 g)

  pub all-front : (xs ys : List A) → AllByRecursion P (xs ++ ys) → AllByRecursion P xs
  all-front [] ys f = tt
  all-front (x ∷ xs) ys f = (f.0, all-front xs ys f.1)

  pub all-back : (xs ys : List A) → AllByRecursion P (xs ++ ys) → AllByRecursion P ys
  all-back [] ys f = f
  all-back (x ∷ xs) ys f = all-back xs ys f.1

  pub all-push : (xs : List A) (x : A) → AllByRecursion P xs → P x → AllByRecursion P (xs ++ x ∷ [])
  all-push xs x f p = all-append xs (x ∷ []) f (p, tt)

  pub all-weaker : (Q : A → Type 0) → ((x : A) → P x → Q x) → (xs : List A) → AllByRecursion P xs → AllByRecursion Q xs
  all-weaker Q h [] f = tt
  all-weaker Q h (x ∷ xs) f = (h x f.0, all-weaker Q h xs f.1)

  pub all-filter : (p : A → Bool) (xs : List A) → AllByRecursion P xs → AllByRecursion P (filter p xs)
  all-filter p [] f = tt
  all-filter p (x ∷ xs) f = kept (p x) (all-filter p xs f.1)
    where
      kept : (b : Bool) → AllByRecursion P (filter p xs) → AllByRecursion P (cond b (x ∷ filter p xs) (filter p xs))
      kept true rest = (f.0, rest)
      kept false rest = rest

  pub all-at : (xs : List A) (i : ℕ) (x : A) → AllByRecursion P xs → slice_get xs i ≡ Some x → P x
  all-at [] i x f e = absurd (none-some x e)
  all-at (y ∷ ys) zero x f e = subst-at (same_Some y x e) f.0
    where
      subst-at : {a b : A} → a ≡ b → P a → P b
      subst-at e p = rw (sym e) p
  all-at (y ∷ ys) (suc i) x f e = all-at ys i x f.1 e

  pub All-back : (xs ys : List A) → All P (xs ++ ys) → All P ys
  All-back [] ys f = f
  All-back (x ∷ xs) ys f = All-back xs ys (λ k d h. f (suc k) d (omega arith))

-- ---- the element at a place

pub contains-head : {A : Type 0} (x : A) (xs : List A) → Contains (x ∷ xs) x
contains-head x xs = (0, omega arith, refl)

pub contains-tail : {A : Type 0} (y : A) (xs : List A) (x : A) → Contains xs x → Contains (y ∷ xs) x
contains-tail y xs x (k, within, is) = (suc k, omega arith, is)

pub drop-at : {A : Type 0} (xs : List A) (i : ℕ) (x : A) → i < length xs → x ≡ get_or xs i x → drop i xs ≡ x ∷ drop (i + 1) xs
drop-at xs i x h e = drop_more xs i x h ∙ ap (λ y. y ∷ drop (i + 1) xs) (sym e)

pub take-at : {A : Type 0} (xs : List A) (i : ℕ) (x : A) → i < length xs → x ≡ get_or xs i x → take (i + 1) xs ≡ take i xs ++ x ∷ []
take-at xs i x h e = take_more xs i x h ∙ ap (λ y. take i xs ++ y ∷ []) (sym e)

pub slice_get-between : {A : Type 0} (xs : List A) (x : A) (ys : List A) (i : ℕ) → length xs ≡ i → slice_get (xs ++ (x ∷ ys)) i ≡ Some x
slice_get-between [] x ys zero e = refl
slice_get-between [] x ys (suc i) e = absurd (omega (arith, e))
slice_get-between (y ∷ xs) x ys zero e = absurd (omega (arith, e))
slice_get-between (y ∷ xs) x ys (suc i) e = slice_get-between xs x ys i (omega (arith, e))

pub slice_get-append_right : {A : Type 0} (xs ys : List A) (i : ℕ) → slice_get (xs ++ ys) (length xs + i) ≡ slice_get ys i
slice_get-append_right [] ys i = let e : 0 + i ≡ i = omega arith in ap (slice_get ys) e
slice_get-append_right (x ∷ xs) ys i =
    let e : suc (length xs) + i ≡ suc (length xs + i) = omega arith in
    ap (slice_get (x ∷ (xs ++ ys))) e ∙ slice_get-append_right xs ys i

pub slice_get-map_some : {A B : Type 0} (f : A → B) (xs : List A) (i : ℕ) (x : A) → slice_get xs i ≡ Some x → slice_get (map f xs) i ≡ Some (f x)
slice_get-map_some f xs i x e = slice_get-map f xs i ∙ ap (option_map f) e

pub get_or-map_none : {A B : Type 0} (f : A → B) (xs : List A) (i : ℕ) (d : B) → slice_get xs i ≡ None → get_or (map f xs) i d ≡ d
get_or-map_none f [] i d e = refl
get_or-map_none f (y ∷ ys) zero d e = absurd (none-some y (sym e))
get_or-map_none f (y ∷ ys) (suc i) d e = get_or-map_none f ys i d e
