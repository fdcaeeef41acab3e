-- What a check answers after a check before it.
use Rattle.std.proofs.Common.{append_assoc, ◌++◌, ◌≡◌, ℕ, suc, ◌+◌, ◌<◌, ◌≤◌, List, [], ◌∷◌, Result, Ok, Err, IsErrAnd, refl, sym, ap, ◌∙◌, subst, drop, get_or, length, add-one}
use Rattle.std.proofs.Math.Seq.{drop-cons}
use Rattle.std.proofs.Math.ListN.{drop_of_length-le}
use Rattle.sd_types.specs.declared.refusal.TypeError.{TypeError}
use Rattle.sd_types.specs.Answer.{and_then, both, each, all_of, Answers}

-- a refusal goes on
pub stops : {A B : Type 0} {d : Result A TypeError} {e : TypeError} (f : A → Result B TypeError) → Answers d (Err e) → Answers (and_then d f) (Err e)
stops f h = record { ok = tt; err = λ n. ap (λ d. and_then d f) (h.err n) }

pub goes_on : {A B : Type 0} {d : Result A TypeError} {e : TypeError} {r : Result B TypeError} (f : A → Result B TypeError) → Answers d (Err e) → IsErrAnd r (λ x. x ≡ e) → Answers (and_then d f) r
goes_on {r = Ok b} f h k = absurd k
goes_on {A} {B} {d} {r = Err x} f h k = subst (λ y. Answers (and_then d f) (Err y)) (sym k) (stops f h)

-- after a check that passed comes what it is for
pub next : {A B : Type 0} {d : Result A TypeError} {a : A} {r : Result B TypeError} (f : A → Result B TypeError) → Answers d (Ok a) → Answers (f a) r → Answers (and_then d f) r
next {r = r} f h k = subst (λ d. Answers (and_then d f) r) (sym h.ok) k

-- an answer that is the defined one
pub exact : {A : Type 0} {d r : Result A TypeError} → r ≡ d → Answers d r
exact {r = Ok a} h = record { ok = sym h; err = tt }
exact {r = Err e} h = record { ok = tt; err = λ n. sym h }

-- the same of equations
pub is_stopped : {A B : Type 0} {d : Result A TypeError} {e : TypeError} {r : Result B TypeError} (f : A → Result B TypeError) → Err e ≡ d → IsErrAnd r (λ x. x ≡ e) → r ≡ and_then d f
is_stopped {r = Ok b} f h k = absurd k
is_stopped {A} {B} {r = Err x} f h k = ap Err k ∙ ap (λ d. and_then d f) h

pub is_next : {A B : Type 0} {d : Result A TypeError} {a : A} {r : Result B TypeError} (f : A → Result B TypeError) → Ok a ≡ d → r ≡ f a → r ≡ and_then d f
is_next f h k = k ∙ ap (λ d. and_then d f) h

-- ---- walks over lists

pub drop-at : {A : Type 0} (xs : List A) (i : ℕ) (x : A) → i < length xs → x ≡ get_or xs i x → drop i xs ≡ x ∷ drop (i + 1) xs
drop-at xs i x h e = rw add-one (drop-cons xs i x h ∙ ap (λ y. y ∷ drop (suc i) xs) (sym e))

pub drop-end : {A : Type 0} (xs : List A) (i : ℕ) → length xs ≤ i → drop i xs ≡ []
drop-end xs i h = drop_of_length-le xs h

-- the checks of the elements come to those of what is left
abbrev pub Walks : {A : Type 0} → (A → Result (Unit {0}) TypeError) → List A → ℕ → Type 0
Walks f xs i = each f xs ≡ each f (drop i xs)

-- what is done stands before what is left
abbrev pub Gathers : {A B : Type 0} → (A → Result B TypeError) → List A → ℕ → List B → Type 0
Gathers {B = B} f xs i done = all_of f xs ≡ and_then (all_of f (drop i xs)) (λ bs. Ok (done ++ bs))

module _ {A : Type 0} (f : A → Result (Unit {0}) TypeError) (xs : List A) (i : ℕ) (x : A) (within : i < length xs) (at : x ≡ get_or xs i x) (walks : Walks f xs i) where
  opened : each f xs ≡ both (f x) (each f (drop (i + 1) xs))
  opened = walks ∙ ap (each f) (drop-at xs i x within at)

  pub walks-step : Answers (f x) (Ok tt) → Walks f xs (i + 1)
  walks-step h = opened ∙ ap (λ d. both d (each f (drop (i + 1) xs))) h.ok

  pub walks-stop : {e : TypeError} {r : Result (Unit {0}) TypeError} → Answers (f x) (Err e) → IsErrAnd r (λ y. y ≡ e) → Answers (each f xs) r
  walks-stop {r = r} h k = subst (λ d. Answers d r) (sym opened) (goes_on (λ _. each f (drop (i + 1) xs)) h k)

module _ {A B : Type 0} (f : A → Result B TypeError) (xs : List A) (i : ℕ) (x : A) (within : i < length xs) (at : x ≡ get_or xs i x) (done : List B) (gathers : Gathers f xs i done) where
  unrolled : all_of f xs ≡ and_then (and_then (f x) (λ b. and_then (all_of f (drop (i + 1) xs)) (λ bs. Ok (b ∷ bs)))) (λ bs. Ok (done ++ bs))
  unrolled = gathers ∙ ap (λ (l : List A). and_then (all_of f l) (λ bs. Ok (done ++ bs))) (drop-at xs i x within at)

  pub gathers-step : (b : B) → f x ≡ Ok b → (more : List B) → more ≡ done ++ b ∷ [] → Gathers f xs (i + 1) more
  gathers-step b h more e =
      unrolled ∙ ap (λ (d : Result B TypeError). and_then (and_then d (λ b. and_then (all_of f (drop (i + 1) xs)) (λ bs. Ok (b ∷ bs)))) (λ bs. Ok (done ++ bs))) h
      ∙ go (all_of f (drop (i + 1) xs))
      ∙ ap (λ (l : List B). and_then (all_of f (drop (i + 1) xs)) (λ bs. Ok (l ++ bs))) (sym e)
    where
      go : (d : Result (List B) TypeError) → and_then (and_then d (λ bs. Ok (b ∷ bs))) (λ bs. Ok (done ++ bs)) ≡ and_then d (λ bs. Ok ((done ++ b ∷ []) ++ bs))
      go (Ok bs) = ap Ok (sym (append_assoc done (b ∷ []) bs))
      go (Err e) = refl

  pub gathers-stop : {e : TypeError} {r : Result (List B) TypeError} → Answers (f x) (Err e) → IsErrAnd r (λ y. y ≡ e) → Answers (all_of f xs) r
  gathers-stop {r = r} h k = subst (λ d. Answers d r) (sym unrolled) (twice_stopped h k)
    where
      twice_stopped : {e : TypeError} {r : Result (List B) TypeError} → Answers (f x) (Err e) → IsErrAnd r (λ y. y ≡ e) → Answers (and_then (and_then (f x) (λ b. and_then (all_of f (drop (i + 1) xs)) (λ bs. Ok (b ∷ bs)))) (λ bs. Ok (done ++ bs))) r
      twice_stopped h k = goes_on (λ bs. Ok (done ++ bs)) (stops (λ b. and_then (all_of f (drop (i + 1) xs)) (λ bs. Ok (b ∷ bs))) h) k
