-- What a list contains.
use Rattle.std.proofs.Common.{◌≡◌, ◌∙◌, sym, ap, refl, subst, ℕ, zero, suc, ◌<◌, Bool, true, false, List, [], ◌∷◌, ◌++◌, length, get_or, ◌⊎◌, inl, inr, ⊎_elim, arith}
use Rattle.std.proofs.lemmas.Bool.{or_cases}
use Rattle.std.proofs.lemmas.Bool.Decides.{nat_tests}
use Rattle.std.proofs.lemmas.List.Elements.{Contains-append_left, Contains-append_right, Contains-append_cases}
use Rattle.std.specs.Prelude.{◌==◌, ◌||◌, ◌↔◌, Contains, if◌then◌else◌}
use Rattle.std.specs.List.{filter}
use Rattle.sd_base.proofs.Lists.{contains-head, contains-tail}
use Rattle.sd_match.specs.Pairs.{is_among}

pub none_contained : {A X : Type 0} (x : X) → Contains [] x → A
none_contained x c = absurd (omega (arith, c.1))

pub contained_cases : {X : Type 0} (y : X) (ys : List X) (x : X) → Contains (y ∷ ys) x → (y ≡ x) ⊎ Contains ys x
contained_cases {X} y ys x c = go c.0 c.1 c.2
  where
    go : (k : ℕ) → k < length (y ∷ ys) → get_or (y ∷ ys) k x ≡ x → (y ≡ x) ⊎ Contains ys x
    go zero l e = inl e
    go (suc k) l e = inr (k, omega (arith, l), e)

pub one_contained : {X : Type 0} (y x : X) → Contains (y ∷ []) x → y ≡ x
one_contained y x c = ⊎_elim (λ e. e) (λ k. none_contained x k) (contained_cases y [] x c)

pub contained_first : {X : Type 0} (y x : X) (ys : List X) → y ≡ x → Contains (y ∷ ys) x
contained_first y x ys e = subst (λ z. Contains (y ∷ ys) z) e (contains-head y ys)

-- what is said of two lists in turn
pub append_exact : {X A B : Type 0} (xs ys : List X) (x : X) → (Contains xs x ↔ A) → (Contains ys x ↔ B) → Contains (xs ++ ys) x ↔ (A ⊎ B)
append_exact xs ys x a b = (
  λ h. ⊎_elim (λ k. inl (a.0 k)) (λ k. inr (b.0 k)) (Contains-append_cases xs ys x h),
  λ h. ⊎_elim (λ k. Contains-append_left xs ys x (a.1 k)) (λ k. Contains-append_right xs ys x (b.1 k)) h,
)

-- a list that keeps what passes a test
pub kept_exact : {X : Type 0} (f : X → Bool) (ys : List X) (x : X) → Contains (filter f ys) x ↔ (Contains ys x × (f x ≡ true))
kept_exact f [] x = (λ h. none_contained x h, λ h. none_contained x h.0)
kept_exact f (y ∷ ys) x = go (f y) refl (kept_exact f ys x)
  where
    go : (b : Bool) → f y ≡ b → (Contains (filter f ys) x ↔ (Contains ys x × (f x ≡ true))) → Contains (if b then y ∷ filter f ys else filter f ys) x ↔ (Contains (y ∷ ys) x × (f x ≡ true))
    go true is rest = (
      λ h. ⊎_elim (λ e. (contained_first y x ys e, ap f (sym e) ∙ is)) (λ k. let r = rest.0 k in (contains-tail y ys x r.0, r.1)) (contained_cases y (filter f ys) x h),
      λ h. ⊎_elim (λ e. contained_first y x (filter f ys) e) (λ k. contains-tail y (filter f ys) x (rest.1 (k, h.1))) (contained_cases y ys x h.0),
    )
    go false is rest = (
      λ h. let r = rest.0 h in (contains-tail y ys x r.0, r.1),
      λ h. ⊎_elim (λ e. absurd (let bad : false ≡ true = sym is ∙ ap f e ∙ h.1 in cc)) (λ k. rest.1 (k, h.1)) (contained_cases y ys x h.0),
    )

-- a number among others
pub among_exact : (i : ℕ) (ns : List ℕ) → (is_among i ns ≡ true) ↔ Contains ns i
among_exact i [] = (λ h. absurd (let bad : false ≡ true = h in cc), λ h. none_contained i h)
among_exact i (n ∷ ns) = go (among_exact i ns)
  where
    or_right : (x y : Bool) → y ≡ true → (x || y) ≡ true
    or_right true y e = refl
    or_right false y e = e

    go : ((is_among i ns ≡ true) ↔ Contains ns i) → (((i == n) || is_among i ns) ≡ true) ↔ Contains (n ∷ ns) i
    go rest = (
      λ h. ⊎_elim (λ e. let s : n ≡ i = grind (arith, nat_tests, e) in contained_first n i ns s) (λ k. contains-tail n ns i (rest.0 k)) (or_cases (i == n) (is_among i ns) h),
      λ h. ⊎_elim (λ e. let t : (i == n) ≡ true = grind (arith, nat_tests, e) in ap (λ b. b || is_among i ns) t) (λ k. or_right (i == n) (is_among i ns) (rest.1 k)) (contained_cases n ns i h),
    )
