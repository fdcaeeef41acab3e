-- Tests of parts and of lists.
use Rattle.std.proofs.Common.{◌≡◌, ◌∙◌, sym, ap, refl, suc, zero, Bool, true, false, List, [], ◌∷◌, ◌++◌, ◌↔◌, Contains, arith}
use Rattle.std.proofs.lemmas.Bool.{and_parts, and_from}
use Rattle.std.specs.List.{list_all, AllByRecursion}
use Rattle.std.proofs.lemmas.List.Folds.{list_all-append}
use Rattle.sd_base.proofs.Lists.{contains-head, contains-tail}

pub true_or_false : (a : Bool) → (a ≡ false → ⊥) → a ≡ true
true_or_false true h = refl
true_or_false false h = absurd (h refl)

module _ {X : Type 0} (f : X → Bool) where
  pub contains_true : (xs : List X) (x : X) → list_all f xs ≡ true → Contains xs x → f x ≡ true
  contains_true [] x h (k, within, is) = absurd (omega arith)
  contains_true (y ∷ ys) x h (zero, within, is) = ap f (sym is) ∙ (and_parts (f y) (list_all f ys) h).0
  contains_true (y ∷ ys) x h (suc k, within, is) = contains_true ys x (and_parts (f y) (list_all f ys) h).1 (k, omega arith, is)

  pub true_contains : (xs : List X) → ((x : X) → Contains xs x → f x ≡ true) → list_all f xs ≡ true
  true_contains [] h = refl
  true_contains (x ∷ xs) h = and_from (f x) (list_all f xs) (h x (contains-head x xs)) (true_contains xs (λ y c. h y (contains-tail x xs y c)))

  pub append_join : (xs ys : List X) → list_all f xs ≡ true → list_all f ys ≡ true → list_all f (xs ++ ys) ≡ true
  append_join xs ys a b = list_all-append f xs ys ∙ and_from (list_all f xs) (list_all f ys) a b

  pub append_split : (xs ys : List X) → list_all f (xs ++ ys) ≡ true → (list_all f xs ≡ true) × (list_all f ys ≡ true)
  append_split xs ys h = and_parts (list_all f xs) (list_all f ys) (sym (list_all-append f xs ys) ∙ h)

  pub all_exact : (F : X → Type 0) → ((x : X) → (f x ≡ true) ↔ F x) → (xs : List X) → (list_all f xs ≡ true) ↔ AllByRecursion F xs
  all_exact F e [] = (λ h. tt, λ h. refl)
  all_exact F e (x ∷ xs) =
      let rest = all_exact F e xs in
      (λ h. let both = and_parts (f x) (list_all f xs) h in ((e x).0 both.0, rest.0 both.1), λ h. and_from (f x) (list_all f xs) ((e x).1 h.0) (rest.1 h.1))
