-- The shared globals, by the table of names.
use Rattle.std.proofs.Common.{◌≡◌, ◌∙◌, ap, refl, ℕ, suc, Bool, true, false, List, [], ◌∷◌}
use Rattle.sd_match.proofs.ListLemmas.{some_is}
use Rattle.std.specs.Prelude.{◌&&◌, Option, Some, None, if◌then◌else◌}
use Rattle.std.specs.List.{AllByRecursion, IsDistinct}
use Rattle.std.specs.Cmp.Lexicographic.{bytes_decides}
use Rattle.sd_base.specs.declared.Var.{Var}
use Rattle.sd_base.specs.Value.{same_text}
use Rattle.sd_core.specs.Formed.{names_of, same_sort}
use Rattle.sd_core.specs.Failure as failure
use Rattle.sd_base.specs.Names.{place_from}
use Rattle.sd_match.specs.Places.{first_named}

-- ---- places by name and type

pub no_place : (n : ℕ) (xs : List Var) (x : Var) → first_named (λ (v : Var). v.name) xs x.name ≡ None → failure.place_from n xs x ≡ None
no_place n [] x e = refl
no_place n (y ∷ ys) x e = go (same_text x.name y.name) refl e (λ h. no_place (suc n) ys x h)
  where
    go : (b : Bool) → same_text x.name y.name ≡ b → (if b then Some y else first_named (λ (v : Var). v.name) ys x.name) ≡ None → (first_named (λ (v : Var). v.name) ys x.name ≡ None → failure.place_from (suc n) ys x ≡ None) → (if b && same_sort x.sort y.sort then Some n else failure.place_from (suc n) ys x) ≡ None
    go true is none rest = absurd (let bad : ◌≡◌ {A = Option Var} (Some y) None = none in cc)
    go false is none rest = rest none

none_after : (xs : List Var) (x y : Var) → same_text x.name y.name ≡ true → AllByRecursion (λ z. same_text y.name z ≡ false) (names_of xs) → first_named (λ (v : Var). v.name) xs x.name ≡ None
none_after [] x y e h = refl
none_after (z ∷ zs) x y e h =
    let same : x.name ≡ y.name = (bytes_decides x.name y.name).0 e in
    let off : same_text x.name z.name ≡ false = ap (λ t. same_text t z.name) same ∙ h.0 in
    ap (λ b. if b then Some z else first_named (λ (v : Var). v.name) zs x.name) off ∙ none_after zs x y e h.1

-- the place by name is the place by name and type, where the type is the same
pub typed_place : (n : ℕ) (xs : List Var) (x : Var) (i : ℕ) (d : Var) → IsDistinct same_text (names_of xs) → place_from n (names_of xs) x.name ≡ Some i → first_named (λ (v : Var). v.name) xs x.name ≡ Some d → failure.place_from n xs x ≡ (if same_sort x.sort d.sort then Some i else None)
unfolding IsDistinct
typed_place n [] x i d distinct e f = absurd (cc)
typed_place n (y ∷ ys) x i d distinct e f = go (same_text x.name y.name) refl e f (λ a b. typed_place (suc n) ys x i d distinct.1 a b)
  where
    go : (b : Bool) → same_text x.name y.name ≡ b → (if b then Some n else place_from (suc n) (names_of ys) x.name) ≡ Some i → (if b then Some y else first_named (λ (v : Var). v.name) ys x.name) ≡ Some d → (place_from (suc n) (names_of ys) x.name ≡ Some i → first_named (λ (v : Var). v.name) ys x.name ≡ Some d → failure.place_from (suc n) ys x ≡ (if same_sort x.sort d.sort then Some i else None)) → (if b && same_sort x.sort y.sort then Some n else failure.place_from (suc n) ys x) ≡ (if same_sort x.sort d.sort then Some i else None)
    go true is at here rest =
        let k : n ≡ i = some_is n i at in
        let v : y ≡ d = some_is y d here in
        let none = no_place (suc n) ys x (none_after ys x y is distinct.0) in
        ap (λ o. if same_sort x.sort y.sort then Some n else o) none ∙ (λ j. if same_sort x.sort (v j).sort then Some (k j) else None)
    go false is at here rest = rest at here
