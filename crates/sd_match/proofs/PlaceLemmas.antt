-- What the table of places tells of the named things.
use Rattle.std.proofs.Common.{◌≡◌, ◌∙◌, sym, ap, refl, ℕ, suc, ◌+◌, ◌-◌, ◌<◌, ◌≤◌, Bool, true, false, List, [], ◌∷◌, length, get_or, arith, nat_lt, map}
use Rattle.std.proofs.lemmas.Bool.Decides.{nat_tests}
use Rattle.std.specs.Prelude.{Option, Some, None, if◌then◌else◌}
use Rattle.sd_base.specs.Value.{Text, same_text}
use Rattle.sd_base.specs.Names.{place_from}
use Rattle.sd_match.specs.Places.{first_named}

some_is : (a b : ℕ) → ◌≡◌ {A = Option ℕ} (Some a) (Some b) → a ≡ b
some_is a b e = cc

pub record Stands {A : Type 0} (name : A → Text) (n : ℕ) (xs : List A) (f : Text) (i : ℕ) (d : A) : Type 0 where
  pub from : n ≤ i
  pub within : i < n + length xs
  pub is : Some (get_or xs (i - n) d) ≡ first_named name xs f

-- what stands at the place is the one of the name
pub place_stands : {A : Type 0} (name : A → Text) (n : ℕ) (xs : List A) (f : Text) (i : ℕ) (d : A) → place_from n (map name xs) f ≡ Some i → Stands name n xs f i d
place_stands name n [] f i d e = absurd (cc)
place_stands {A} name n (x ∷ xs) f i d found = go (same_text f (name x)) refl found (λ h. place_stands name (suc n) xs f i d h)
  where
    go : (b : Bool) → same_text f (name x) ≡ b → (if b then Some n else place_from (suc n) (map name xs) f) ≡ Some i → (place_from (suc n) (map name xs) f ≡ Some i → Stands name (suc n) xs f i d) → Stands name n (x ∷ xs) f i d
    go true is here rest =
        let same : n ≡ i = some_is n i here in
        let none : i - n ≡ 0 = omega arith in
        record {
          from = omega arith;
          within = omega arith;
          is = ap (λ k. Some (get_or (x ∷ xs) k d)) none ∙ sym (ap (λ b. if b then Some x else first_named name xs f) is);
        }
    go false is there rest =
        let s = rest there in
        let one : i - n ≡ suc (i - suc n) = omega (arith, s.from) in
        record {
          from = omega (arith, s.from);
          within = omega (arith, s.within);
          is = ap (λ k. Some (get_or (x ∷ xs) k d)) one ∙ (s.is ∙ sym (ap (λ b. if b then Some x else first_named name xs f) is));
        }

-- without a place there is no such thing
pub place_none : {A : Type 0} (name : A → Text) (n : ℕ) (xs : List A) (f : Text) → place_from n (map name xs) f ≡ None → first_named name xs f ≡ None
place_none name n [] f e = refl
place_none name n (x ∷ xs) f none = go (same_text f (name x)) refl none (λ h. place_none name (suc n) xs f h)
  where
    go : (b : Bool) → same_text f (name x) ≡ b → (if b then Some n else place_from (suc n) (map name xs) f) ≡ None → (place_from (suc n) (map name xs) f ≡ None → first_named name xs f ≡ None) → first_named name (x ∷ xs) f ≡ None
    go true is h rest = absurd (let bad : ◌≡◌ {A = Option ℕ} (Some n) None = h in cc)
    go false is h rest = ap (λ b. if b then Some x else first_named name xs f) is ∙ rest h

pub found_is : {A : Type 0} (name : A → Text) (xs : List A) (f : Text) (i : ℕ) (d : A) → place_from 0 (map name xs) f ≡ Some i → d ≡ get_or xs i d → Some d ≡ first_named name xs f
found_is name xs f i d found at = let none : i - 0 ≡ i = omega arith in ap Some at ∙ (ap (λ k. Some (get_or xs k d)) (sym none) ∙ (place_stands name 0 xs f i d found).is)

pub place_within : {A : Type 0} (name : A → Text) (xs : List A) (f : Text) (i : ℕ) → place_from 0 (map name xs) f ≡ Some i → i < length xs
place_within name [] f i found = absurd (let bad : ◌≡◌ {A = Option ℕ} None (Some i) = found in cc)
place_within name (x ∷ xs) f i found = let h : i < 0 + length (x ∷ xs) = (place_stands name 0 (x ∷ xs) f i x found).within in omega arith

-- a place is within the list
pub place_not_past : {A : Type 0} (name : A → Text) (xs : List A) (f : Text) (i : ℕ) → place_from 0 (map name xs) f ≡ Some i → false ≡ nat_lt i (length xs) → ⊥
place_not_past name xs f i found past = let k : i < length xs = place_within name xs f i found in grind (arith, nat_tests)
