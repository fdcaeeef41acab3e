-- The first places of names.
use Rattle.std.proofs.Common.{◌≡◌, ◌∙◌, sym, ap, ℕ, suc, ◌<◌, List, ◌∷◌, map, length, get_or, drop, Option, Some}
use Rattle.std.specs.Prelude.{if◌then◌else◌}
use Rattle.std.proofs.Math.Seq.{drop-cons}
use Rattle.sd_base.specs.Value.{Text, same_text}
use Rattle.sd_base.specs.Names.{place_from}
use Rattle.sd_base.proofs.Texts.{same_text-flip}

-- one name more at the front
pub place_from-more : (names : List Text) (place next : ℕ) (name x : Text) (was now : Option ℕ) → next ≡ suc place → place < length names → name ≡ get_or names place name → was ≡ place_from next (drop next names) x → now ≡ (if same_text name x then Some place else was) → now ≡ place_from place (drop place names) x
place_from-more names place next name x was now one within is before after =
    after ∙ (ap (λ b. if b then Some place else was) (same_text-flip name x)
    ∙ ap (λ o. if same_text x name then Some place else o) (before ∙ ap (λ n. place_from n (drop n names) x) one)
    ∙ sym (ap (λ (ys : List Text). place_from place ys x) (drop-cons names place name within ∙ ap (λ (y : Text). y ∷ drop (suc place) names) (sym is))))

-- and one thing more, where things have names
pub place_from-more_of : {A : Type 0} (name : A → Text) (xs : List A) (place next : ℕ) (y : A) (x : Text) (was now : Option ℕ) → next ≡ suc place → place < length xs → y ≡ get_or xs place y → was ≡ place_from next (map name (drop next xs)) x → now ≡ (if same_text (name y) x then Some place else was) → now ≡ place_from place (map name (drop place xs)) x
place_from-more_of name xs place next y x was now one within is before after =
    after ∙ (ap (λ b. if b then Some place else was) (same_text-flip (name y) x)
    ∙ ap (λ o. if same_text x (name y) then Some place else o) (before ∙ ap (λ n. place_from n (map name (drop n xs)) x) one)
    ∙ sym (ap (λ ys. place_from place (map name ys) x) (drop-cons xs place y within ∙ ap (λ z. z ∷ drop (suc place) xs) (sym is))))
