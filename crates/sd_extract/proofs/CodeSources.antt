-- Where code keeps variables.
use Rattle.std.proofs.Common.{◌≡◌, ◌∙◌, sym, ap, refl, ℕ, suc, ◌+◌, ◌≤◌, List, [], ◌∷◌, ◌++◌, append_assoc, length, drop, arith}
use Rattle.std.proofs.Math.ListN.{drop_of_length-le}
use Rattle.sd_extract.proofs.CoreWords.{Spot, Slot, slots_from, set_all}

slots_append : {A : Type 0} (k : ℕ) (xs ys : List A) → slots_from k xs ++ slots_from (k + length xs) ys ≡ slots_from k (xs ++ ys)
slots_append k [] ys = let none : k + 0 ≡ k = omega arith in ap (λ n. slots_from n ys) none
slots_append k (x ∷ xs) ys =
    let one : k + suc (length xs) ≡ suc k + length xs = omega arith in
    ap (λ ps. Slot k ∷ ps) (ap (λ n. slots_from (suc k) xs ++ slots_from n ys) one ∙ slots_append (suc k) xs ys)

pub state_pushed : {A : Type 0} (first next : ℕ) (xs ys : List A) (o o' : List Spot) → o' ≡ o ++ slots_from first xs → next ≡ first + length xs → o' ++ slots_from next ys ≡ o ++ slots_from first (xs ++ ys)
state_pushed first next xs ys o o' made is =
    (λ i. made i ++ slots_from (is i) ys) ∙ (append_assoc o (slots_from first xs) (slots_from (first + length xs) ys) ∙ ap (λ ps. o ++ ps) (slots_append first xs ys))

no_new : {A : Type 0} (xs : List A) (is : List ℕ) → set_all xs is [] ≡ xs
no_new xs [] = refl
no_new xs (i ∷ is) = refl

pub places_done : {A : Type 0} (xs : List A) (is : List ℕ) (new : List A) (n : ℕ) (whole : List A) → length is ≤ n → set_all xs (drop n is) (drop n new) ≡ whole → xs ≡ whole
places_done xs is new n whole le so = sym (ap (λ (js : List ℕ). set_all xs js (drop n new)) (drop_of_length-le is le)) ∙ so

pub new_done : {A : Type 0} (xs : List A) (is : List ℕ) (new : List A) (n : ℕ) (whole : List A) → length new ≤ n → set_all xs (drop n is) (drop n new) ≡ whole → xs ≡ whole
new_done xs is new n whole le so = sym (ap (set_all xs (drop n is)) (drop_of_length-le new le) ∙ no_new xs (drop n is)) ∙ so
