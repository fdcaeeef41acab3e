-- Steps of `after_comment`.
use Rattle.std.proofs.Common.{◌≡◌, ℕ, suc, ◌+◌, ◌-◌, ◌<◌, ◌≤◌, [], ◌∷◌, length, get_or, drop, refl, ap, sym, ◌∙◌, arith, drop-cons, length-drop, inl, inr}
use Rattle.std.specs.Prelude.{Some, None, ◌⊎◌}
use Rattle.sd_lex.specs.Pieces.{Bytes, after_comment}

pub two : (xs : Bytes) (i : ℕ) → i + 1 < length xs → drop i xs ≡ get_or xs i 0 ∷ get_or xs (i + 1) 0 ∷ drop (i + 2) xs
two xs i h =
    let p : i < length xs = omega arith in
    let e : suc (suc i) ≡ i + 2 = omega arith in
    let f : suc i ≡ i + 1 = omega arith in
    let q : suc i < length xs = omega arith in
    drop-cons xs i 0 p ∙ ap (λ r. get_or xs i 0 ∷ r) (drop-cons xs (suc i) 0 q) ∙ (rw (e, f) refl)

pub closes_last : (xs : Bytes) (i d : ℕ) → i + 1 < length xs → get_or xs i 0 ≡ 42 → get_or xs (i + 1) 0 ≡ 47 → d ≡ 0 → after_comment d (drop i xs) ≡ Some (drop (i + 2) xs)
unfolding after_comment
closes_last xs i d h a b z = rw (two xs i h, a, b, z) refl

pub closes : (xs : Bytes) (i d : ℕ) → i + 1 < length xs → get_or xs i 0 ≡ 42 → get_or xs (i + 1) 0 ≡ 47 → (d ≡ 0 → ⊥) → after_comment d (drop i xs) ≡ after_comment (d - 1) (drop (i + 2) xs)
unfolding after_comment
closes xs i d h a b z = rw (two xs i h, a, b) (grind arith)

pub opens : (xs : Bytes) (i d : ℕ) → i + 1 < length xs → get_or xs i 0 ≡ 47 → get_or xs (i + 1) 0 ≡ 42 → after_comment d (drop i xs) ≡ after_comment (d + 1) (drop (i + 2) xs)
unfolding after_comment
opens xs i d h a b = rw (two xs i h, a, b) refl

other : (d a b : ℕ) (r : Bytes) → (a ≡ 42 → b ≡ 47 → ⊥) → (a ≡ 47 → b ≡ 42 → ⊥) → after_comment d (a ∷ b ∷ r) ≡ after_comment d (b ∷ r)
unfolding after_comment
other d a b r f g = grind arith

pub not_both : {A B : Type 0} → (A × (B → ⊥)) ⊎ (A → ⊥) → A → B → ⊥
not_both (inl h) a b = h.1 b
not_both (inr h) a b = h a

pub skips_byte : (xs : Bytes) (i d : ℕ) → i + 1 < length xs → (get_or xs i 0 ≡ 42 → get_or xs (i + 1) 0 ≡ 47 → ⊥) → (get_or xs i 0 ≡ 47 → get_or xs (i + 1) 0 ≡ 42 → ⊥) → after_comment d (drop i xs) ≡ after_comment d (drop (i + 1) xs)
skips_byte xs i d h a b =
    let e : suc (i + 1) ≡ i + 2 = omega arith in
    let next : drop (i + 1) xs ≡ get_or xs (i + 1) 0 ∷ drop (i + 2) xs = drop-cons xs (i + 1) 0 h ∙ ap (λ n. get_or xs (i + 1) 0 ∷ drop n xs) e in
    ap (after_comment d) (two xs i h) ∙ other d _ _ _ a b ∙ sym (ap (after_comment d) next)

short : (d : ℕ) (ys : Bytes) → length ys ≤ 1 → after_comment d ys ≡ None
unfolding after_comment
short d [] h = refl
short d (a ∷ []) h = refl
short d (a ∷ b ∷ r) h = absurd (omega arith)

pub at_end : (xs : Bytes) (i d : ℕ) → length xs ≤ i + 1 → after_comment d (drop i xs) ≡ None
at_end xs i d h = short d (drop i xs) (simp length-drop (omega arith))
