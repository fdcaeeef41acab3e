use Rattle.std.proofs.Common.{◌≡◌, ℕ, zero, suc, ◌+◌, ◌-◌, ◌*◌, ◌/◌, ◌<◌, ◌≤◌, ◌^◌, true, [], ◌∷◌, length, get_or, drop, refl, arith, drop-cons}
use Rattle.std.specs.List.{fold}
use Rattle.std.proofs.lemmas.List.{drop_all}
use Rattle.std.specs.Char.{is_ascii_digit}
use Rattle.sd_lex.specs.Pieces.{Bytes, Each, decimal, number}
use Rattle.sd_lex.specs.declared.token.Piece.TheVariants.{Whole, Wide}
use Rattle.sd_lex.specs.declared.token.TokenKind.TheVariants.{Number}

pub each_at : (p : _) (xs : Bytes) (i : ℕ) → Each p xs → i < length xs → p (get_or xs i 0) ≡ true
each_at p [] i h l = absurd (omega arith)
each_at p (x ∷ xs) zero h l = h.0
each_at p (x ∷ xs) (suc i) h l = each_at p xs i h.1 (omega arith)

pub digit_at_least : (b : ℕ) → is_ascii_digit b ≡ true → 48 ≤ b
digit_at_least b h = grind arith

pub grows : (n : ℕ) (xs : Bytes) → n ≤ fold (λ n b. 10 * n + (b - 48)) n xs
grows n [] = omega arith
grows n (x ∷ xs) = let ih : 10 * n + (x - 48) ≤ fold (λ n b. 10 * n + (b - 48)) (10 * n + (x - 48)) xs = grows (10 * n + (x - 48)) xs in omega arith

pub step : (v : ℕ) (xs : Bytes) (i : ℕ) → i < length xs → fold (λ n b. 10 * n + (b - 48)) v (drop i xs) ≡ fold (λ n b. 10 * n + (b - 48)) (10 * v + (get_or xs i 0 - 48)) (drop (suc i) xs)
step v xs i h = rw (drop-cons xs i 0 h) refl

pub wide : (xs : Bytes) → 18446744073709551615 < decimal xs → Wide ≡ number xs
unfolding number
wide xs h = grind arith

pub fits : (xs : Bytes) → decimal xs < 2 ^ 64 → Whole (Number (decimal xs)) ≡ number xs
unfolding number
fits xs h = grind arith

pub ended : (v : ℕ) (xs : Bytes) (i : ℕ) → length xs ≤ i → fold (λ n b. 10 * n + (b - 48)) v (drop i xs) ≡ v
ended v xs i h = rw (drop_all i xs h) refl

pub past_limit : (v digit : ℕ) (xs : Bytes) (i : ℕ) → i < length xs → fold (λ n b. 10 * n + (b - 48)) v (drop i xs) ≡ decimal xs → digit ≡ get_or xs i 0 - 48 → digit ≤ 18446744073709551615 → (18446744073709551615 - digit) / 10 < v → Wide ≡ number xs
past_limit v digit xs i h e d small over =
    let g = grows (10 * v + (get_or xs i 0 - 48)) (drop (suc i) xs) in
    let s = step v xs i h in
    wide xs (omega arith)
