-- laws of sums and products of integers that `omega (arith, ints)` does not find by itself
use Rattle.std.proofs.Common.{◌≡◌, ℕ, ◌+◌, ◌*◌, ◌≤◌, ap, arith, true, ℤ, pos, ◌+ℤ◌, ◌*ℤ◌, ◌≤ℤ◌}
use Rattle.std.proofs.lemmas.Int.{ints}
use Rattle.std.proofs.Math.Nat.{mul-le-mul_left}
use borrow.Author.Differences.{up, down, sum_is_lem, product_is}
use Rattle.sd_rows.specs.RowOps.{same_number}

pub *ℤ-+ℤ_left : (c d v : ℤ) → (c +ℤ d) *ℤ v ≡ c *ℤ v +ℤ d *ℤ v
*ℤ-+ℤ_left c d v =
    omega (arith, ints, ap (λ (n : ℕ). n * up v) (sum_is_lem c d), ap (λ (n : ℕ). n * down v) (sum_is_lem c d))

pub *ℤ-+ℤ_right : (m s t : ℤ) → m *ℤ (s +ℤ t) ≡ m *ℤ s +ℤ m *ℤ t
*ℤ-+ℤ_right m s t =
    omega (arith, ints, ap (λ (n : ℕ). up m * n) (sum_is_lem s t), ap (λ (n : ℕ). down m * n) (sum_is_lem s t))

pub *ℤ_assoc : (a b c : ℤ) → (a *ℤ b) *ℤ c ≡ a *ℤ (b *ℤ c)
*ℤ_assoc a b c =
    omega (
      arith,
      ints,
      ap (λ (n : ℕ). n * up c) (product_is a b).0,
      ap (λ (n : ℕ). n * down c) (product_is a b).0,
      ap (λ (n : ℕ). n * up c) (product_is a b).1,
      ap (λ (n : ℕ). n * down c) (product_is a b).1,
      ap (λ (n : ℕ). up a * n) (product_is b c).0,
      ap (λ (n : ℕ). down a * n) (product_is b c).0,
      ap (λ (n : ℕ). up a * n) (product_is b c).1,
      ap (λ (n : ℕ). down a * n) (product_is b c).1,
    )

pub zero_*ℤ : (v : ℤ) → pos 0 *ℤ v ≡ pos 0
zero_*ℤ v = omega (arith, ints)

pub swapped : (a b s : ℤ) → b +ℤ (a +ℤ s) ≡ a +ℤ (b +ℤ s)
swapped a b s = omega (arith, ints)

pub reassoc : (a s t : ℤ) → a +ℤ (s +ℤ t) ≡ (a +ℤ s) +ℤ t
reassoc a s t = omega (arith, ints)

pub zero_left : (a : ℤ) → pos 0 +ℤ a ≡ a
zero_left a = omega (arith, ints)

pub same_number_is : (a b : ℤ) → same_number a b ≡ true → a ≡ b
same_number_is a b e = grind (arith, ints)

pub +ℤ-≤ℤ : (a b c d : ℤ) → a ≤ℤ b → c ≤ℤ d → (a +ℤ c) ≤ℤ (b +ℤ d)
+ℤ-≤ℤ a b c d h k = omega (arith, ints)

pub times-≤ℤ : (m : ℕ) (a b : ℤ) → a ≤ℤ b → (pos m *ℤ a) ≤ℤ (pos m *ℤ b)
times-≤ℤ m a b h =
    let e : up a + down b ≤ up b + down a = omega (arith, ints) in
    omega (arith, ints, mul-le-mul_left m e)
