-- the common divisor that Euclid's steps give is the greatest
use Rattle.std.proofs.Common.{◌≡◌, ◌≢◌, ℕ, zero, suc, ◌+◌, ◌*◌, ◌%◌, ◌/◌, ◌<◌, ◌≤◌, max, [], ◌∷◌, refl, sym, ◌∙◌, subst, true, arith, ◌==◌, length, drop, get_or, add-one, drop-cons, ℤ, pos}
use Rattle.std.specs.Prelude.{unsigned_abs}
use Rattle.std.specs.Int.{IsGcd, ◌∣◌}
use Rattle.std.proofs.lemmas.Nat.Gcd.{dvd_refl, dvd_trans, le_of_dvd, dvd_of_mod-eq-zero, mod-eq-zero_of_dvd}
use Rattle.std.proofs.Math.Nat.{pos_of_dvd_of_pos, eq-zero_of_zero-dvd}
use Rattle.std.proofs.lemmas.Nat.{le-div}
use borrow.Author.Tests.{eqb-true}
use Rattle.std.proofs.lemmas.Bool.{and_parts}
use Rattle.std.proofs.lemmas.Int.{ints}
use Rattle.sd_rows.specs.Rows.{Part, Parts, IsProper}
use Rattle.sd_rows.specs.Divisors.{divides_all, divisor_up_to, greatest_divisor}
use Rattle.sd_rows.specs.RowOps.{sizes}
use Rattle.sd_rows.proofs.Cuts.{greatest_divisor-divides, greatest_divisor-positive}

-- e divides each factor
abbrev pub Divides : ℕ → Parts → Type 0
Divides e [] = Unit {0}
Divides e (p ∷ ps) = (e ∣ unsigned_abs p.1) × Divides e ps

-- the numbers that divide d and the rest are those that divide all
pub record Gathers (d : ℕ) (rest all : Parts) : Type 0 where
  pub into : (e : ℕ) → e ∣ d → Divides e rest → Divides e all
  pub back : (e : ℕ) → Divides e all → (e ∣ d) × Divides e rest

pub gathers-step : (d g : ℕ) (p : Part) (ps all : Parts) → IsGcd d (unsigned_abs p.1) g → Gathers d (p ∷ ps) all → Gathers g ps all
gathers-step d g p ps all h k = record {
  into = λ e a b. k.into e (dvd_trans e a h.0) (dvd_trans e a h.1, b);
  back = λ e a. let b : (e ∣ d) × Divides e (p ∷ ps) = k.back e a in (h.2 e b.0 b.1.0, b.1.1);
}

pub gathers-at : (d g : ℕ) (i : ℕ) (parts all : Parts) (z : Part) → i < length parts → IsGcd d (unsigned_abs (get_or parts i z).1) g → Gathers d (drop i parts) all → Gathers g (drop (i + 1) parts) all
gathers-at d g i parts all z h k m =
    rw add-one (gathers-step d g (get_or parts i z) (drop (suc i) parts) all k (subst (λ (l : Parts). Gathers d l all) (drop-cons parts i z h) m))

-- ---- what the greatest common divisor computes

test-Divides : (e : ℕ) (ps : Parts) → divides_all e (sizes ps) ≡ true → Divides e ps
test-Divides e [] h = tt
test-Divides e (p ∷ ps) h =
    let both = and_parts (unsigned_abs p.1 % e == 0) (divides_all e (sizes ps)) h in
    (dvd_of_mod-eq-zero e (eqb-true (unsigned_abs p.1 % e) 0 both.0), test-Divides e ps both.1)

Divides-test : (e : ℕ) (ps : Parts) → Divides e ps → divides_all e (sizes ps) ≡ true
Divides-test e [] h = refl
Divides-test e (p ∷ ps) h = rw (mod-eq-zero_of_dvd e h.0) (Divides-test e ps h.1)

up_to : (d m : ℕ) (ps : Parts) → 0 < d → d ≤ m → Divides d ps → ((e : ℕ) → Divides e ps → e ∣ d) → divisor_up_to m (sizes ps) ≡ d
unfolding divisor_up_to
up_to d zero ps z h k m = absurd (omega arith)
up_to d (suc n) ps z h k m =
    grind (
      arith,
      λ (l : d ≤ n). up_to d n ps z l k m,
      Divides-test d ps k,
      λ (e : divides_all (suc n) (sizes ps) ≡ true). le_of_dvd z (m (suc n) (test-Divides (suc n) ps e)),
      λ (e : d ≡ suc n). subst (λ i. divides_all i (sizes ps) ≡ true) e (Divides-test d ps k),
    )

not_zero : (z : ℤ) → z ≢ pos 0 → 0 < unsigned_abs z
not_zero z n = omega (arith, ints)

pub gathered : (d : ℕ) (ps : Parts) → IsProper ps → Gathers d [] ps → max d 1 ≡ greatest_divisor (sizes ps)
gathered d [] h g = let z : d ≡ 0 = eq-zero_of_zero-dvd (g.back 0 tt).0 in omega arith
gathered d (p ∷ ps) h g =
    let k : Divides d (p ∷ ps) = g.into d (dvd_refl d) tt in
    let n : 0 < unsigned_abs p.1 = not_zero p.1 h.no_zero.0 in
    let z : 0 < d = pos_of_dvd_of_pos k.0 n in
    let l : d ≤ unsigned_abs p.1 = le_of_dvd n k.0 in
    let e : divisor_up_to (unsigned_abs p.1) (sizes (p ∷ ps)) ≡ d = up_to d (unsigned_abs p.1) (p ∷ ps) z l k (λ e a. (g.back e a).0) in
    let m : max d 1 ≡ d = omega arith in
    m ∙ sym e

-- ---- two numbers

pub gcd-positive : (p q g : ℕ) → 0 < p → IsGcd p q g → 0 < g
gcd-positive p q g h k = pos_of_dvd_of_pos k.0 h

pub gcd-greatest : (p q g : ℕ) → 0 < p → IsGcd p q g → g ≡ greatest_divisor (p ∷ q ∷ [])
gcd-greatest p q g h k =
    sym (up_to g p ((0, pos p) ∷ (0, pos q) ∷ []) (gcd-positive p q g h k) (le_of_dvd h k.0) (k.0, (k.1, tt)) (λ e a. k.2 e a.0 a.1.0))

pub quotient-positive : (q g : ℕ) → 0 < q → 0 < g → g ∣ q → 0 < q / g
quotient-positive q g h z d = let l : g ≤ q = le_of_dvd h d in let m : 1 * g ≤ q = omega arith in let n : 1 ≤ q / g = le-div 1 q g z m in omega arith

-- ---- the multipliers that the definition takes

greatest-divides-first : (p q : ℕ) → greatest_divisor (p ∷ q ∷ []) ∣ p
greatest-divides-first p q = (test-Divides (greatest_divisor (p ∷ q ∷ [])) ((0, pos p) ∷ (0, pos q) ∷ []) (greatest_divisor-divides (p ∷ q ∷ []))).0

greatest-divides-second : (p q : ℕ) → greatest_divisor (p ∷ q ∷ []) ∣ q
greatest-divides-second p q = (test-Divides (greatest_divisor (p ∷ q ∷ [])) ((0, pos p) ∷ (0, pos q) ∷ []) (greatest_divisor-divides (p ∷ q ∷ []))).1.0

pub multipliers-positive : (p q : ℕ) → 0 < p → 0 < q → (0 < q / greatest_divisor (p ∷ q ∷ [])) × (0 < p / greatest_divisor (p ∷ q ∷ []))
multipliers-positive p q h k = (
  quotient-positive q (greatest_divisor (p ∷ q ∷ [])) k (greatest_divisor-positive (p ∷ q ∷ [])) (greatest-divides-second p q),
  quotient-positive p (greatest_divisor (p ∷ q ∷ [])) h (greatest_divisor-positive (p ∷ q ∷ [])) (greatest-divides-first p q),
)
