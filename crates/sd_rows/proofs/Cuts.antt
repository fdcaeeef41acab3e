-- a row divided by a common divisor of its factors
use Rattle.std.proofs.Common.{◌≡◌, ℕ, zero, suc, ◌+◌, ◌*◌, ◌/◌, ◌%◌, ◌<◌, ◌≤◌, List, [], ◌∷◌, refl, sym, ap, ◌∙◌, subst, Bool, true, false, arith, ◌==◌, ◌&&◌, unsigned_abs, ◌++◌, drop, get_or, length, append_assoc, add-one, drop-cons, ℤ, pos, negsuc, ◌+ℤ◌, ◌*ℤ◌, ◌≤ℤ◌, neg_ℤ}
use Rattle.std.specs.Int.RustNames.{int_div, int_rem}
use Rattle.std.proofs.lemmas.Int.{ints, quot-rem}
use Rattle.std.proofs.lemmas.Nat.{le-div, div_below, div-add-mod'}
use Rattle.std.proofs.Math.Nat.{mul-le-mul_left, mod-one, div-one}
use Rattle.std.proofs.Math.IntN.{*ℤ_comm}
use borrow.Author.Tests.{eqb-true}
use Rattle.sd_rows.specs.declared.row.Row.{Row}
use Rattle.sd_rows.specs.Rows.{Part, Parts, sum_at, Holds}
use Rattle.sd_rows.specs.Divisors.{divides_all, divisor_up_to, greatest_divisor, floor_div}
use Rattle.sd_rows.specs.RowOps.{sizes, over, reduced}
use Rattle.sd_rows.proofs.Integers.{*ℤ-+ℤ_right, *ℤ_assoc}

-- ---- rounding down

pub floor_div-above : (s b : ℤ) (d : ℕ) → 0 < d → (pos d *ℤ s) ≤ℤ b → s ≤ℤ floor_div b d
floor_div-above (pos n) (pos a) d h k = let e : n * d ≤ a = omega (arith, ints) in let f : n ≤ a / d = le-div n a d h e in omega (arith, ints)
floor_div-above (pos n) (negsuc a) d h k = absurd (omega (arith, ints))
floor_div-above (negsuc n) (pos a) d h k = omega (arith, ints)
floor_div-above (negsuc n) (negsuc a) d h k = let e : a < suc n * d = omega (arith, ints) in let f : a / d < suc n = div_below a d (suc n) h e in omega (arith, ints)

pub floor_div-below : (s b : ℤ) (d : ℕ) → 0 < d → s ≤ℤ floor_div b d → (pos d *ℤ s) ≤ℤ b
floor_div-below (pos n) (pos a) d h k =
    let e : n ≤ a / d = omega (arith, ints) in let f : d * n ≤ d * (a / d) = mul-le-mul_left d e in omega (arith, ints, div-add-mod' a d)
floor_div-below (pos n) (negsuc a) d h k = absurd (omega (arith, ints))
floor_div-below (negsuc n) (pos a) d h k = omega (arith, ints)
floor_div-below (negsuc n) (negsuc a) d h k =
    let e : a / d ≤ n = omega (arith, ints) in let f : d * (a / d) ≤ d * n = mul-le-mul_left d e in omega (arith, ints, div-add-mod' a d)

-- ---- exact division

rem_zero : (c : ℤ) (d : ℕ) → (unsigned_abs c % d == 0) ≡ true → int_rem c (pos d) ≡ pos 0
rem_zero (pos a) d e = ap pos (eqb-true (a % d) 0 e)
rem_zero (negsuc a) d e = ap (λ (n : ℕ). neg_ℤ (pos n)) (eqb-true (suc a % d) 0 e)

pub exact : (c : ℤ) (d : ℕ) → (unsigned_abs c % d == 0) ≡ true → pos d *ℤ int_div c (pos d) ≡ c
exact c d e = *ℤ_comm (pos d) (int_div c (pos d)) ∙ (let z : int_rem c (pos d) ≡ pos 0 = rem_zero c d e in let q : int_div c (pos d) *ℤ pos d +ℤ int_rem c (pos d) ≡ c = quot-rem c (pos d) in grind (arith, ints))

pub and-left : (a b : Bool) → (a && b) ≡ true → a ≡ true
and-left true b e = refl
and-left false b e = e

pub and-right : (a b : Bool) → (a && b) ≡ true → b ≡ true
and-right true b e = e
and-right false b e = absurd (cc)

pub sum_at-over : (x : ℕ → ℤ) (d : ℕ) (ps : Parts) → divides_all d (sizes ps) ≡ true → pos d *ℤ sum_at x (over ps d) ≡ sum_at x ps
sum_at-over x d [] e = omega (arith, ints)
sum_at-over x d (p ∷ ps) e =
    *ℤ-+ℤ_right (pos d) (int_div p.1 (pos d) *ℤ x p.0) (sum_at x (over ps d))
    ∙ ap (λ (v : ℤ). v +ℤ pos d *ℤ sum_at x (over ps d)) (sym (*ℤ_assoc (pos d) (int_div p.1 (pos d)) (x p.0)))
    ∙ ap (λ (v : ℤ). v *ℤ x p.0 +ℤ pos d *ℤ sum_at x (over ps d)) (exact p.1 d (and-left (unsigned_abs p.1 % d == 0) (divides_all d (sizes ps)) e))
    ∙ ap (λ (v : ℤ). p.1 *ℤ x p.0 +ℤ v) (sum_at-over x d ps (and-right (unsigned_abs p.1 % d == 0) (divides_all d (sizes ps)) e))

-- ---- the greatest common divisor

one_divides : (ns : List ℕ) → divides_all 1 ns ≡ true
one_divides [] = refl
one_divides (n ∷ ns) = rw (mod-one n) (one_divides ns)

pub divisor_up_to-divides : (m : ℕ) (ns : List ℕ) → divides_all (divisor_up_to m ns) ns ≡ true
unfolding divisor_up_to
divisor_up_to-divides zero ns = one_divides ns
divisor_up_to-divides (suc m) ns = grind (arith, divisor_up_to-divides m ns)

pub divisor_up_to-positive : (m : ℕ) (ns : List ℕ) → 0 < divisor_up_to m ns
unfolding divisor_up_to
divisor_up_to-positive zero ns = omega arith
divisor_up_to-positive (suc m) ns = grind (arith, divisor_up_to-positive m ns)

pub greatest_divisor-divides : (ns : List ℕ) → divides_all (greatest_divisor ns) ns ≡ true
greatest_divisor-divides [] = refl
greatest_divisor-divides (n ∷ ns) = divisor_up_to-divides n (n ∷ ns)

pub greatest_divisor-positive : (ns : List ℕ) → 0 < greatest_divisor ns
greatest_divisor-positive [] = omega arith
greatest_divisor-positive (n ∷ ns) = divisor_up_to-positive n (n ∷ ns)

-- ---- a row is as good as its reduced row

pub Holds-reduced : (x : ℕ → ℤ) (r : Row) → Holds x r → Holds x (reduced r)
Holds-reduced x r h =
    let d : ℕ = greatest_divisor (sizes r.parts) in
    floor_div-above (sum_at x (over r.parts d)) r.bound d (greatest_divisor-positive (sizes r.parts))
    (subst (λ (v : ℤ). v ≤ℤ r.bound) (sym (sum_at-over x d r.parts (greatest_divisor-divides (sizes r.parts)))) h)

pub Holds-unreduced : (x : ℕ → ℤ) (r : Row) → Holds x (reduced r) → Holds x r
Holds-unreduced x r h =
    let d : ℕ = greatest_divisor (sizes r.parts) in
    subst (λ (v : ℤ). v ≤ℤ r.bound) (sum_at-over x d r.parts (greatest_divisor-divides (sizes r.parts)))
    (floor_div-below (sum_at x (over r.parts d)) r.bound d (greatest_divisor-positive (sizes r.parts)) h)

-- ---- what the code does

over-one : (ps : Parts) → over ps 1 ≡ ps
over-one [] = refl
over-one (p ∷ ps) = let e : int_div p.1 (pos 1) ≡ p.1 = by_one p.1 in rw e (ap (λ (l : Parts). (p.0, p.1) ∷ l) (over-one ps))
  where
    by_one : (z : ℤ) → int_div z (pos 1) ≡ z
    by_one (pos a) = ap pos (div-one a)
    by_one (negsuc a) = ap (λ (n : ℕ). neg_ℤ (pos n)) (div-one (suc a))

floor_div-one : (z : ℤ) → floor_div z 1 ≡ z
floor_div-one (pos a) = ap pos (div-one a)
floor_div-one (negsuc a) = ap negsuc (div-one a)

pub reduced-one : (r : Row) → greatest_divisor (sizes r.parts) ≡ 1 → r ≡ reduced r
reduced-one r e =
    sym (ap (λ (d : ℕ). let s : Row = record { parts = over r.parts d; bound = floor_div r.bound d } in s) e
    ∙ ap (λ (ps : Parts). let s : Row = record { parts = ps; bound = floor_div r.bound 1 } in s) (over-one r.parts)
    ∙ ap (λ (z : ℤ). let s : Row = record { parts = r.parts; bound = z } in s) (floor_div-one r.bound))

pub over-step : (d i : ℕ) (ps made made' whole : Parts) (z : Part) → i < length ps → made' ≡ made ++ ((get_or ps i z).0, int_div (get_or ps i z).1 (pos d)) ∷ []
    → made ++ over (drop i ps) d ≡ whole → made' ++ over (drop (i + 1) ps) d ≡ whole
over-step d i ps made made' whole z h e w =
    let p : Part = get_or ps i z in
    ap (λ (l : Parts). l ++ over (drop (i + 1) ps) d) e
    ∙ append_assoc made ((p.0, int_div p.1 (pos d)) ∷ []) (over (drop (i + 1) ps) d)
    ∙ ap (λ (j : ℕ). made ++ ((p.0, int_div p.1 (pos d)) ∷ over (drop j ps) d)) (add-one i)
    ∙ ap (λ (l : Parts). made ++ over l d) (sym (drop-cons ps i z h))
    ∙ w
