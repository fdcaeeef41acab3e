-- forms within the bounds, and what the code computes of them
use Rattle.std.proofs.Common.{◌≡◌, ℕ, ◌*◌, ◌≤◌, ◌^◌, [], ◌∷◌, refl, ap, ◌∙◌, true, false, ◌&&◌, arith, nat_le, unsigned_abs, ℤ, pos, negsuc, ◌+ℤ◌, ◌*ℤ◌, to_z, of_z}
use Rattle.std.specs.Prelude.{if◌then◌else◌}
use mir.Syntax.{w128}
use mir.Val.{SFits}
use Rattle.std.proofs.lemmas.Int.{ints, unsigned_abs-mul, to_z-of_z}
use Rattle.std.proofs.Math.Nat.{mul-le-mul}
use borrow.Author.Tests.{leb-true}
use Rattle.sd_rows.specs.declared.form.Form.{Form}
use Rattle.sd_rows.specs.Rows.{Parts, AllAbove, IsProper, are_small}
use Rattle.sd_rows.specs.RowOps.{times, sum_of}
use Rattle.sd_rows.specs.Forms.{IsFit, times_by, plus, scaled, less, constant, column, bounded, product}
use Rattle.sd_rows.proofs.Cuts.{and-left, and-right}
use Rattle.sd_rows.proofs.Proper.{AllAbove-unless_zero, IsAscending-unless_zero, HasNoZero-unless_zero, IsProper-sum_of}

-- ---- what fits 128 bits

pub small_fits : (z : ℤ) → unsigned_abs z ≤ 2 ^ 124 → SFits w128 z
small_fits (pos n) h = record { sfits = omega arith }
small_fits (negsuc n) h = record { sfits = omega arith }

pub product-small : (a b : ℤ) → unsigned_abs a ≤ 2 ^ 66 → unsigned_abs b ≤ 2 ^ 58 → unsigned_abs (a *ℤ b) ≤ 2 ^ 124
product-small a b h k =
    let e : unsigned_abs a * unsigned_abs b ≤ 2 ^ 66 * 2 ^ 58 = mul-le-mul h k in
    omega (arith, unsigned_abs-mul a b)

pub product-read : (a b : ℤ) → SFits w128 a → SFits w128 b → unsigned_abs a ≤ 2 ^ 66 → unsigned_abs b ≤ 2 ^ 58
    → to_z w128 (of_z w128 (to_z w128 (of_z w128 a) *ℤ to_z w128 (of_z w128 b))) ≡ a *ℤ b
product-read a b p q h k =
    (λ i. to_z w128 (of_z w128 (to_z-of_z w128 a p i *ℤ to_z-of_z w128 b q i))) ∙ to_z-of_z w128 (a *ℤ b) (small_fits (a *ℤ b) (product-small a b h k))

pub sum-read : (a b : ℤ) → unsigned_abs a ≤ 2 ^ 66 → unsigned_abs b ≤ 2 ^ 66 → to_z w128 (of_z w128 (to_z w128 (of_z w128 a) +ℤ to_z w128 (of_z w128 b))) ≡ a +ℤ b
sum-read a b h k =
    let s : unsigned_abs (a +ℤ b) ≤ 2 ^ 124 = small a b h k in
    (λ i. to_z w128 (of_z w128 (to_z-of_z w128 a (small_fits a (omega arith)) i +ℤ to_z-of_z w128 b (small_fits b (omega arith)) i))) ∙ to_z-of_z w128 (a +ℤ b) (small_fits (a +ℤ b) s)
  where
    small : (a b : ℤ) → unsigned_abs a ≤ 2 ^ 66 → unsigned_abs b ≤ 2 ^ 66 → unsigned_abs (a +ℤ b) ≤ 2 ^ 124
    small a b h k = omega (arith, ints)

-- ---- parts times a number

times-one : (ps : Parts) → times 1 ps ≡ ps
times-one [] = refl
times-one (p ∷ ps) = let e : pos 1 *ℤ p.1 ≡ p.1 = omega (arith, ints) in λ i. (p.0, e i) ∷ times-one ps i

pub sum-ones : (ps qs : Parts) → sum_of (times 1 ps) (times 1 qs) ≡ sum_of ps qs
sum-ones ps qs = λ i. sum_of (times-one ps i) (times-one qs i)

pub AllAbove-times_by : (k : ℕ) (z : ℤ) (ps : Parts) → AllAbove k ps → AllAbove k (times_by z ps)
AllAbove-times_by k z [] a = tt
AllAbove-times_by k z (p ∷ ps) a = AllAbove-unless_zero k (p.0, z *ℤ p.1) (times_by z ps) a.0 (AllAbove-times_by k z ps a.1)

pub IsProper-times_by : (z : ℤ) (ps : Parts) → IsProper ps → IsProper (times_by z ps)
IsProper-times_by z [] h = record { ascending = tt; no_zero = tt }
IsProper-times_by z (p ∷ ps) h =
    let i : IsProper (times_by z ps) = IsProper-times_by z ps (record { ascending = h.ascending.1; no_zero = h.no_zero.1 }) in
    record {
      ascending = IsAscending-unless_zero (p.0, z *ℤ p.1) (times_by z ps) (AllAbove-times_by p.0 z ps h.ascending.0) i.ascending;
      no_zero = HasNoZero-unless_zero (p.0, z *ℤ p.1) (times_by z ps) i.no_zero;
    }

-- the negative of parts is as small as these
are_small-negative : (ps : Parts) → are_small ps ≡ true → are_small (times_by (negsuc 0) ps) ≡ true
are_small-negative [] e = refl
are_small-negative (p ∷ ps) e =
    let same : unsigned_abs (negsuc 0 *ℤ p.1) ≡ unsigned_abs p.1 = omega (arith, unsigned_abs-mul (negsuc 0) p.1) in
    grind (arith, are_small-negative ps, ap (λ (n : ℕ). nat_le n (2 ^ 58)) same)

-- ---- forms that may be computed with

pub IsFit-column : (k : ℕ) → IsFit (column k)
IsFit-column k = record { proper = record { ascending = (tt, tt); no_zero = ((λ e. absurd (cc)), tt) }; small = refl; near = omega arith }

pub IsFit-number : (z : ℤ) → unsigned_abs z ≤ 2 ^ 66 → IsFit (constant z)
IsFit-number z h = record { proper = record { ascending = tt; no_zero = tt }; small = refl; near = h }

pub IsFit-negative : (f : Form) → IsFit f → IsFit (scaled (negsuc 0) f)
IsFit-negative f h = record {
  proper = IsProper-times_by (negsuc 0) f.parts h.proper;
  small = are_small-negative f.parts h.small;
  near = let n : unsigned_abs f.constant ≤ 2 ^ 66 = h.near in omega (arith, unsigned_abs-mul (negsuc 0) f.constant);
}

pub IsFit-bounded : (k : ℕ) (f : Form) → IsProper f.parts → IsFit (bounded k f)
IsFit-bounded k f h = elim (are_small f.parts && nat_le (unsigned_abs f.constant) (2 ^ 66)) as (λ b. (are_small f.parts && nat_le (unsigned_abs f.constant) (2 ^ 66) ≡ b) → IsFit (if b then f else column k)) [
  | true ↦ λ e. record { proper = h; small = and-left _ _ e; near = leb-true _ _ (and-right _ _ e) }
  | false ↦ λ e. IsFit-column k
] refl

pub IsProper-plus : (f g : Form) → IsProper f.parts → IsProper g.parts → IsProper (plus f g).parts
IsProper-plus f g h k = IsProper-sum_of f.parts g.parts h k

pub IsProper-less : (f g : Form) → IsProper f.parts → IsProper g.parts → IsProper (less f g).parts
IsProper-less f g h k = IsProper-plus f (scaled (negsuc 0) g) h (IsProper-times_by (negsuc 0) g.parts k)

pub IsFit-product : (k : ℕ) (f g : Form) → IsProper f.parts → IsProper g.parts → IsFit (product k f g)
IsFit-product k f g h i =
    grind (arith, IsFit-bounded k (scaled f.constant g) (IsProper-times_by f.constant g.parts i), IsFit-bounded k (scaled g.constant f) (IsProper-times_by g.constant f.parts h), IsFit-column k)

-- the constant of a difference
pub less-near : (f g : Form) → IsFit f → IsFit g → unsigned_abs (less f g).constant ≤ 2 ^ 67
less-near f g h k = near f.constant g.constant h.near k.near
  where
    near : (a b : ℤ) → unsigned_abs a ≤ 2 ^ 66 → unsigned_abs b ≤ 2 ^ 66 → unsigned_abs (a +ℤ negsuc 0 *ℤ b) ≤ 2 ^ 67
    near a b m n = omega (arith, ints, unsigned_abs-mul (negsuc 0) b)
