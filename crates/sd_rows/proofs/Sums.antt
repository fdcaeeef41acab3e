-- the value of a sum of rows
use Rattle.std.proofs.Common.{◌≡◌, ℕ, [], ◌∷◌, refl, sym, ap, ◌∙◌, subst, arith, Bool, true, false, nat_lt, ◌==◌, ℤ, pos, ◌+ℤ◌, ◌*ℤ◌, ◌≤ℤ◌}
use Rattle.std.proofs.lemmas.Int.{ints}
use Rattle.std.specs.Prelude.{if◌then◌else◌}
use borrow.Author.Tests.{eqb-true}
use Rattle.std.proofs.Math.Nat.{mul-zero}
use Rattle.sd_rows.specs.declared.row.Row.{Row}
use Rattle.sd_rows.specs.Rows.{Part, Parts, sum_at, Holds}
use Rattle.sd_rows.specs.RowOps.{unless_zero, with_part, sum_of, times, added}
use Rattle.sd_rows.proofs.Integers.{*ℤ-+ℤ_left, *ℤ-+ℤ_right, *ℤ_assoc, zero_*ℤ, swapped, reassoc, zero_left, times-≤ℤ, +ℤ-≤ℤ}

pub sum_at-unless_zero : (x : ℕ → ℤ) (p : Part) (ps : Parts) → sum_at x (unless_zero p ps) ≡ p.1 *ℤ x p.0 +ℤ sum_at x ps
sum_at-unless_zero x p ps = grind (arith, ints, λ (e : p.1 ≡ pos 0). ap (λ (z : ℤ). z *ℤ x p.0) e ∙ zero_*ℤ (x p.0))

pub sum_at-with_part : (x : ℕ → ℤ) (p : Part) (ps : Parts) → sum_at x (with_part p ps) ≡ p.1 *ℤ x p.0 +ℤ sum_at x ps
sum_at-with_part x p [] = refl
sum_at-with_part x p (q ∷ qs) = go (nat_lt p.0 q.0) (sum_at-with_part x p qs)
  where
    met : (b : Bool) → (p.0 == q.0) ≡ b → sum_at x (with_part p qs) ≡ p.1 *ℤ x p.0 +ℤ sum_at x qs
        → sum_at x (if b then unless_zero (p.0, p.1 +ℤ q.1) qs else q ∷ with_part p qs) ≡ p.1 *ℤ x p.0 +ℤ (q.1 *ℤ x q.0 +ℤ sum_at x qs)
    met true e h =
        sum_at-unless_zero x (p.0, p.1 +ℤ q.1) qs
        ∙ ap (λ (v : ℤ). v +ℤ sum_at x qs) (*ℤ-+ℤ_left p.1 q.1 (x p.0))
        ∙ sym (reassoc (p.1 *ℤ x p.0) (q.1 *ℤ x p.0) (sum_at x qs))
        ∙ ap (λ (k : ℕ). p.1 *ℤ x p.0 +ℤ (q.1 *ℤ x k +ℤ sum_at x qs)) (eqb-true p.0 q.0 e)
    met false e h = ap (λ (v : ℤ). q.1 *ℤ x q.0 +ℤ v) h ∙ swapped (p.1 *ℤ x p.0) (q.1 *ℤ x q.0) (sum_at x qs)

    go : (b : Bool) → sum_at x (with_part p qs) ≡ p.1 *ℤ x p.0 +ℤ sum_at x qs
        → sum_at x (if b then p ∷ q ∷ qs else (if p.0 == q.0 then unless_zero (p.0, p.1 +ℤ q.1) qs else q ∷ with_part p qs)) ≡ p.1 *ℤ x p.0 +ℤ (q.1 *ℤ x q.0 +ℤ sum_at x qs)
    go true h = refl
    go false h = met (p.0 == q.0) refl h

pub sum_at-sum_of : (x : ℕ → ℤ) (ps qs : Parts) → sum_at x (sum_of ps qs) ≡ sum_at x ps +ℤ sum_at x qs
sum_at-sum_of x [] qs = sym (zero_left (sum_at x qs))
sum_at-sum_of x (p ∷ ps) qs =
    sum_at-with_part x p (sum_of ps qs) ∙ ap (λ (v : ℤ). p.1 *ℤ x p.0 +ℤ v) (sum_at-sum_of x ps qs) ∙ reassoc (p.1 *ℤ x p.0) (sum_at x ps) (sum_at x qs)

pub sum_at-times : (x : ℕ → ℤ) (m : ℕ) (ps : Parts) → sum_at x (times m ps) ≡ pos m *ℤ sum_at x ps
sum_at-times x m [] = ap pos (sym (mul-zero m))
sum_at-times x m (p ∷ ps) =
    ap (λ (v : ℤ). (pos m *ℤ p.1) *ℤ x p.0 +ℤ v) (sum_at-times x m ps)
    ∙ ap (λ (v : ℤ). v +ℤ pos m *ℤ sum_at x ps) (*ℤ_assoc (pos m) p.1 (x p.0))
    ∙ sym (*ℤ-+ℤ_right (pos m) (p.1 *ℤ x p.0) (sum_at x ps))

-- a sum of rows holds where they hold
pub Holds-added : (x : ℕ → ℤ) (m n : ℕ) (r s : Row) → Holds x r → Holds x s → Holds x (added m r n s)
Holds-added x m n r s h k =
    subst (λ (v : ℤ). v ≤ℤ (pos m *ℤ r.bound +ℤ pos n *ℤ s.bound))
    (sym (sum_at-sum_of x (times m r.parts) (times n s.parts) ∙ ap (λ (v : ℤ). v +ℤ sum_at x (times n s.parts)) (sum_at-times x m r.parts) ∙ ap (λ (v : ℤ). pos m *ℤ sum_at x r.parts +ℤ v) (sum_at-times x n s.parts)))
    (+ℤ-≤ℤ (pos m *ℤ sum_at x r.parts) (pos m *ℤ r.bound) (pos n *ℤ sum_at x s.parts) (pos n *ℤ s.bound) (times-≤ℤ m (sum_at x r.parts) r.bound h) (times-≤ℤ n (sum_at x s.parts) s.bound k))
