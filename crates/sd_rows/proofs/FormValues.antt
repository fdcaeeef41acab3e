-- the values of forms
use Rattle.std.proofs.Common.{◌≡◌, ℕ, [], ◌∷◌, refl, sym, ap, ◌∙◌, Bool, true, false, arith, ℤ, pos, negsuc, ◌+ℤ◌, ◌-ℤ◌, ◌*ℤ◌, ◌≤ℤ◌}
use Rattle.std.specs.Prelude.{if◌then◌else◌}
use Rattle.std.proofs.lemmas.Int.{ints}
use Rattle.std.proofs.Math.IntN.{*ℤ_comm}
use Rattle.sd_rows.specs.Rows.{Parts, sum_at, is_empty, Holds}
use Rattle.sd_rows.specs.RowOps.{sum_of}
use Rattle.sd_rows.specs.declared.form.Form.{Form}
use Rattle.sd_rows.specs.Forms.{value_at, times_by, plus, less, scaled, constant, column, bounded, product, at_most}
use Rattle.sd_rows.proofs.Integers.{*ℤ-+ℤ_right, *ℤ_assoc}
use Rattle.sd_rows.proofs.Sums.{sum_at-unless_zero, sum_at-sum_of}

pub sum_at-times_by : (x : ℕ → ℤ) (z : ℤ) (ps : Parts) → sum_at x (times_by z ps) ≡ z *ℤ sum_at x ps
sum_at-times_by x z [] = omega (arith, ints)
sum_at-times_by x z (p ∷ ps) =
    sum_at-unless_zero x (p.0, z *ℤ p.1) (times_by z ps)
    ∙ ap (λ (v : ℤ). (z *ℤ p.1) *ℤ x p.0 +ℤ v) (sum_at-times_by x z ps)
    ∙ ap (λ (v : ℤ). v +ℤ z *ℤ sum_at x ps) (*ℤ_assoc z p.1 (x p.0))
    ∙ sym (*ℤ-+ℤ_right z (p.1 *ℤ x p.0) (sum_at x ps))

pub value_at-plus : (x : ℕ → ℤ) (f g : Form) → value_at x (plus f g) ≡ value_at x f +ℤ value_at x g
value_at-plus x f g = let e : sum_at x (sum_of f.parts g.parts) ≡ sum_at x f.parts +ℤ sum_at x g.parts = sum_at-sum_of x f.parts g.parts in omega (arith, ints)

pub value_at-scaled : (x : ℕ → ℤ) (z : ℤ) (f : Form) → value_at x (scaled z f) ≡ z *ℤ value_at x f
value_at-scaled x z f = ap (λ (v : ℤ). v +ℤ z *ℤ f.constant) (sum_at-times_by x z f.parts) ∙ sym (*ℤ-+ℤ_right z (sum_at x f.parts) f.constant)

pub value_at-column : (x : ℕ → ℤ) (k : ℕ) → value_at x (column k) ≡ x k
value_at-column x k = omega (arith, ints)

pub value_at-bounded : (x : ℕ → ℤ) (k : ℕ) (f : Form) (z : ℤ) → x k ≡ z → value_at x f ≡ z → value_at x (bounded k f) ≡ z
value_at-bounded x k f z e g = grind (arith, value_at-column x k)

pub constant-only : (x : ℕ → ℤ) (f : Form) → is_empty f.parts ≡ true → value_at x f ≡ f.constant
constant-only x f e = ap (λ (v : ℤ). v +ℤ f.constant) (nothing f.parts e) ∙ (omega (arith, ints))
  where
    nothing : (ps : Parts) → is_empty ps ≡ true → sum_at x ps ≡ pos 0
    nothing [] e = refl
    nothing (p ∷ ps) e = absurd (cc)

pub value_at-product : (x : ℕ → ℤ) (k : ℕ) (f g : Form) → x k ≡ value_at x f *ℤ value_at x g → value_at x (product k f g) ≡ value_at x f *ℤ value_at x g
value_at-product x k f g e = go (is_empty f.parts) refl (is_empty g.parts) refl
  where
    go : (b : Bool) → is_empty f.parts ≡ b → (c : Bool) → is_empty g.parts ≡ c
        → value_at x (if b then bounded k (scaled f.constant g) else (if c then bounded k (scaled g.constant f) else column k)) ≡ value_at x f *ℤ value_at x g
    go true h c i =
        value_at-bounded x k (scaled f.constant g) (value_at x f *ℤ value_at x g) e
        (value_at-scaled x f.constant g ∙ ap (λ (v : ℤ). v *ℤ value_at x g) (sym (constant-only x f h)))
    go false h true i =
        value_at-bounded x k (scaled g.constant f) (value_at x f *ℤ value_at x g) e
        (value_at-scaled x g.constant f ∙ ap (λ (v : ℤ). v *ℤ value_at x f) (sym (constant-only x g i)) ∙ *ℤ_comm (value_at x g) (value_at x f))
    go false h false i = value_at-column x k ∙ e

pub value_at-number : (x : ℕ → ℤ) (z : ℤ) → value_at x (constant z) ≡ z
value_at-number x z = omega (arith, ints)

pub value_at-less : (x : ℕ → ℤ) (f g : Form) → value_at x (less f g) ≡ value_at x f -ℤ value_at x g
value_at-less x f g =
    value_at-plus x f (scaled (negsuc 0) g) ∙ ap (λ (v : ℤ). value_at x f +ℤ v) (value_at-scaled x (negsuc 0) g) ∙ difference (value_at x f) (value_at x g)
  where
    difference : (a b : ℤ) → a +ℤ negsuc 0 *ℤ b ≡ a -ℤ b
    difference a b = omega (arith, ints)

-- the row that a form is at most a number says so
pub Holds-at_most : (x : ℕ → ℤ) (c : ℤ) (f : Form) → value_at x f ≤ℤ c → Holds x (at_most c f)
Holds-at_most x c f h = moved (sum_at x f.parts) f.constant c h
  where
    moved : (s k c : ℤ) → (s +ℤ k) ≤ℤ c → s ≤ℤ (c -ℤ k)
    moved s k c h = omega (arith, ints)
