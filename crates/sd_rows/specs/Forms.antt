-- linear forms: a sum of columns with their factors, and a constant
use Rattle.std.specs.Prelude.{◌≡◌, ℕ, ◌≤◌, ◌^◌, ℤ, pos, neg_ℤ, ◌+ℤ◌, ◌*ℤ◌, ◌-ℤ◌, nat_le, unsigned_abs, true, ◌&&◌, if◌then◌else◌, [], ◌∷◌}
use Rattle.sd_rows.specs.declared.form.Form.{Form}
use Rattle.sd_rows.specs.declared.row.Row.{Row}
use Rattle.sd_rows.specs.Rows.{Parts, sum_at, are_small, is_empty, IsProper}
use Rattle.sd_rows.specs.RowOps.{unless_zero, sum_of}

-- a form that may be computed with: its columns ascend, each once, no factor is 0, and factors and constant are within
-- the bounds
pub record IsFit (f : Form) : Type 0 where
  pub proper : IsProper f.parts
  pub small : are_small f.parts ≡ true
  pub near : unsigned_abs f.constant ≤ 2 ^ 66

-- the value where each column k has the value x k
abbrev pub value_at : (ℕ → ℤ) → Form → ℤ
value_at x f = sum_at x f.parts +ℤ f.constant

abbrev pub times_by : ℤ → Parts → Parts
times_by z [] = []
times_by z (p ∷ ps) = unless_zero (p.0, z *ℤ p.1) (times_by z ps)

abbrev pub plus : Form → Form → Form
plus f g = record { parts = sum_of f.parts g.parts; constant = f.constant +ℤ g.constant }

abbrev pub scaled : ℤ → Form → Form
scaled z f = record { parts = times_by z f.parts; constant = z *ℤ f.constant }

abbrev pub less : Form → Form → Form
less f g = plus f (scaled (neg_ℤ (pos 1)) g)

abbrev pub constant : ℤ → Form
constant z = record { parts = []; constant = z }

abbrev pub column : ℕ → Form
column k = record { parts = (k, pos 1) ∷ []; constant = pos 0 }

-- the form, or the column k where the form is beyond the bounds
abbrev pub bounded : ℕ → Form → Form
bounded k f = if are_small f.parts && nat_le (unsigned_abs f.constant) (2 ^ 66) then f else column k

-- the product of a constant and a form, or the column k where neither is a constant
abbrev pub product : ℕ → Form → Form → Form
product k f g =
    if is_empty f.parts then bounded k (scaled f.constant g)
    else (if is_empty g.parts then bounded k (scaled g.constant f) else column k)

-- the row that says that the form is at most c
abbrev pub at_most : ℤ → Form → Row
at_most c f = record { parts = f.parts; bound = c -ℤ f.constant }
