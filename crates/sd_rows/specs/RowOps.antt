-- what is done with rows: a sum with multipliers, and a row divided by the greatest common divisor of its factors
use Rattle.std.specs.Prelude.{ℕ, ◌==◌, nat_lt, ℤ, pos, ◌+ℤ◌, ◌*ℤ◌, List, [], ◌∷◌, unsigned_abs, int_div, if◌then◌else◌, Bool, ◌&&◌, int_le}
use Rattle.sd_rows.specs.declared.row.Row.{Row}
use Rattle.sd_rows.specs.Rows.{Part, Parts}
use Rattle.sd_rows.specs.Divisors.{greatest_divisor, floor_div}

abbrev pub same_number : ℤ → ℤ → Bool
same_number a b = int_le a b && int_le b a

-- the part before the parts, unless its factor is 0
abbrev pub unless_zero : Part → Parts → Parts
unless_zero p ps = if same_number p.1 (pos 0) then ps else p ∷ ps

-- ascending parts with one more; factors of one column are added
abbrev pub with_part : Part → Parts → Parts
with_part p [] = p ∷ []
with_part p (q ∷ qs) =
    if nat_lt p.0 q.0 then p ∷ q ∷ qs
    else (if p.0 == q.0 then unless_zero (p.0, p.1 +ℤ q.1) qs else q ∷ with_part p qs)

abbrev pub sum_of : Parts → Parts → Parts
sum_of [] qs = qs
sum_of (p ∷ ps) qs = with_part p (sum_of ps qs)

abbrev pub times : ℕ → Parts → Parts
times m [] = []
times m (p ∷ ps) = (p.0, pos m *ℤ p.1) ∷ times m ps

-- m times the first row and n times the second
abbrev pub added : ℕ → Row → ℕ → Row → Row
added m r n s = record {
  parts = sum_of (times m r.parts) (times n s.parts);
  bound = pos m *ℤ r.bound +ℤ pos n *ℤ s.bound;
}

abbrev pub sizes : Parts → List ℕ
sizes [] = []
sizes (p ∷ ps) = unsigned_abs p.1 ∷ sizes ps

abbrev pub over : Parts → ℕ → Parts
over [] d = []
over (p ∷ ps) d = (p.0, int_div p.1 (pos d)) ∷ over ps d

-- divided by the greatest common divisor of the factors, with the bound rounded down
abbrev pub reduced : Row → Row
reduced r = let d = greatest_divisor (sizes r.parts) in record { parts = over r.parts d; bound = floor_div r.bound d }
