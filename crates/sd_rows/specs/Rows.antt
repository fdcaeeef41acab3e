-- a row says of integers, one for each column, that a sum of columns with their factors is at most a bound
use Rattle.std.specs.Prelude.{◌≡◌, ℕ, ◌<◌, ◌^◌, ℤ, pos, ◌+ℤ◌, ◌*ℤ◌, ◌≤ℤ◌, ◌<ℤ◌, int_lt, ◌≢◌, Bool, true, false, ◌&&◌, nat_le, unsigned_abs, List, [], ◌∷◌}
use Rattle.std.specs.List.{list_all}
use Rattle.sd_rows.specs.declared.row.Row.{Row}

-- a column with its factor
abbrev pub Part : Type 0
Part = ℕ × ℤ

abbrev pub Parts : Type 0
Parts = List Part

-- the sum of the parts where each column k has the value x k
abbrev pub sum_at : (ℕ → ℤ) → Parts → ℤ
sum_at x [] = pos 0
sum_at x (p ∷ ps) = p.1 *ℤ x p.0 +ℤ sum_at x ps

abbrev pub Holds : (ℕ → ℤ) → Row → Type 0
Holds x r = sum_at x r.parts ≤ℤ r.bound

abbrev pub AllHold : (ℕ → ℤ) → List Row → Type 0
AllHold x [] = Unit {0}
AllHold x (r ∷ rs) = Holds x r × AllHold x rs

-- each column is above k
abbrev pub AllAbove : ℕ → Parts → Type 0
AllAbove k [] = Unit {0}
AllAbove k (p ∷ ps) = (k < p.0) × AllAbove k ps

-- the columns ascend, each once
abbrev pub IsAscending : Parts → Type 0
IsAscending [] = Unit {0}
IsAscending (p ∷ ps) = AllAbove p.0 ps × IsAscending ps

abbrev pub HasNoZero : Parts → Type 0
HasNoZero [] = Unit {0}
HasNoZero (p ∷ ps) = (p.1 ≢ pos 0) × HasNoZero ps

-- each factor is at most 2^58 in absolute value, and the bound at most 2^66
abbrev pub are_small : Parts → Bool
are_small ps = list_all (λ (p : Part). nat_le (unsigned_abs p.1) (2 ^ 58)) ps

abbrev pub is_within : Row → Bool
is_within r = are_small r.parts && nat_le (unsigned_abs r.bound) (2 ^ 66)

-- the columns ascend, each once, and none has the factor 0
pub record IsProper (ps : Parts) : Type 0 where
  pub ascending : IsAscending ps
  pub no_zero : HasNoZero ps

-- rows that may be computed with
abbrev pub AllComputable : List Row → Type 0
AllComputable [] = Unit {0}
AllComputable (r ∷ rs) = (IsProper r.parts × (is_within r ≡ true)) × AllComputable rs

-- the row that says that 0 is at most 0
abbrev pub nothing : Row
nothing = record { parts = []; bound = pos 0 }

-- no factor, and less than 0 as the bound
abbrev pub IsAbsurd : Row → Type 0
IsAbsurd r = (r.parts ≡ []) × (r.bound <ℤ pos 0)

abbrev pub is_empty : Parts → Bool
is_empty [] = true
is_empty (p ∷ ps) = false

abbrev pub is_absurd : Row → Bool
is_absurd r = is_empty r.parts && int_lt r.bound (pos 0)
