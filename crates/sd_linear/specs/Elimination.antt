-- Elimination of the columns of rows, one after the other, and the choice of a value for each
use Rattle.std.specs.Prelude.{ℕ, ◌==◌, ◌/◌, ◌^◌, nat_lt, nat_le, ℤ, pos, negsuc, neg_ℤ, ◌-ℤ◌, ◌*ℤ◌, int_lt, unsigned_abs, Bool, true, false, ◌&&◌, if◌then◌else◌, List, [], ◌∷◌, length, map, filter, Option, Some, None, option_and_then, suc}
use Rattle.std.specs.List.{flat_map}
use Rattle.std.specs.Int.{int_min, int_max}
use Rattle.std.specs.Ordering.{int_eq}
use Rattle.sd_rows.specs.declared.row.Row.{Row}
use Rattle.sd_rows.specs.Rows.{Parts, is_within, is_empty}
use Rattle.sd_rows.specs.Divisors.{greatest_divisor, floor_div}
use Rattle.sd_rows.specs.RowOps.{same_number, added, reduced}

pub data Answer : Type 0 where
  refuted : Answer
  point : List ℤ → Answer
  gap : ℕ → Answer
  wide : ℕ → Answer
  many : Answer

-- the list of rows after a step, or the answer that the step ends with
pub data Next : Type 0 where
  continues : List Row → Next
  ends : Answer → Next

abbrev pub after : Next → (List Row → Next) → Next
after (continues rows) f = f rows
after (ends a) f = ends a

abbrev pub answer_after : Next → (List Row → Answer) → Answer
answer_after (continues rows) f = f rows
answer_after (ends a) f = a

-- ---- how a row comes into the list

abbrev pub same_parts : Parts → Parts → Bool
same_parts [] [] = true
same_parts [] (q ∷ qs) = false
same_parts (p ∷ ps) [] = false
same_parts (p ∷ ps) (q ∷ qs) = p.0 == q.0 && int_eq p.1 q.1 && same_parts ps qs

-- the row with the lesser bound in the place of the row with this left side, or the row last
abbrev pub joined : Row → List Row → List Row
joined r [] = r ∷ []
joined r (s ∷ ss) =
    if same_parts r.parts s.parts then (if int_lt r.bound s.bound then r else s) ∷ ss else s ∷ joined r ss

abbrev pub kept : List Row → Next
kept rows = if nat_le (length rows) 20000 then continues rows else ends many

abbrev pub with_reduced : Row → List Row → Next
with_reduced r rows =
    if is_empty r.parts then (if int_lt r.bound (pos 0) then ends refuted else continues rows)
    else kept (joined r rows)

-- while column k is eliminated
abbrev pub come_in : ℕ → Row → List Row → Next
come_in k r rows = if is_within r then with_reduced (reduced r) rows else ends (wide k)

abbrev pub all_come_in : ℕ → List Row → List Row → Next
all_come_in k [] rows = continues rows
all_come_in k (r ∷ rs) rows = after (come_in k r rows) (all_come_in k rs)

-- ---- the rows without a column

abbrev pub factor_of : ℕ → Parts → ℤ
factor_of k [] = pos 0
factor_of k (p ∷ ps) = if p.0 == k then p.1 else factor_of k ps

abbrev pub is_free : ℕ → Row → Bool
is_free k r = same_number (factor_of k r.parts) (pos 0)

abbrev pub is_negative : ℕ → Row → Bool
is_negative k r = int_lt (factor_of k r.parts) (pos 0)

abbrev pub is_positive : ℕ → Row → Bool
is_positive k r = int_lt (pos 0) (factor_of k r.parts)

-- q times the first row and p times the second, both divided by the divisor of p and q, so that column k falls away
abbrev pub combined : ℕ → Row → Row → Row
combined k r s =
    let p = unsigned_abs (factor_of k r.parts) in
    let q = unsigned_abs (factor_of k s.parts) in
    let d = greatest_divisor (p ∷ q ∷ []) in
    added (q / d) r (p / d) s

abbrev pub combined_with : ℕ → Row → List Row → List Row
combined_with k r rows = map (combined k r) (filter (is_positive k) rows)

abbrev pub combinations : ℕ → List Row → List Row
combinations k rows = flat_map (λ r. combined_with k r rows) (filter (is_negative k) rows)

abbrev pub eliminated : ℕ → List Row → Next
eliminated k rows = all_come_in k (combinations k rows) (filter (is_free k) rows)

-- ---- the choice of values

-- a 128-bit number whose negative is one too
abbrev pub fits : ℤ → Bool
fits z = nat_lt (unsigned_abs z) (2 ^ 127)

-- s less the parts of columns other than k, each partial sum a 128-bit number
abbrev pub left_of : ℕ → (ℕ → ℤ) → ℤ → Parts → Option ℤ
left_of k x s [] = Some s
left_of k x s (p ∷ ps) =
    if p.0 == k then left_of k x s ps
    else (let t = s -ℤ p.1 *ℤ x p.0 in if fits t then left_of k x t ps else None)

-- from the first to the second, where they are there
abbrev pub Range : Type 0
Range = Option ℤ × Option ℤ

abbrev pub from : ℤ → Range → Range
from z (None, high) = (Some z, high)
from z (Some low, high) = (Some (int_max low z), high)

abbrev pub up_to : ℤ → Range → Range
up_to z (low, None) = (low, Some z)
up_to z (low, Some high) = (low, Some (int_min high z))

-- the values v with c * v at most s
abbrev pub limited : ℤ → ℤ → Range → Range
limited (pos c) s range = up_to (floor_div s c) range
limited (negsuc c) s range = from (neg_ℤ (floor_div s (suc c))) range

-- the range that the rows with column k give for its value
abbrev pub range_in : ℕ → (ℕ → ℤ) → List Row → Range → Option Range
range_in k x [] range = Some range
range_in k x (r ∷ rs) range =
    if is_free k r then range_in k x rs range
    else option_and_then (λ s. range_in k x rs (limited (factor_of k r.parts) s range)) (left_of k x r.bound r.parts)

-- the number of the range that is nearest to 0
abbrev pub nearest : Range → Option ℤ
nearest (None, None) = Some (pos 0)
nearest (Some low, None) = Some (int_max low (pos 0))
nearest (None, Some high) = Some (int_min high (pos 0))
nearest (Some low, Some high) = if int_lt high low then None else Some (int_max low (int_min high (pos 0)))

-- 0 at a column with no value
abbrev pub value_of : List ℕ → List ℤ → ℕ → ℤ
value_of [] vs j = pos 0
value_of (k ∷ ks) [] j = pos 0
value_of (k ∷ ks) (v ∷ vs) j = if k == j then v else value_of ks vs j

abbrev pub within_reach : ℕ → List ℤ → Option ℤ → Answer
within_reach k vs None = gap k
within_reach k vs (Some v) = if nat_le (unsigned_abs v) (2 ^ 56) then point (v ∷ vs) else wide k

abbrev pub in_range : ℕ → List ℤ → Option Range → Answer
in_range k vs None = wide k
in_range k vs (Some range) = within_reach k vs (nearest range)

-- the answer with a value for column k, given the answer for the later columns
abbrev pub chosen : ℕ → List ℕ → List Row → Answer → Answer
chosen k ks rows (point vs) = in_range k vs (range_in k (value_of ks vs) rows (None, None))
chosen k ks rows refuted = refuted
chosen k ks rows (gap j) = gap j
chosen k ks rows (wide j) = wide j
chosen k ks rows many = many

-- the columns are eliminated in this order, and get their values in the other
abbrev pub solved : List ℕ → List Row → Answer
solved [] rows = point []
solved (k ∷ ks) rows = answer_after (eliminated k rows) (λ later. chosen k ks rows (solved ks later))

-- ---- the columns of the rows, ascending

abbrev pub with_column : ℕ → List ℕ → List ℕ
with_column k [] = k ∷ []
with_column k (j ∷ js) = if nat_lt k j then k ∷ j ∷ js else (if k == j then j ∷ js else j ∷ with_column k js)

abbrev pub with_columns : Parts → List ℕ → List ℕ
with_columns [] ks = ks
with_columns (p ∷ ps) ks = with_columns ps (with_column p.0 ks)

abbrev pub columns_and : List ℕ → List Row → List ℕ
columns_and ks [] = ks
columns_and ks (r ∷ rs) = columns_and (with_columns r.parts ks) rs

abbrev pub columns : List Row → List ℕ
columns rows = columns_and [] rows

-- rows within the bounds come in, and so the 0 names no column
abbrev pub elimination : List Row → Answer
elimination rows = answer_after (all_come_in 0 rows []) (solved (columns rows))
