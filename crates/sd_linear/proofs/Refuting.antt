-- what steps derive holds where the inputs hold, and so no integers meet inputs that are refuted
use Rattle.std.proofs.Common.{◌≡◌, ℕ, zero, suc, List, [], ◌∷◌, ◌++◌, ap, arith, ℤ, pos, ◌<ℤ◌}
use Rattle.std.specs.Prelude.{slice_index_or}
use Rattle.std.proofs.lemmas.Int.{ints}
use Rattle.sd_rows.specs.declared.row.Row.{Row}
use Rattle.sd_linear.specs.declared.step.RowStep.{RowStep}
use Rattle.sd_linear.specs.declared.step.RowStep.TheVariants.{Input, Add, Cut}
use Rattle.sd_rows.specs.Rows.{sum_at, Holds, AllHold, nothing, IsAbsurd}
use Rattle.sd_linear.specs.RowSteps.{row_made, made_from, rows_made, Refutes}
use Rattle.sd_rows.proofs.Sums.{Holds-added}
use Rattle.sd_rows.proofs.Cuts.{Holds-reduced}

pub Holds-nothing : (x : ℕ → ℤ) → Holds x nothing
Holds-nothing x = omega (arith, ints)

pub Holds-at : (x : ℕ → ℤ) (rs : List Row) (i : ℕ) → AllHold x rs → Holds x (slice_index_or rs i nothing)
Holds-at x [] i h = Holds-nothing x
Holds-at x (r ∷ rs) zero h = h.0
Holds-at x (r ∷ rs) (suc i) h = Holds-at x rs i h.1

pub AllHold-append : (x : ℕ → ℤ) (rs ss : List Row) → AllHold x rs → AllHold x ss → AllHold x (rs ++ ss)
AllHold-append x [] ss h k = k
AllHold-append x (r ∷ rs) ss h k = (h.0, AllHold-append x rs ss h.1 k)

pub Holds-row_made : (x : ℕ → ℤ) (inputs before : List Row) (s : RowStep) → AllHold x inputs → AllHold x before → Holds x (row_made inputs before s)
Holds-row_made x inputs before (Input i) h k = Holds-at x inputs i h
Holds-row_made x inputs before (Add a m b n) h k =
    Holds-added x m n (slice_index_or before a nothing) (slice_index_or before b nothing) (Holds-at x before a k) (Holds-at x before b k)
Holds-row_made x inputs before (Cut a) h k = Holds-reduced x (slice_index_or before a nothing) (Holds-at x before a k)

pub AllHold-made_from : (x : ℕ → ℤ) (inputs before : List Row) (ss : List RowStep) → AllHold x inputs → AllHold x before → AllHold x (made_from inputs before ss)
AllHold-made_from x inputs before [] h k = k
AllHold-made_from x inputs before (s ∷ ss) h k =
    AllHold-made_from x inputs (before ++ row_made inputs before s ∷ []) ss h
    (AllHold-append x before (row_made inputs before s ∷ []) k (Holds-row_made x inputs before s h k, tt))

pub never : (x : ℕ → ℤ) (r : Row) → IsAbsurd r → Holds x r → ⊥
never x r a h = let e : sum_at x r.parts ≡ pos 0 = ap (sum_at x) a.0 in let b : r.bound <ℤ pos 0 = a.1 in omega (arith, ints)

-- no integers meet rows that are refuted
pub unmet : (x : ℕ → ℤ) (inputs : List Row) (steps : List RowStep) → Refutes inputs steps → AllHold x inputs → ⊥
unmet x inputs steps r h =
    never x (slice_index_or (rows_made inputs steps) r.ends.0 nothing) r.ends.2
    (Holds-at x (rows_made inputs steps) r.ends.0 (AllHold-made_from x inputs [] steps h tt))
