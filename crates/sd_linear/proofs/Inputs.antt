-- the input rows and their columns
use Rattle.std.proofs.Common.{◌≡◌, ℕ, zero, suc, ◌<◌, List, [], ◌∷◌, length, get_or, sym, subst, true, arith, ℤ}
use Rattle.sd_rows.specs.declared.row.Row.{Row}
use Rattle.sd_rows.specs.Rows.{IsProper, is_within, AllHold, AllComputable}
use Rattle.sd_linear.specs.Elimination.{elimination, point, value_of, columns}
use Rattle.sd_linear.proofs.Choosing.{AllProper}
use Rattle.sd_linear.proofs.Points.{elimination-meets}

pub computable-item : (rs : List Row) (i : ℕ) (r : Row) → i < length rs → r ≡ get_or rs i r → AllComputable rs → IsProper r.parts × (is_within r ≡ true)
computable-item [] i r l e a = absurd (omega arith)
computable-item (s ∷ rs) zero r l e a = subst (λ (t : Row). IsProper t.parts × (is_within t ≡ true)) (sym e) a.0
computable-item (s ∷ rs) (suc i) r l e a = computable-item rs i r (omega arith) e a.1

AllProper-computable : (rs : List Row) → AllComputable rs → AllProper rs
AllProper-computable [] a = tt
AllProper-computable (r ∷ rs) a = (a.0.0, AllProper-computable rs a.1)

pub point-meets : (rs : List Row) (vs : List ℤ) → AllComputable rs → elimination rs ≡ point vs → AllHold (value_of (columns rs) vs) rs
point-meets rs vs a e = elimination-meets rs vs (AllProper-computable rs a) e
