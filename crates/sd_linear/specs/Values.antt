-- values that elimination has chosen, and rows that may be computed with
use Rattle.std.specs.Prelude.{◌≡◌, ◌≤◌, ◌^◌, ℤ, unsigned_abs, true, List, [], ◌∷◌}
use Rattle.sd_rows.specs.declared.row.Row.{Row}
use Rattle.sd_rows.specs.Rows.{is_within}

abbrev pub AllNear : List ℤ → Type 0
AllNear [] = Unit {0}
AllNear (v ∷ vs) = (unsigned_abs v ≤ 2 ^ 56) × AllNear vs

abbrev pub AllWithin : List Row → Type 0
AllWithin [] = Unit {0}
AllWithin (r ∷ rs) = (is_within r ≡ true) × AllWithin rs
