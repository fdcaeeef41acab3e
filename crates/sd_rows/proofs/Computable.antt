-- rows that may be computed with
use Rattle.std.proofs.Common.{◌≡◌, List, [], ◌∷◌, ◌++◌, true}
use Rattle.sd_rows.specs.declared.row.Row.{Row}
use Rattle.sd_rows.specs.Rows.{IsProper, is_within, AllComputable}

pub computable-push : (rs : List Row) (r : Row) → AllComputable rs → IsProper r.parts → is_within r ≡ true → AllComputable (rs ++ r ∷ [])
computable-push [] r a p w = ((p, w), tt)
computable-push (s ∷ rs) r a p w = (a.0, computable-push rs r a.1 p w)
