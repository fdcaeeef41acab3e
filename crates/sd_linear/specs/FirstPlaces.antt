-- tables of the first places of left sides in lists of rows
use Rattle.std.specs.Prelude.{◌≡◌, ℕ, Bool, nat_eq, ◌&&◌, List, Option, Vec}
use Rattle.std.specs.List.{position}
use Rattle.std.specs.Ordering.{int_eq}
use Rattle.std.specs.Cmp.Lexicographic.{pointwise}
use Rattle.std.specs.HashMap.{HashMap, get_by}
use Rattle.sd_rows.specs.Rows.{Part, Parts}
use Rattle.sd_linear.specs.declared.list.DerivedRow.{DerivedRow}
use Rattle.sd_linear.specs.Elimination.{same_parts}

abbrev pub same_part : Part → Part → Bool
same_part p q = nat_eq p.0 q.0 && int_eq p.1 q.1

-- the place that the table has for a left side
abbrev pub place_in : {Y S : Type 0} → HashMap (Vec Part Y) ℕ S → Parts → Option ℕ
place_in places ps = get_by (λ k. pointwise same_part ps k.items) places

-- it is that of the first row with this left side
abbrev pub HasFirstPlaces : {Y S : Type 0} → HashMap (Vec Part Y) ℕ S → List DerivedRow → Type 0
HasFirstPlaces places rows = (ps : Parts) → place_in places ps ≡ position (λ h. same_parts ps h.row.parts) rows
