-- Which values a type has.
use Rattle.std.specs.Prelude.{◌≡◌, Bool, true, false, ◌&&◌}
use Rattle.std.specs.Ordering.{is_lt}
use Rattle.sd_base.specs.declared.sort.Sort.{Sort, Int, Bool as BoolSort, Named, Map', more_of-Sort, end_of-Sort}
use Rattle.sd_base.specs.Value.{Value, Number, Truth, Element, Map, Entries, no_entry, entry, Index, at_number, at_element, index_cmp, same_value, same_text}

pattern abbrev pub MapOf : Sort → Sort → Sort
MapOf i v = Map' tt (more_of-Sort i end_of-Sort) tt (more_of-Sort v end_of-Sort)

abbrev pub IsIndexOf : Sort → Index → Type 0
IsIndexOf Int (at_number a) = Unit {0}
IsIndexOf (Named t) (at_element s n) = s ≡ t
IsIndexOf _ _ = ⊥

abbrev pub is_before : Index → Entries → Bool
is_before i no_entry = true
is_before i (entry j v es) = is_lt (index_cmp i j)

-- Indices ascend and have type i, and values have P and aren't the default.
abbrev pub AreEntries : Sort → (Value → Type 0) → Value → Entries → Type 0
AreEntries i P d no_entry = Unit {0}
AreEntries i P d (entry j v es) =
    IsIndexOf i j × (is_before j es ≡ true) × P v × (same_value v d ≡ false) × AreEntries i P d es

-- the value is one of the type
abbrev pub HasSort : Sort → Value → Type 0
HasSort Int (Number a) = Unit {0}
HasSort BoolSort (Truth b) = Unit {0}
HasSort (Named t) (Element s n) = s ≡ t
HasSort (MapOf i v) (Map d es) = HasSort v d × AreEntries i (HasSort v) d es
HasSort _ _ = ⊥

-- the sorts of a map's values and of its indices
abbrev pub value_sort : Sort → Sort
value_sort (MapOf i v) = v
value_sort _ = BoolSort

abbrev pub index_sort : Sort → Sort
index_sort (MapOf i v) = i
index_sort _ = Int

-- whether two types are one
abbrev pub same_sort : Sort → Sort → Bool
same_sort Int Int = true
same_sort BoolSort BoolSort = true
same_sort (Named s) (Named t) = same_text s t
same_sort (MapOf i v) (MapOf j w) = same_sort i j && same_sort v w
same_sort _ _ = false

-- a type whose values index maps
abbrev pub IsIndexSort : Sort → Type 0
IsIndexSort Int = Unit {0}
IsIndexSort (Named t) = Unit {0}
IsIndexSort _ = ⊥

-- each map type in it has such a type of indices
abbrev pub IsSort : Sort → Type 0
IsSort (MapOf i v) = IsIndexSort i × IsSort v
IsSort _ = Unit {0}
