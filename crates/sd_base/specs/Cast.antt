-- whether a value is one of a type, as a test, and the cast by it
use Rattle.std.specs.Prelude.{pos, Bool, true, false, not, ◌&&◌, if◌then◌else◌}
use Rattle.sd_base.specs.declared.sort.Sort.{Sort, Int, Bool as BoolSort, Named}
use Rattle.sd_base.specs.Value.{Value, Number, Truth, Element, Map, Entries, no_entry, entry, Index, at_number, at_element, same_value, same_text}
use Rattle.sd_base.specs.Sorts.{MapOf, is_before}

abbrev pub is_index_of : Sort → Index → Bool
is_index_of Int (at_number a) = true
is_index_of (Named t) (at_element s n) = same_text s t
is_index_of _ _ = false

abbrev pub are_entries : Sort → (Value → Bool) → Value → Entries → Bool
are_entries i p d no_entry = true
are_entries i p d (entry j v es) =
    is_index_of i j && (is_before j es && (p v && (not (same_value v d) && are_entries i p d es)))

abbrev pub has_sort : Sort → Value → Bool
has_sort Int (Number a) = true
has_sort BoolSort (Truth b) = true
has_sort (Named t) (Element s n) = same_text s t
has_sort (MapOf i v) (Map d es) = has_sort v d && are_entries i (has_sort v) d es
has_sort _ _ = false

abbrev pub default_of : Sort → Value
default_of Int = Number (pos 0)
default_of BoolSort = Truth false
default_of (Named t) = Element t 0
default_of (MapOf i v) = Map (default_of v) no_entry

-- the value, where it is one of the type, and else the type's default
abbrev pub cast : Sort → Value → Value
cast s x = if has_sort s x then x else default_of s
