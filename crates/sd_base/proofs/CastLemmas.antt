-- the test is the relation, and a cast has the type
use Rattle.std.proofs.Common.{◌≡◌, Bool, true, false, refl}
use Rattle.std.proofs.lemmas.Bool.{and_parts, not-true}
use Rattle.std.specs.Prelude.{not, ◌&&◌, if◌then◌else◌}
use Rattle.std.specs.Cmp.Lexicographic.{bytes_decides}
use Rattle.sd_base.specs.declared.sort.Sort.{Sort, Int, Bool as BoolSort, Named}
use Rattle.sd_base.specs.Value.{Value, Number, Truth, Element, Map, Entries, no_entry, entry, Index, at_number, at_element, same_value}
use Rattle.sd_base.specs.Sorts.{MapOf, IsIndexOf, is_before, AreEntries, HasSort}
use Rattle.sd_base.specs.Cast.{is_index_of, are_entries, has_sort, default_of, cast}

pub index-true : (s : Sort) (i : Index) → is_index_of s i ≡ true → IsIndexOf s i
index-true Int (at_number a) h = tt
index-true (Named t) (at_element s n) h = (bytes_decides s t).0 h
index-true _ _ h = let f : false ≡ true = h in cc

pub entries-true : (i : Sort) (p : Value → Bool) (P : Value → Type 0) → ((x : Value) → p x ≡ true → P x) → (d : Value) (es : Entries) → are_entries i p d es ≡ true → AreEntries i P d es
entries-true i p P f d no_entry h = tt
entries-true i p P f d (entry j v es) h =
    let one = and_parts (is_index_of i j) (is_before j es && (p v && (not (same_value v d) && are_entries i p d es))) h in
    let two = and_parts (is_before j es) (p v && (not (same_value v d) && are_entries i p d es)) one.1 in
    let three = and_parts (p v) (not (same_value v d) && are_entries i p d es) two.1 in
    let four = and_parts (not (same_value v d)) (are_entries i p d es) three.1 in
    (index-true i j one.0, two.0, f v three.0, not-true (same_value v d) four.0, entries-true i p P f d es four.1)

pub has_sort-true : (s : Sort) (x : Value) → has_sort s x ≡ true → HasSort s x
has_sort-true Int (Number a) h = tt
has_sort-true BoolSort (Truth b) h = tt
has_sort-true (Named t) (Element s n) h = (bytes_decides s t).0 h
has_sort-true (MapOf i v) (Map d es) h =
    let b = and_parts (has_sort v d) (are_entries i (has_sort v) d es) h in
    (has_sort-true v d b.0, entries-true i (has_sort v) (HasSort v) (λ x k. has_sort-true v x k) d es b.1)
has_sort-true _ _ h = let f : false ≡ true = h in cc

pub default-sorted : (s : Sort) → HasSort s (default_of s)
default-sorted Int = tt
default-sorted BoolSort = tt
default-sorted (Named t) = refl
default-sorted (MapOf i v) = (default-sorted v, tt)

pub cast-sorted : (s : Sort) (x : Value) → HasSort s (cast s x)
cast-sorted s x = go (has_sort s x) refl
  where
    go : (b : Bool) → has_sort s x ≡ b → HasSort s (if b then x else default_of s)
    go true e = has_sort-true s x e
    go false e = default-sorted s
