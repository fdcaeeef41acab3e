-- The types of values.
use Rattle.std.proofs.Common.{◌≡◌, ap, refl, Bool, true, false, ◌↔◌, IsTrue}
use Rattle.std.proofs.lemmas.Bool.{and_parts}
use Rattle.sd_base.specs.declared.sort.Sort.{Sort, Int, Bool as BoolSort, Named, Map}
use Rattle.sd_base.specs.declared.sort.Sort.TheBlock.{shape-the_row-Sort-0, hidden-the_row-Sort-0}
use Rattle.sd_base.specs.Value.{Value, Number, Truth, Element, Map as MapValue}
use Rattle.sd_base.specs.Meaning.{index_of}
use Rattle.sd_base.specs.Sorts.{MapOf, IsIndexOf, HasSort, same_sort, IsIndexSort}
use Rattle.sd_base.proofs.Texts.{same_text-is, same_text-refl}
use denote.Hole.Carrier.{hidden}

-- the map type that code makes, as specs match on it
pub map_is : (i v : Sort) → Map i v ≡ MapOf i v
unfolding shape-the_row-Sort-0 hidden-the_row-Sort-0 hidden
map_is i v = refl

pub same_sort-is : (s t : Sort) → same_sort s t ≡ true → s ≡ t
same_sort-is Int Int h = refl
same_sort-is BoolSort BoolSort h = refl
same_sort-is (Named s) (Named t) h = ap Named (same_text-is s t h)
same_sort-is (MapOf i v) (MapOf j w) h =
    let k = and_parts (same_sort i j) (same_sort v w) h in λ l. MapOf (same_sort-is i j k.0 l) (same_sort-is v w k.1 l)
same_sort-is _ _ h = absurd (cc)

pub same_sort-refl : (s : Sort) → same_sort s s ≡ true
same_sort-refl Int = refl
same_sort-refl BoolSort = refl
same_sort-refl (Named t) = same_text-refl t
same_sort-refl (MapOf i v) = rw (same_sort-refl i, same_sort-refl v) refl

-- a test that is true where two types are one is this test
pub same_sort-test : (s t : Sort) (b : Bool) → (IsTrue b ↔ (s ≡ t)) → b ≡ same_sort s t
same_sort-test s t b h = go b (same_sort s t) h refl
  where
    go : (b c : Bool) → (IsTrue b ↔ (s ≡ t)) → same_sort s t ≡ c → b ≡ c
    go true true h e = refl
    go false false h e = refl
    go true false h e = absurd (let a = ap (same_sort s) (h.0 refl) in let r = same_sort-refl s in cc)
    go false true h e = h.1 (same_sort-is s t e)

-- a value of a type that indexes maps is read as an index of it
pub index_of-sorted : (s : Sort) (v : Value) → IsIndexSort s → HasSort s v → IsIndexOf s (index_of v)
index_of-sorted Int (Number a) k h = tt
index_of-sorted Int (Truth b) k h = absurd h
index_of-sorted Int (Element t n) k h = absurd h
index_of-sorted Int (MapValue d es) k h = absurd h
index_of-sorted (Named t) (Number a) k h = absurd h
index_of-sorted (Named t) (Truth b) k h = absurd h
index_of-sorted (Named t) (Element u n) k h = h
index_of-sorted (Named t) (MapValue d es) k h = absurd h
index_of-sorted _ x k h = absurd k
