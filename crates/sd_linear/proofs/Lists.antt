-- how a row joins a list
use Rattle.std.proofs.Common.{◌≡◌, ℕ, zero, suc, ◌<◌, ◌≤◌, List, [], ◌∷◌, ◌++◌, length, get_or, set, refl, ap, Bool, true, false, not, arith, ◌==◌, nat_eq, ◌&&◌, Some, None}
use Rattle.std.specs.Prelude.{int_lt}
use Rattle.std.specs.List.{position, prefix_len}
use Rattle.std.specs.Ordering.{int_eq}
use Rattle.std.proofs.lemmas.List.Quantifiers.{position-Some}
use lib.Pointwise.{pointwise}
use Rattle.std.proofs.lemmas.Bool.Decides.{nat_tests}
use Rattle.sd_rows.specs.declared.row.Row.{Row}
use Rattle.sd_linear.specs.declared.list.DerivedRow.{DerivedRow}
use Rattle.sd_rows.specs.Rows.{Part, Parts}
use Rattle.sd_linear.specs.Elimination.{same_parts, joined}
use Rattle.sd_linear.specs.DerivedRows.{rows_of, default_row, IsDerivedRow, AreDerivedRows}

pub same_parts-is : (a b : Parts) → pointwise (λ (x : Part) (y : Part). nat_eq x.0 y.0 && int_eq x.1 y.1) a b ≡ same_parts a b
same_parts-is [] [] = refl
same_parts-is [] (q ∷ qs) = refl
same_parts-is (p ∷ ps) [] = refl
same_parts-is (p ∷ ps) (q ∷ qs) = ap (λ (t : Bool). (p.0 == q.0) && int_eq p.1 q.1 && t) (same_parts-is ps qs)

abbrev pub fits_in : DerivedRow → DerivedRow → Bool
fits_in h g = same_parts h.row.parts g.row.parts

less-at : (h : DerivedRow) (hs : List DerivedRow) (i : ℕ) → i < length hs → fits_in h (get_or hs i default_row) ≡ true
    → ((k : ℕ) → k < i → fits_in h (get_or hs k default_row) ≡ false) → int_lt h.row.bound (get_or hs i default_row).row.bound ≡ true → joined h.row (rows_of hs) ≡ rows_of (set hs i h)
less-at h [] i l e f b = absurd (omega arith)
less-at h (g ∷ gs) zero l e f b = grind arith
less-at h (g ∷ gs) (suc i) l e f b = grind (arith, f 0 (omega arith), less-at h gs i (omega arith) e (λ k m. f (suc k) (omega arith)) b)

not-less-at : (h : DerivedRow) (hs : List DerivedRow) (i : ℕ) → i < length hs → fits_in h (get_or hs i default_row) ≡ true
    → ((k : ℕ) → k < i → fits_in h (get_or hs k default_row) ≡ false) → int_lt h.row.bound (get_or hs i default_row).row.bound ≡ false → joined h.row (rows_of hs) ≡ rows_of hs
not-less-at h [] i l e f b = absurd (omega arith)
not-less-at h (g ∷ gs) zero l e f b = grind arith
not-less-at h (g ∷ gs) (suc i) l e f b = grind (arith, f 0 (omega arith), not-less-at h gs i (omega arith) e (λ k m. f (suc k) (omega arith)) b)

last-at : (h : DerivedRow) (hs : List DerivedRow) → length hs ≤ prefix_len (λ (g : DerivedRow). not (fits_in h g)) hs → joined h.row (rows_of hs) ≡ rows_of (hs ++ h ∷ [])
last-at h [] l = refl
last-at h (g ∷ gs) l = grind (arith, last-at h gs)

pub joined-less : (h : DerivedRow) (hs : List DerivedRow) (i : ℕ) → position (fits_in h) hs ≡ Some i → int_lt h.row.bound (get_or hs i default_row).row.bound ≡ true → joined h.row (rows_of hs) ≡ rows_of (set hs i h)
joined-less h hs i e b = let s = position-Some (fits_in h) hs i default_row e in less-at h hs i s.0 s.1 s.2 b

pub joined-not_less : (h : DerivedRow) (hs : List DerivedRow) (i : ℕ) → position (fits_in h) hs ≡ Some i → int_lt h.row.bound (get_or hs i default_row).row.bound ≡ false → joined h.row (rows_of hs) ≡ rows_of hs
joined-not_less h hs i e b = let s = position-Some (fits_in h) hs i default_row e in not-less-at h hs i s.0 s.1 s.2 b

pub joined-last : (h : DerivedRow) (hs : List DerivedRow) → position (fits_in h) hs ≡ None → joined h.row (rows_of hs) ≡ rows_of (hs ++ h ∷ [])
joined-last h hs e = last-at h hs (grind (arith, nat_tests))

pub AreDerivedRows-append : (made : List Row) (hs gs : List DerivedRow) → AreDerivedRows made hs → AreDerivedRows made gs → AreDerivedRows made (hs ++ gs)
AreDerivedRows-append made [] gs a b = b
AreDerivedRows-append made (h ∷ hs) gs a b = (a.0, AreDerivedRows-append made hs gs a.1 b)

pub AreDerivedRows-set : (made : List Row) (hs : List DerivedRow) (i : ℕ) (h : DerivedRow) → IsDerivedRow made h → AreDerivedRows made hs → AreDerivedRows made (set hs i h)
AreDerivedRows-set made [] i h b a = tt
AreDerivedRows-set made (g ∷ gs) zero h b a = (b, a.1)
AreDerivedRows-set made (g ∷ gs) (suc i) h b a = (a.0, AreDerivedRows-set made gs i h b a.1)
