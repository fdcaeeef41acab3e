-- Slots that hold values of some types, and spots that are written to.
use Rattle.std.proofs.Common.{◌≡◌, ◌≢◌, ℕ, suc, ◌+◌, ◌≤◌, ◌<◌, List, [], ◌∷◌, ◌++◌, map, length, Some, refl, sym, ◌∙◌, subst, arith}
use Rattle.std.specs.Prelude.{slice_get, Contains}
use Rattle.std.specs.List.{AllByRecursion}
use Rattle.sd_extract.proofs.SourceWords.{Sort}
use Rattle.sd_extract.proofs.CoreWords.{Spot, Slot, Global, At, Function, Store, slots_from, AllHaveTypes, AreSpotsOf, AreApart, Within, AreTargets}
use Rattle.sd_base.proofs.Lists.{all-push, all-weaker, contains-tail, slice_get-append_right}

-- ---- slots

-- from this slot on, the slots have these types
abbrev pub Holds : List Sort → ℕ → List Sort → Type 0
Holds slots k [] = Unit {0}
Holds slots k (s ∷ ss) = (slice_get slots k ≡ Some s) × Holds slots (suc k) ss

pub holds_left : (slots : List Sort) (k : ℕ) (xs ys : List Sort) → Holds slots k (xs ++ ys) → Holds slots k xs
holds_left slots k [] ys h = tt
holds_left slots k (x ∷ xs) ys h = (h.0, holds_left slots (suc k) xs ys h.1)

pub holds_right : (slots : List Sort) (k : ℕ) (xs ys : List Sort) → Holds slots k (xs ++ ys) → Holds slots (k + length xs) ys
holds_right slots k [] ys h = subst (λ (n : ℕ). Holds slots n ys) (omega arith) h
holds_right slots k (x ∷ xs) ys h =
    let e : suc k + length xs ≡ k + length (x ∷ xs) = omega arith in
    subst (λ (n : ℕ). Holds slots n ys) e (holds_right slots (suc k) xs ys h.1)

holds_shifted : (pre slots : List Sort) (k : ℕ) (ss : List Sort) → Holds slots k ss → Holds (pre ++ slots) (length pre + k) ss
holds_shifted pre slots k [] h = tt
holds_shifted pre slots k (s ∷ ss) h =
    let e : length pre + suc k ≡ suc (length pre + k) = omega arith in
    (slice_get-append_right pre slots k ∙ h.0, subst (λ (n : ℕ). Holds (pre ++ slots) n ss) e (holds_shifted pre slots (suc k) ss h.1))

holds_next : (x : Sort) (slots : List Sort) (k : ℕ) (ss : List Sort) → Holds slots k ss → Holds (x ∷ slots) (suc k) ss
holds_next x slots k [] h = tt
holds_next x slots k (s ∷ ss) h = (h.0, holds_next x slots (suc k) ss h.1)

holds_front : (ss post : List Sort) → Holds (ss ++ post) 0 ss
holds_front [] post = tt
holds_front (s ∷ ss) post = (refl, holds_next s (ss ++ post) 0 ss (holds_front ss post))

-- a list within a list
pub holds_within : (slots pre ss post : List Sort) (k : ℕ) → slots ≡ pre ++ (ss ++ post) → length pre ≡ k → Holds slots k ss
holds_within slots pre ss post k e l =
    let f : length pre + 0 ≡ k = omega (arith, l) in
    subst (λ (xs : List Sort). Holds xs k ss) (sym e) (subst (λ (n : ℕ). Holds (pre ++ (ss ++ post)) n ss) f (holds_shifted pre (ss ++ post) 0 ss (holds_front ss post)))

-- ---- spots

pub spots_hold : {A : Type 0} (S : Store Sort) (k : ℕ) (xs : List A) (ss : List Sort) → length xs ≡ length ss → Holds S.slots k ss → AreSpotsOf S (slots_from k xs) ss
spots_hold S k [] [] e h = refl
spots_hold S k [] (s ∷ ss) e h = absurd (omega (arith, e))
spots_hold S k (x ∷ xs) [] e h = absurd (omega (arith, e))
spots_hold S k (x ∷ xs) (s ∷ ss) e h = (h.0, spots_hold S (suc k) xs ss (omega (arith, e)) h.1)

pub spots_append : (S : Store Sort) (ps qs : List Spot) (ss ts : List Sort) → AreSpotsOf S ps ss → AreSpotsOf S qs ts → AreSpotsOf S (ps ++ qs) (ss ++ ts)
spots_append S [] qs ss ts h k = subst (λ (l : List Sort). AreSpotsOf S qs (l ++ ts)) (sym h) k
spots_append S (p ∷ ps) qs [] ts h k = absurd h
spots_append S (p ∷ ps) qs (s ∷ ss) ts h k = (h.0, spots_append S ps qs ss ts h.1 k)

pub spots_typed : (F : List Function) (S : Store Sort) (ps : List Spot) (ss : List Sort) → AreSpotsOf S ps ss → AllHaveTypes F S (map (λ p. At p) ps) ss
spots_typed F S [] ss h = h
spots_typed F S (p ∷ ps) [] h = h
spots_typed F S (p ∷ ps) (s ∷ ss) h = (h.0, spots_typed F S ps ss h.1)

-- ---- apart

pub slot_is : (i j : ℕ) → Slot i ≡ Slot j → i ≡ j
slot_is i j e = cc

pub slot_below : {A : Type 0} (i k : ℕ) (xs : List A) → i < k → AllByRecursion (λ q. Slot i ≢ q) (slots_from k xs)
slot_below i k [] h = tt
slot_below i k (x ∷ xs) h = ((λ e. let f = slot_is i k e in absurd (omega (arith, f, h))), slot_below i (suc k) xs (omega (arith, h)))

pub slots_apart : {A : Type 0} (k : ℕ) (xs : List A) → AreApart (slots_from k xs)
slots_apart k [] = tt
slots_apart k (x ∷ xs) = (slot_below k (suc k) xs (omega arith), slots_apart (suc k) xs)

-- slots before a slot
pub slots_before : {A : Type 0} (l k : ℕ) (xs : List A) → k + length xs ≤ l → AllByRecursion (λ q. q ≢ Slot l) (slots_from k xs)
slots_before l k [] h = tt
slots_before l k (x ∷ xs) h = ((λ e. let f = slot_is k l e in absurd (omega (arith, f, h))), slots_before l (suc k) xs (omega (arith, h)))

pub apart_last : (ps : List Spot) (q : Spot) → AreApart ps → AllByRecursion (λ p. p ≢ q) ps → AreApart (ps ++ (q ∷ []))
apart_last [] q h k = (tt, tt)
apart_last (p ∷ ps) q h k = (all-push (λ r. p ≢ r) ps q h.0 k.0, apart_last ps q h.1 k.1)

-- ---- within what may be written

pub slots_within : {A : Type 0} (ms : List ℕ) (k : ℕ) (xs : List A) → Within ms (slots_from k xs)
slots_within ms k [] = tt
slots_within ms k (x ∷ xs) = slots_within ms (suc k) xs

pub within_append : (ms : List ℕ) (ps qs : List Spot) → Within ms ps → Within ms qs → Within ms (ps ++ qs)
within_append ms [] qs h k = k
within_append ms (Slot i ∷ ps) qs h k = within_append ms ps qs h k
within_append ms (Global i ∷ ps) qs h k = (h.0, within_append ms ps qs h.1 k)

pub within_cons : (ms : List ℕ) (p : Spot) (ps : List Spot) → Within ms (p ∷ []) → Within ms ps → Within ms (p ∷ ps)
within_cons ms (Slot i) ps h k = k
within_cons ms (Global i) ps h k = (h.0, k)

pub slots_targets : {A : Type 0} (S : Store Sort) (ms : List ℕ) (k : ℕ) (xs : List A) (ss : List Sort) → length xs ≡ length ss → Holds S.slots k ss → AreTargets S ms (slots_from k xs) ss
slots_targets S ms k xs ss e h =
    record { sorts = spots_hold S k xs ss e h; apart = slots_apart k xs; within = slots_within ms k xs }

pub contains_all : {A : Type 0} (xs : List A) → AllByRecursion (Contains xs) xs
contains_all [] = tt
contains_all (x ∷ xs) = ((0, omega arith, refl), all-weaker (Contains xs) (Contains (x ∷ xs)) (λ y h. contains-tail x xs y h) xs (contains_all xs))
