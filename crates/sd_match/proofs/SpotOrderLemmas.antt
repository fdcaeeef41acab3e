-- Inputs and outputs stand in the order of the old program.
use Rattle.std.proofs.Common.{ℕ, suc, ◌+◌, ◌<◌, ◌≤◌, Bool, true, false, List, [], ◌∷◌, ◌++◌, length, length-take, take, drop, arith}
use Rattle.std.specs.Prelude.{◌||◌, Option, Some, None, slice_get, if◌then◌else◌}
use Rattle.std.specs.List.{AllByRecursion, filter}
use Rattle.sd_base.specs.declared.Sort.{Sort}
use Rattle.sd_base.specs.declared.Var.{Var}
use Rattle.sd_core.specs.declared.Spot.{Spot}
use Rattle.sd_core.specs.declared.Spot.TheVariants.{Slot, Global}
use Rattle.sd_core.specs.declared.Shared.{Shared}
use Rattle.sd_core.specs.declared.CoreProc.{CoreProc}
use Rattle.sd_core.specs.declared.CoreProgram.{CoreProgram}
use Rattle.sd_core.specs.Failure.{place_from, shared_at, shared_from, shared_of}
use Rattle.sd_match.specs.declared.pair.SpotPair.{SpotPair}
use Rattle.sd_match.specs.Pairs.{by_position, by_name, named_pair, shared_pair, shared_pairs, is_among, modified_globals, root_of, fixed_ins, fixed_outs, carried_count, in_pairs, out_pairs, inputs_of, outputs_of}
use Rattle.sd_match.specs.PlainSpots.{ComesBefore, Ascend}
use Rattle.sd_match.proofs.PairLemmas.{all-append}

-- ---- lists of which all is said

all_more : {A : Type 0} (P Q : A → Type 0) (xs : List A) → ((x : A) → P x → Q x) → AllByRecursion P xs → AllByRecursion Q xs
all_more P Q [] f h = tt
all_more P Q (x ∷ xs) f h = (f x h.0, all_more P Q xs f h.1)

ascend-append : (xs ys : List SpotPair) → Ascend xs → Ascend ys → AllByRecursion (λ s. AllByRecursion (λ t. ComesBefore s.old t.old) ys) xs → Ascend (xs ++ ys)
ascend-append [] ys a b h = b
ascend-append (x ∷ xs) ys a b h = (all-append (λ t. ComesBefore x.old t.old) xs ys a.0 h.0, ascend-append xs ys a.1 b h.1)

-- ---- slots

abbrev IsSlotWithin : ℕ → ℕ → Spot → Type 0
IsSlotWithin low high (Slot m) = (low ≤ m) × (m < high)
IsSlotWithin low high (Global m) = ⊥

record AreSlots (low high : ℕ) (ss : List SpotPair) : Type 0 where
  ascend : Ascend ss
  within : AllByRecursion (λ s. IsSlotWithin low high s.old) ss

slots_before : (low middle high : ℕ) (p q : Spot) → IsSlotWithin low middle p → IsSlotWithin middle high q → ComesBefore p q
slots_before low middle high (Slot m) (Slot n) h k = let a = h.1 in let b = k.0 in omega (arith, a, b)
slots_before low middle high (Slot m) (Global n) h k = absurd k
slots_before low middle high (Global m) q h k = absurd h

wider : (low low' high high' : ℕ) (p : Spot) → low' ≤ low → high ≤ high' → IsSlotWithin low high p → IsSlotWithin low' high' p
wider low low' high high' (Slot m) e f h = (let a = h.0 in omega (arith, a, e), let b = h.1 in omega (arith, b, f))
wider low low' high high' (Global m) e f h = absurd h

slots_wider : (low low' high high' : ℕ) (ss : List SpotPair) → low' ≤ low → high ≤ high' → AreSlots low high ss → AreSlots low' high' ss
slots_wider low low' high high' ss e f r = record { ascend = r.ascend; within = all_more (λ s. IsSlotWithin low high s.old) (λ s. IsSlotWithin low' high' s.old) ss (λ s h. wider low low' high high' s.old e f h) r.within }

slots-append : (low middle high : ℕ) (xs ys : List SpotPair) → low ≤ middle → middle ≤ high → AreSlots low middle xs → AreSlots middle high ys → AreSlots low high (xs ++ ys)
slots-append low middle high xs ys e f a b = record {
  ascend = ascend-append xs ys a.ascend b.ascend (all_more (λ s. IsSlotWithin low middle s.old) (λ s. AllByRecursion (λ t. ComesBefore s.old t.old) ys) xs
      (λ s h. all_more (λ t. IsSlotWithin middle high t.old) (λ t. ComesBefore s.old t.old) ys (λ t k. slots_before low middle high s.old t.old h k) b.within) a.within);
  within = all-append (λ s. IsSlotWithin low high s.old) xs ys
      (slots_wider low low middle high xs (omega arith) f a).within
      (slots_wider middle low high high ys e (omega arith) b).within;
}

one_slot : (i j : ℕ) (sort : Sort) → AreSlots i (suc i) (record { old = Slot i; new = Slot j; sort = sort } ∷ [])
one_slot i j sort = record { ascend = (tt, tt); within = ((omega arith, omega arith), tt) }

no_slots : (low high : ℕ) → AreSlots low high []
no_slots low high = record { ascend = tt; within = tt }

by_position-slots : (i j : ℕ) (xs ys : List Var) → AreSlots i (i + length xs) (by_position i j xs ys)
by_position-slots i j [] ys = no_slots i (i + 0)
by_position-slots i j (x ∷ xs) [] = no_slots i (i + suc (length xs))
by_position-slots i j (x ∷ xs) (y ∷ ys) =
    let rest = slots_wider (suc i) (suc i) (suc i + length xs) (i + suc (length xs)) (by_position (suc i) (suc j) xs ys) (omega arith) (omega arith) (by_position-slots (suc i) (suc j) xs ys) in
    slots-append i (suc i) (i + suc (length xs)) (record { old = Slot i; new = Slot j; sort = x.sort } ∷ []) (by_position (suc i) (suc j) xs ys) (omega arith) (omega arith) (one_slot i j x.sort) rest

named-slots : (i j : ℕ) (sort : Sort) (o : Option ℕ) → AreSlots i (suc i) (named_pair i j sort o)
named-slots i j sort None = no_slots i (suc i)
named-slots i j sort (Some n) = one_slot i (j + n) sort

by_name-slots : (i j : ℕ) (xs ys : List Var) → AreSlots i (i + length xs) (by_name i j xs ys)
by_name-slots i j [] ys = no_slots i (i + 0)
by_name-slots i j (x ∷ xs) ys =
    let rest = slots_wider (suc i) (suc i) (suc i + length xs) (i + suc (length xs)) (by_name (suc i) j xs ys) (omega arith) (omega arith) (by_name-slots (suc i) j xs ys) in
    slots-append i (suc i) (i + suc (length xs)) (named_pair i j x.sort (place_from 0 ys x)) (by_name (suc i) j xs ys) (omega arith) (omega arith) (named-slots i j x.sort (place_from 0 ys x)) rest

take-below : (n : ℕ) (xs : List Var) → length (take n xs) ≤ n
take-below n xs = let e = length-take n xs in omega (arith, e)

in-slots : (a b : ℕ) (olds news : List Var) → AreSlots 0 (a + length (drop a olds)) (in_pairs a b olds news)
in-slots a b olds news =
    let t = take-below a olds in
    slots-append 0 a (a + length (drop a olds)) (by_position 0 0 (take a olds) (take b news)) (by_name a b (drop a olds) (drop b news)) (omega arith) (omega arith)
    (slots_wider 0 0 (0 + length (take a olds)) a (by_position 0 0 (take a olds) (take b news)) (omega arith) (omega (arith, t)) (by_position-slots 0 0 (take a olds) (take b news)))
    (by_name-slots a b (drop a olds) (drop b news))

out-slots : (i j a b d e : ℕ) (olds news : List Var) → AreSlots i (i + (a + d) + length (drop (a + d) olds)) (out_pairs i j a b d e olds news)
out-slots i j a b d e olds news =
    let t = take-below a olds in
    let u = take-below d (drop a olds) in
    let first = by_position i j (take a olds) (take b news) in
    let second = by_name (i + a) (j + b) (take d (drop a olds)) (take e (drop b news)) in
    let third = by_position (i + (a + d)) (j + (b + e)) (drop (a + d) olds) (drop (b + e) news) in
    let high = i + (a + d) + length (drop (a + d) olds) in
    slots-append i (i + a) high first (second ++ third) (omega arith) (omega arith)
    (slots_wider i i (i + length (take a olds)) (i + a) first (omega arith) (omega (arith, t)) (by_position-slots i j (take a olds) (take b news)))
    (slots-append (i + a) (i + (a + d)) high second third (omega arith) (omega arith)
    (slots_wider (i + a) (i + a) (i + a + length (take d (drop a olds))) (i + (a + d)) second (omega arith) (omega (arith, u)) (by_name-slots (i + a) (j + b) (take d (drop a olds)) (take e (drop b news))))
    (by_position-slots (i + (a + d)) (j + (b + e)) (drop (a + d) olds) (drop (b + e) news)))

-- ---- globals

abbrev IsGlobalFrom : ℕ → Spot → Type 0
IsGlobalFrom low (Slot m) = ⊥
IsGlobalFrom low (Global m) = low ≤ m

record AreGlobals (low : ℕ) (ss : List SpotPair) : Type 0 where
  ascend : Ascend ss
  within : AllByRecursion (λ s. IsGlobalFrom low s.old) ss

-- shared globals in the order of the old program
abbrev SharedFrom : ℕ → List Shared → Type 0
SharedFrom low [] = Unit {0}
SharedFrom low (s ∷ ss) = (low ≤ s.old) × SharedFrom (suc s.old) ss

lower_from : (low low' : ℕ) (ss : List Shared) → low' ≤ low → SharedFrom low ss → SharedFrom low' ss
lower_from low low' [] e h = tt
lower_from low low' (s ∷ ss) e h = (let a = h.0 in omega (arith, a, e), h.1)

shared_from-order : (n : ℕ) (olds news : List Var) → SharedFrom n (shared_from n olds news)
shared_from-order n [] news = tt
shared_from-order n (x ∷ olds) news = go (place_from 0 news x) (shared_from-order (suc n) olds news)
  where
    go : (o : Option ℕ) → SharedFrom (suc n) (shared_from (suc n) olds news) → SharedFrom n (shared_at n o ++ shared_from (suc n) olds news)
    go None h = lower_from (suc n) n (shared_from (suc n) olds news) (omega arith) h
    go (Some j) h = (omega arith, h)

filter-order : (f : Shared → Bool) (low : ℕ) (ss : List Shared) → SharedFrom low ss → SharedFrom low (filter f ss)
filter-order f low [] h = tt
filter-order f low (s ∷ ss) h = go (f s) (filter-order f (suc s.old) ss h.1)
  where
    go : (b : Bool) → SharedFrom (suc s.old) (filter f ss) → SharedFrom low (if b then s ∷ filter f ss else filter f ss)
    go true k = (h.0, k)
    go false k = lower_from (suc s.old) low (filter f ss) (let a = h.0 in omega (arith, a)) k

global_lower : (low low' : ℕ) (p : Spot) → low' ≤ low → IsGlobalFrom low p → IsGlobalFrom low' p
global_lower low low' (Slot m) e h = absurd h
global_lower low low' (Global m) e h = omega (arith, e, h)

global_before : (m : ℕ) (p : Spot) → IsGlobalFrom (suc m) p → ComesBefore (Global m) p
global_before m (Slot n) h = absurd h
global_before m (Global n) h = omega (arith, h)

shared_pairs-order : (globals : List Var) (low : ℕ) (ss : List Shared) → SharedFrom low ss → AreGlobals low (shared_pairs globals ss)
shared_pairs-order globals low [] h = record { ascend = tt; within = tt }
shared_pairs-order globals low (s ∷ ss) h = go (slice_get globals s.old) (shared_pairs-order globals (suc s.old) ss h.1)
  where
    lower : AreGlobals (suc s.old) (shared_pairs globals ss) → AllByRecursion (λ t. IsGlobalFrom low t.old) (shared_pairs globals ss)
    lower r = all_more (λ t. IsGlobalFrom (suc s.old) t.old) (λ t. IsGlobalFrom low t.old) (shared_pairs globals ss) (λ t k. global_lower (suc s.old) low t.old (let a = h.0 in omega (arith, a)) k) r.within

    go : (o : Option Var) → AreGlobals (suc s.old) (shared_pairs globals ss) → AreGlobals low (shared_pair s o ++ shared_pairs globals ss)
    go None r = record { ascend = r.ascend; within = lower r }
    go (Some x) r = record {
      ascend = (all_more (λ t. IsGlobalFrom (suc s.old) t.old) (λ t. ComesBefore (Global s.old) t.old) (shared_pairs globals ss) (λ t k. global_before s.old t.old k) r.within, r.ascend);
      within = (h.0, lower r);
    }

-- ---- slots, and then globals

slot_first : (low high n : ℕ) (p q : Spot) → IsSlotWithin low high p → IsGlobalFrom n q → ComesBefore p q
slot_first low high n (Slot i) (Slot j) h k = absurd k
slot_first low high n (Slot i) (Global j) h k = tt
slot_first low high n (Global i) q h k = absurd h

globals_last : (low high n : ℕ) (xs ys : List SpotPair) → AreSlots low high xs → AreGlobals n ys → Ascend (xs ++ ys)
globals_last low high n xs ys a b = ascend-append xs ys a.ascend b.ascend (all_more (λ s. IsSlotWithin low high s.old) (λ s. AllByRecursion (λ t. ComesBefore s.old t.old) ys) xs
    (λ s h. all_more (λ t. IsGlobalFrom n t.old) (λ t. ComesBefore s.old t.old) ys (λ t k. slot_first low high n s.old t.old h k) b.within) a.within)

pub inputs-order : (P Q : CoreProgram) (p q : CoreProc) → Ascend (inputs_of P Q p q)
inputs-order P Q p q =
    let a = fixed_ins p (root_of P p) in
    let b = fixed_ins q (root_of Q q) in
    globals_last 0 (a + length (drop a p.ins)) 0 (in_pairs a b p.ins q.ins) (shared_pairs P.globals (shared_of P.globals Q.globals))
    (in-slots a b p.ins q.ins) (shared_pairs-order P.globals 0 (shared_of P.globals Q.globals) (shared_from-order 0 P.globals Q.globals))

pub outputs-order : (P Q : CoreProgram) (p q : CoreProc) → Ascend (outputs_of P Q p q)
outputs-order P Q p q =
    let i = length p.ins in
    let a = fixed_outs p (root_of P p) in
    let b = fixed_outs q (root_of Q q) in
    let d = carried_count p (root_of P p) in
    let e = carried_count q (root_of Q q) in
    let shared = shared_of P.globals Q.globals in
    globals_last i (i + (a + d) + length (drop (a + d) p.outs)) 0 (out_pairs i (length q.ins) a b d e p.outs q.outs) (shared_pairs P.globals (modified_globals p q shared))
    (out-slots i (length q.ins) a b d e p.outs q.outs)
    (shared_pairs-order P.globals 0 (modified_globals p q shared) (filter-order (λ s. is_among s.old p.modifies || is_among s.new q.modifies) 0 shared (shared_from-order 0 P.globals Q.globals)))
