-- What stands at the two places of a pair of inputs, or of outputs, has one type.
use Rattle.std.proofs.Common.{◌≡◌, ◌∙◌, sym, ap, refl, subst, ℕ, zero, suc, ◌+◌, ◌≤◌, Bool, true, false, List, [], ◌∷◌, ◌++◌, length, get_or, take, drop, arith}
use Rattle.sd_base.proofs.SortLemmas.{same_sort-is}
use Rattle.std.specs.Prelude.{◌&&◌, Option, Some, None, slice_get, if◌then◌else◌}
use Rattle.std.specs.List.{AllByRecursion}
use Rattle.std.proofs.lemmas.Option.{same_Some}
use Rattle.sd_base.proofs.Lists.{all-append}
use Rattle.sd_base.specs.declared.Sort.{Sort, Bool as BoolSort}
use Rattle.sd_base.specs.declared.Var.{Var}
use Rattle.sd_base.specs.Value.{same_text}
use Rattle.sd_core.specs.declared.Shared.{Shared}
use Rattle.sd_core.specs.Store.{Store, read}
use Rattle.sd_core.specs.Formed.{sorts_of, same_sort}
use Rattle.sd_core.specs.Failure.{place_from, shared_at, shared_from}
use Rattle.sd_match.specs.declared.pair.SpotPair.{SpotPair}
use Rattle.sd_match.specs.Pairs.{same_sorts, by_position, named_pair, by_name, shared_pair, shared_pairs, in_pairs, out_pairs}
use Rattle.sd_term.specs.Tree.{and-left, and-right}

-- ---- pairs of places

-- what stands at a pair of places has one type
abbrev pub Agrees : Store Sort → Store Sort → SpotPair → Type 0
Agrees S T s = read BoolSort S s.old ≡ read BoolSort T s.new

-- the types of variables stand from place i on
abbrev pub Stand : List Sort → ℕ → List Var → Type 0
Stand ss i [] = Unit {0}
Stand ss i (x ∷ xs) = (get_or ss i BoolSort ≡ x.sort) × Stand ss (suc i) xs

stand-shift : (s : Sort) (ss : List Sort) (i : ℕ) (xs : List Var) → Stand ss i xs → Stand (s ∷ ss) (suc i) xs
stand-shift s ss i [] h = tt
stand-shift s ss i (x ∷ xs) h = (h.0, stand-shift s ss (suc i) xs h.1)

pub stand-self : (xs : List Var) → Stand (sorts_of xs) 0 xs
stand-self [] = tt
stand-self (x ∷ xs) = (refl, stand-shift x.sort (sorts_of xs) 0 xs (stand-self xs))

-- so after others
pub stand-after : (xs ys : List Var) → Stand (sorts_of xs ++ sorts_of ys) (length xs) ys
stand-after [] ys = stand-self ys
stand-after (x ∷ xs) ys = stand-shift x.sort (sorts_of xs ++ sorts_of ys) (length xs) ys (stand-after xs ys)

stand-take : (ss : List Sort) (i n : ℕ) (xs : List Var) → Stand ss i xs → Stand ss i (take n xs)
stand-take ss i zero [] h = tt
stand-take ss i zero (x ∷ xs) h = tt
stand-take ss i (suc n) [] h = tt
stand-take ss i (suc n) (x ∷ xs) h = (h.0, stand-take ss (suc i) n xs h.1)

stand-drop : (ss : List Sort) (i n : ℕ) (xs : List Var) → Stand ss i xs → Stand ss (i + n) (drop n xs)
stand-drop ss i zero [] h = tt
stand-drop ss i zero (x ∷ xs) h = let same : i ≡ i + 0 = omega arith in subst (λ (k : ℕ). Stand ss k (x ∷ xs)) same h
stand-drop ss i (suc n) [] h = tt
stand-drop ss i (suc n) (x ∷ xs) h =
    let same : suc i + n ≡ i + suc n = omega arith in
    subst (λ (k : ℕ). Stand ss k (drop n xs)) same (stand-drop ss (suc i) n xs h.1)

-- ---- by position

-- the types agree by position, as far as both lists go
abbrev pub Alike : List Var → List Var → Type 0
Alike [] ys = Unit {0}
Alike (x ∷ xs) [] = Unit {0}
Alike (x ∷ xs) (y ∷ ys) = (x.sort ≡ y.sort) × Alike xs ys

pub alike : (xs ys : List Var) → same_sorts xs ys ≡ true → Alike xs ys
alike [] ys h = tt
alike (x ∷ xs) [] h = tt
alike (x ∷ xs) (y ∷ ys) h = (
  same_sort-is x.sort y.sort (and-left (same_sort x.sort y.sort) (same_sorts xs ys) h),
  alike xs ys (and-right (same_sort x.sort y.sort) (same_sorts xs ys) h),
)

pub alike-append : (xs ys more others : List Var) → same_sorts xs ys ≡ true → Alike more others → Alike (xs ++ more) (ys ++ others)
alike-append [] [] more others h k = k
alike-append [] (y ∷ ys) more others h k = let bad : ◌≡◌ {A = Bool} false true = h in absurd (cc)
alike-append (x ∷ xs) [] more others h k = let bad : ◌≡◌ {A = Bool} false true = h in absurd (cc)
alike-append (x ∷ xs) (y ∷ ys) more others h k = (
  same_sort-is x.sort y.sort (and-left (same_sort x.sort y.sort) (same_sorts xs ys) h),
  alike-append xs ys more others (and-right (same_sort x.sort y.sort) (same_sorts xs ys) h) k,
)

pub alike-take : (n m : ℕ) (xs ys : List Var) → Alike xs ys → Alike (take n xs) (take m ys)
alike-take zero m [] ys h = tt
alike-take zero m (x ∷ xs) ys h = tt
alike-take (suc n) m [] ys h = tt
alike-take (suc n) zero (x ∷ xs) [] h = tt
alike-take (suc n) zero (x ∷ xs) (y ∷ ys) h = tt
alike-take (suc n) (suc m) (x ∷ xs) [] h = tt
alike-take (suc n) (suc m) (x ∷ xs) (y ∷ ys) h = (h.0, alike-take n m xs ys h.1)

pub alike-past : (n : ℕ) (xs ys : List Var) → length xs ≤ n → Alike (drop n xs) ys
alike-past zero [] ys le = tt
alike-past zero (x ∷ xs) ys le = absurd (omega (arith, le))
alike-past (suc n) [] ys le = tt
alike-past (suc n) (x ∷ xs) ys le = alike-past n xs ys (omega (arith, le))

position-agrees : (S T : Store Sort) (i j : ℕ) (xs ys : List Var) → Stand S.slots i xs → Stand T.slots j ys → Alike xs ys → AllByRecursion (Agrees S T) (by_position i j xs ys)
position-agrees S T i j [] [] h k a = tt
position-agrees S T i j [] (y ∷ ys) h k a = tt
position-agrees S T i j (x ∷ xs) [] h k a = tt
position-agrees S T i j (x ∷ xs) (y ∷ ys) h k a = (h.0 ∙ a.0 ∙ sym k.0, position-agrees S T (suc i) (suc j) xs ys h.1 k.1 a.1)

-- ---- by name

-- the type at the place of a variable is its own
named-sort : (ss : List Sort) (j n : ℕ) (ys : List Var) (x : Var) (k : ℕ) → Stand ss (j + n) ys → place_from n ys x ≡ Some k → get_or ss (j + k) BoolSort ≡ x.sort
named-sort ss j n [] x k h e = absurd (let bad : ◌≡◌ {A = Option ℕ} None (Some k) = e in cc)
named-sort ss j n (y ∷ ys) x k h e =
    let next : suc (j + n) ≡ j + suc n = omega arith in
    go (same_text x.name y.name && same_sort x.sort y.sort) refl e (named-sort ss j (suc n) ys x k (subst (λ (m : ℕ). Stand ss m ys) next h.1))
  where
    go : (b : Bool) → (same_text x.name y.name && same_sort x.sort y.sort) ≡ b → (if b then Some n else place_from (suc n) ys x) ≡ Some k → (place_from (suc n) ys x ≡ Some k → get_or ss (j + k) BoolSort ≡ x.sort)
        → get_or ss (j + k) BoolSort ≡ x.sort
    go true is here rest =
        let at : n ≡ k = same_Some n k here in
        let sort : x.sort ≡ y.sort = same_sort-is x.sort y.sort (and-right (same_text x.name y.name) (same_sort x.sort y.sort) is) in
        ap (λ (m : ℕ). get_or ss (j + m) BoolSort) (sym at) ∙ h.0 ∙ sym sort
    go false is here rest = rest here

first-sort : (ss : List Sort) (j : ℕ) (ys : List Var) (x : Var) (k : ℕ) → Stand ss j ys → place_from 0 ys x ≡ Some k → get_or ss (j + k) BoolSort ≡ x.sort
first-sort ss j ys x k h e = let same : j ≡ j + 0 = omega arith in named-sort ss j 0 ys x k (subst (λ (m : ℕ). Stand ss m ys) same h) e

named-agrees : (S T : Store Sort) (i j : ℕ) (x : Var) (ys : List Var) (o : Option ℕ) → get_or S.slots i BoolSort ≡ x.sort → Stand T.slots j ys → place_from 0 ys x ≡ o → AllByRecursion (Agrees S T) (named_pair i j x.sort o)
named-agrees S T i j x ys None h k e = tt
named-agrees S T i j x ys (Some n) h k e = (h ∙ sym (first-sort T.slots j ys x n k e), tt)

names-agree : (S T : Store Sort) (i j : ℕ) (xs ys : List Var) → Stand S.slots i xs → Stand T.slots j ys → AllByRecursion (Agrees S T) (by_name i j xs ys)
names-agree S T i j [] ys h k = tt
names-agree S T i j (x ∷ xs) ys h k =
    all-append (Agrees S T) (named_pair i j x.sort (place_from 0 ys x)) (by_name (suc i) j xs ys) (named-agrees S T i j x ys (place_from 0 ys x) h.0 k refl) (names-agree S T (suc i) j xs ys h.1 k)

-- ---- shared globals

abbrev SharedAgrees : Store Sort → Store Sort → Shared → Type 0
SharedAgrees S T s = get_or S.globals s.old BoolSort ≡ get_or T.globals s.new BoolSort

shared-at : (S T : Store Sort) (n : ℕ) (x : Var) (news : List Var) (o : Option ℕ) → get_or S.globals n BoolSort ≡ x.sort → Stand T.globals 0 news → place_from 0 news x ≡ o → AllByRecursion (SharedAgrees S T) (shared_at n o)
shared-at S T n x news None h k e = tt
shared-at S T n x news (Some m) h k e =
    let same : 0 + m ≡ m = omega arith in
    (h ∙ sym (first-sort T.globals 0 news x m k e) ∙ ap (λ (i : ℕ). get_or T.globals i BoolSort) same, tt)

pub shared-agree : (S T : Store Sort) (n : ℕ) (olds news : List Var) → Stand S.globals n olds → Stand T.globals 0 news → AllByRecursion (SharedAgrees S T) (shared_from n olds news)
shared-agree S T n [] news h k = tt
shared-agree S T n (x ∷ olds) news h k =
    all-append (SharedAgrees S T) (shared_at n (place_from 0 news x)) (shared_from (suc n) olds news) (shared-at S T n x news (place_from 0 news x) h.0 k refl) (shared-agree S T (suc n) olds news h.1 k)

spot-agrees : (S T : Store Sort) (s : Shared) (o : Option Var) → SharedAgrees S T s → AllByRecursion (Agrees S T) (shared_pair s o)
spot-agrees S T s None h = tt
spot-agrees S T s (Some x) h = (h, tt)

pub spots-agree : (S T : Store Sort) (globals : List Var) (ss : List Shared) → AllByRecursion (SharedAgrees S T) ss → AllByRecursion (Agrees S T) (shared_pairs globals ss)
spots-agree S T globals [] h = tt
spots-agree S T globals (s ∷ ss) h =
    all-append (Agrees S T) (shared_pair s (slice_get globals s.old)) (shared_pairs globals ss) (spot-agrees S T s (slice_get globals s.old) h.0) (spots-agree S T globals ss h.1)

-- ---- inputs and outputs

pub ins-agree : (S T : Store Sort) (a b : ℕ) (olds news : List Var) → Stand S.slots 0 olds → Stand T.slots 0 news → Alike (take a olds) (take b news) → AllByRecursion (Agrees S T) (in_pairs a b olds news)
ins-agree S T a b olds news h k alikes =
    let from : 0 + a ≡ a = omega arith in
    let to : 0 + b ≡ b = omega arith in
    all-append (Agrees S T) (by_position 0 0 (take a olds) (take b news)) (by_name a b (drop a olds) (drop b news))
    (position-agrees S T 0 0 (take a olds) (take b news) (stand-take S.slots 0 a olds h) (stand-take T.slots 0 b news k) alikes)
    (names-agree S T a b (drop a olds) (drop b news) (subst (λ (i : ℕ). Stand S.slots i (drop a olds)) from (stand-drop S.slots 0 a olds h)) (subst (λ (i : ℕ). Stand T.slots i (drop b news)) to (stand-drop T.slots 0 b news k)))

pub outs-agree : (S T : Store Sort) (i j a b d e : ℕ) (olds news : List Var) → Stand S.slots i olds → Stand T.slots j news → Alike (take a olds) (take b news) → Alike (drop (a + d) olds) (drop (b + e) news)
    → AllByRecursion (Agrees S T) (out_pairs i j a b d e olds news)
outs-agree S T i j a b d e olds news h k first last =
    let named = by_name (i + a) (j + b) (take d (drop a olds)) (take e (drop b news)) in
    let rest = by_position (i + (a + d)) (j + (b + e)) (drop (a + d) olds) (drop (b + e) news) in
    all-append (Agrees S T) (by_position i j (take a olds) (take b news)) (named ++ rest)
    (position-agrees S T i j (take a olds) (take b news) (stand-take S.slots i a olds h) (stand-take T.slots j b news k) first)
    (all-append (Agrees S T) named rest
    (names-agree S T (i + a) (j + b) (take d (drop a olds)) (take e (drop b news)) (stand-take S.slots (i + a) d (drop a olds) (stand-drop S.slots i a olds h)) (stand-take T.slots (j + b) e (drop b news) (stand-drop T.slots j b news k)))
    (position-agrees S T (i + (a + d)) (j + (b + e)) (drop (a + d) olds) (drop (b + e) news) (stand-drop S.slots i (a + d) olds h) (stand-drop T.slots j (b + e) news k) last))
