-- Globals by name and by place, and those that two programs share.
use Rattle.std.proofs.Common.{◌≡◌, ℕ, zero, suc, ◌+◌, ◌<◌, ◌⊎◌, inl, inr, ⊎_elim, Bool, true, false, List, [], ◌∷◌, map, length, get_or, Option, Some, None, refl, sym, ap, ◌∙◌, subst, arith}
use Rattle.std.specs.Prelude.{◌&&◌, if◌then◌else◌}
use Rattle.std.specs.List.{AllByRecursion, Contains, IsDistinct, slice_index_or}
use Rattle.std.specs.Cmp.Lexicographic.{bytes_decides}
use Rattle.std.proofs.lemmas.Option.{same_Some}
use Rattle.std.proofs.lemmas.Bool.{and_parts}
use Rattle.sd_extract.proofs.SourceWords.{Sort, Var, Text, same_text, Value, names_of, Store, value_of}
use Rattle.sd_extract.proofs.CoreWords.{nothing, sorts_of, HaveSorts}
use Rattle.sd_base.proofs.Lists.{all-append, all-front, all-back}
use Rattle.sd_base.proofs.Texts.{same_text-other_way}
use Rattle.sd_base.proofs.SortLemmas.{same_sort-is, same_sort-refl}
use Rattle.sd_meaning.specs.Run.{named}
use Rattle.sd_meaning.specs.Inputs.{IsStoreOf}
use Rattle.sd_core.specs.declared.Shared.{Shared}
use Rattle.sd_core.specs.Formed.{same_sort}
use Rattle.sd_core.specs.Failure.{place_from, shared_at, shared_from, shared_of}
use Rattle.sd_extract.proofs.Searches.{first_or_later}

-- ---- stores

abbrev pub values_in : Store → List Value
values_in = map (λ v. v.1)

pub store_named : (xs : List Var) (G : Store) → IsStoreOf xs G → named (names_of xs) (values_in G) ≡ G
store_named [] [] h = refl
store_named [] (v ∷ vs) h = absurd h
store_named (x ∷ xs) [] h = absurd h
store_named (x ∷ xs) (v ∷ vs) h = let e = sym h.0 in let r = store_named xs vs h.2 in λ i. (e i, v.1) ∷ r i

pub store_sorts : (xs : List Var) (G : Store) → IsStoreOf xs G → HaveSorts (sorts_of xs) (values_in G)
store_sorts [] [] h = refl
store_sorts [] (v ∷ vs) h = absurd h
store_sorts (x ∷ xs) [] h = absurd h
store_sorts (x ∷ xs) (v ∷ vs) h = (h.1, store_sorts xs vs h.2)

pub is_store : (xs : List Var) (vs : List Value) → HaveSorts (sorts_of xs) vs → IsStoreOf xs (named (names_of xs) vs)
is_store [] [] h = tt
is_store [] (v ∷ vs) h = absurd (cc)
is_store (x ∷ xs) [] h = absurd h
is_store (x ∷ xs) (v ∷ vs) h = (refl, h.0, is_store xs vs h.1)

pub as_many : (ss : List Sort) (vs : List Value) → HaveSorts ss vs → length vs ≡ length ss
as_many [] vs h = ap length h
as_many (s ∷ ss) [] h = absurd h
as_many (s ∷ ss) (v ∷ vs) h = ap suc (as_many ss vs h.1)

-- ---- variables at places

-- the variable x stands at place k, where places are counted from n on
abbrev pub Stands : ℕ → List Var → ℕ → Var → Type 0
Stands n [] k x = ⊥
Stands n (y ∷ ys) k x = ((k ≡ n) × (y ≡ x)) ⊎ Stands (suc n) ys k x

pub stands_of : (n : ℕ) (xs : List Var) (x : Var) (k : ℕ) → k < length xs → slice_index_or xs k x ≡ x → (j : ℕ) × Stands n xs j x
stands_of n [] x k h e = absurd (omega arith)
stands_of n (y ∷ ys) x zero h e = (n, inl (refl, e))
stands_of n (y ∷ ys) x (suc k) h e =
    let r = stands_of (suc n) ys x k (omega arith) e in (r.0, inr r.1)

pub contains_of : (n : ℕ) (xs : List Var) (x : Var) (k : ℕ) → Stands n xs k x → Contains xs x
contains_of n [] x k s = absurd s
contains_of n (y ∷ ys) x k s = elim s [
  | inl a ↦ (0, omega arith, a.1)
  | inr b ↦ let r = contains_of (suc n) ys x k b in (suc r.0, (let h = r.1 in omega arith), r.2)
]

-- ---- values of variables

stands_apart : (n : ℕ) (s : Text) (ys : List Var) (k : ℕ) (x : Var) → AllByRecursion (λ t. same_text s t ≡ false) (names_of ys) → Stands n ys k x → same_text s x.name ≡ false
stands_apart n s [] k x a h = absurd h
stands_apart n s (y ∷ ys) k x a h = elim h [
  | inl e ↦ ap (λ (v : Var). same_text s v.name) (sym e.1) ∙ a.0
  | inr r ↦ stands_apart (suc n) s ys k x a.1 r
]

value_of-from : (xs : List Var) (vs whole : List Value) (n k : ℕ) (x : Var) → IsDistinct same_text (names_of xs) → length vs ≡ length xs → ((i : ℕ) → get_or whole (n + i) nothing ≡ get_or vs i nothing) → Stands n xs k x → value_of (named (names_of xs) vs) x.name ≡ Some (get_or whole k nothing)
unfolding IsDistinct
value_of-from [] vs whole n k x d l h s = absurd s
value_of-from (y ∷ ys) [] whole n k x d l h s = absurd (omega arith)
value_of-from (y ∷ ys) (v ∷ vs) whole n k x d l h s = elim s [
  | inl e ↦ ap (λ (c : Bool). if c then Some v else value_of (named (names_of ys) vs) x.name) ((bytes_decides x.name y.name).1 (ap (λ (z : Var). z.name) (sym e.1))) ∙ ap Some (sym (h 0) ∙ ap (λ m. get_or whole m nothing) (let j : n + 0 ≡ k = omega arith in j))
  | inr r ↦ ap (λ (c : Bool). if c then Some v else value_of (named (names_of ys) vs) x.name) (same_text-other_way y.name x.name (stands_apart (suc n) y.name ys k x d.0 r)) ∙ value_of-from ys vs whole (suc n) k x d.1 (omega arith) (λ i. ap (λ m. get_or whole m nothing) (let j : suc n + i ≡ n + suc i = omega arith in j) ∙ h (suc i)) r
]

-- a global by its name is the one at its place
pub value_of-at : (xs : List Var) (vs : List Value) (k : ℕ) (x : Var) → IsDistinct same_text (names_of xs) → length vs ≡ length xs → Stands 0 xs k x → value_of (named (names_of xs) vs) x.name ≡ Some (get_or vs k nothing)
value_of-at xs vs k x d l s = value_of-from xs vs vs 0 k x d l (λ i. ap (λ m. get_or vs m nothing) (let j : 0 + i ≡ i = omega arith in j)) s

-- ---- the same variable

abbrev is_same : Var → Var → Bool
is_same x y = same_text x.name y.name && same_sort x.sort y.sort

same_is : (x y : Var) → is_same x y ≡ true → y ≡ x
same_is x y h =
    let k = and_parts (same_text x.name y.name) (same_sort x.sort y.sort) h in
    let name : y.name ≡ x.name = sym ((bytes_decides x.name y.name).0 k.0) in
    let sort : y.sort ≡ x.sort = sym (same_sort-is x.sort y.sort k.1) in
    λ i. record { name = name i; sort = sort i }

is_same-refl : (x : Var) → is_same x x ≡ true
is_same-refl x = rw ((bytes_decides x.name x.name).1 refl, same_sort-refl x.sort) refl

place_stands : (n : ℕ) (ys : List Var) (x : Var) (j : ℕ) → place_from n ys x ≡ Some j → Stands n ys j x
place_stands n [] x j h = absurd (cc)
place_stands n (y ∷ ys) x j h =
    first_or_later (is_same x y) _ _ _ h (λ e k. inl (sym k, same_is x y e)) (λ _ k. inr (place_stands (suc n) ys x j k))

stands_placed : (n : ℕ) (ys : List Var) (x : Var) (j : ℕ) → Stands n ys j x → (i : ℕ) × (place_from n ys x ≡ Some i)
stands_placed n [] x j s = absurd s
stands_placed n (y ∷ ys) x j s = elim (is_same x y) as (λ b. is_same x y ≡ b → (i : ℕ) × ((if b then Some n else place_from (suc n) ys x) ≡ Some i)) [
  | true ↦ λ e. (n, refl)
  | false ↦ λ e. ⊎_elim (λ (a : (j ≡ n) × (y ≡ x)). absurd (let k : is_same x y ≡ true = ap (is_same x) a.1 ∙ is_same-refl x in cc)) (stands_placed (suc n) ys x j) s
] refl

-- ---- shared globals

abbrev pub pair_of : ℕ → ℕ → Shared
pair_of i j = record { old = i; new = j }

module _ (R : Shared → Type 0) (news : List Var) where
  all_shared : (n : ℕ) (olds : List Var) → ((x : Var) (i j : ℕ) → Stands n olds i x → place_from 0 news x ≡ Some j → R (pair_of i j)) → AllByRecursion R (shared_from n olds news)
  all_shared n [] h = tt
  all_shared n (x ∷ olds) h =
      all-append R (shared_at n (place_from 0 news x)) (shared_from (suc n) olds news) (first (place_from 0 news x) refl) (all_shared (suc n) olds (λ y i j s p. h y i j (inr s) p))
    where
      first : (o : Option ℕ) → place_from 0 news x ≡ o → AllByRecursion R (shared_at n o)
      first None e = tt
      first (Some j) e = (h x n j (inl (refl, refl)) e, tt)

  each_shared : (n : ℕ) (olds : List Var) → AllByRecursion R (shared_from n olds news) → (x : Var) (i j : ℕ) → Stands n olds i x → place_from 0 news x ≡ Some j → R (pair_of i j)
  each_shared n [] a x i j s p = absurd s
  each_shared n (y ∷ olds) a x i j s p = elim s [
    | inl e ↦ let here = all-front R (shared_at n (place_from 0 news y)) (shared_from (suc n) olds news) a in let is : place_from 0 news y ≡ Some j = ap (place_from 0 news) e.1 ∙ p in let one = subst (λ (o : Option ℕ). AllByRecursion R (shared_at n o)) is here in subst (λ m. R (pair_of m j)) (sym e.0) one.0
    | inr r ↦ each_shared (suc n) olds (all-back R (shared_at n (place_from 0 news y)) (shared_from (suc n) olds news) a) x i j r p
  ]

module _ (olds news : List Var) (vs vs' : List Value) (distinct : IsDistinct same_text (names_of olds)) (distinct' : IsDistinct same_text (names_of news)) (fit : length vs ≡ length olds) (fit' : length vs' ≡ length news) where
  abbrev pub ByName : Type 0
  ByName = (x : Var) → Contains olds x → Contains news x → value_of (named (names_of olds) vs) x.name ≡ value_of (named (names_of news) vs') x.name

  abbrev pub ByPlace : Type 0
  ByPlace = AllByRecursion (λ s. get_or vs s.old nothing ≡ get_or vs' s.new nothing) (shared_of olds news)

  pub by_place : ByName → ByPlace
  by_place h = all_shared (λ s. get_or vs s.old nothing ≡ get_or vs' s.new nothing) news 0 olds (λ x i j s p.
      let t = place_stands 0 news x j p in
      same_Some (get_or vs i nothing) (get_or vs' j nothing)
      (sym (value_of-at olds vs i x distinct fit s) ∙ h x (contains_of 0 olds x i s) (contains_of 0 news x j t) ∙ value_of-at news vs' j x distinct' fit' t))

  pub by_name : ByPlace → ByName
  by_name h x a b =
      let s = stands_of 0 olds x a.0 a.1 a.2 in
      let t = stands_of 0 news x b.0 b.1 b.2 in
      let p = stands_placed 0 news x t.0 t.1 in
      let q = place_stands 0 news x p.0 p.1 in
      value_of-at olds vs s.0 x distinct fit s.1 ∙ ap Some (each_shared (λ s. get_or vs s.old nothing ≡ get_or vs' s.new nothing) news 0 olds h x s.0 p.0 s.1 p.1) ∙ sym (value_of-at news vs' p.0 x distinct' fit' q)
