-- What tables tell of names, and of the things at their places.
use Rattle.std.proofs.Common.{◌≡◌, ◌∙◌, sym, ap, subst, refl, ℕ, suc, ◌+◌, ◌<◌, Bool, true, false, List, [], ◌∷◌, ◌++◌, length, arith, cond, get_or, drop}
use Rattle.std.specs.Prelude.{Option, Some, None, option_map, slice_get, if◌then◌else◌}
use Rattle.std.specs.Cmp.Lexicographic.{bytes_decides}
use Rattle.std.proofs.lemmas.Option.{same_Some, none-some}
use Rattle.sd_extract.proofs.SourceWords.{Var, Text, same_text, names_of, Decl, Procedure, Implementation, procedure_in, implementation_in}
use Rattle.sd_extract.proofs.CoreWords.{Spot, Slot, Global, slots_from, globals_from, index_in, var_in, place_in, either_place, item_at}
use Rattle.sd_base.specs.Names.{place_from}
use Rattle.std.specs.List.{position_from}
use Rattle.sd_base.proofs.Lists.{drop-at}
use Rattle.sd_extract.specs.Places.{procedure_of, implementation_of, is_procedure_named, is_implementation_named}

place_from-suc : (n : ℕ) (ys : List Text) (x : Text) → place_from (suc n) ys x ≡ option_map (λ k. suc k) (place_from n ys x)
place_from-suc n [] x = refl
place_from-suc n (y ∷ ys) x =
    elim (same_text x y) as (λ b. (if b then Some (suc n) else place_from (suc (suc n)) ys x) ≡ option_map (λ k. suc k) (if b then Some n else place_from (suc n) ys x)) [ true ↦ refl | false ↦ place_from-suc (suc n) ys x ]

-- one thing more at the front
item_more : {A : Type 0} (x : A) (xs : List A) (b : Bool) (place : Option ℕ) (there : Option A) → item_at xs place ≡ there → item_at (x ∷ xs) (if b then Some 0 else option_map (λ k. suc k) place) ≡ (if b then Some x else there)
item_more x xs true place there h = refl
item_more x xs false None there h = h
item_more x xs false (Some k) there h = h

-- the spot at the first place of a name is that of the name
spot_at : (ys : List Text) (ps : List Spot) (x : Text) → item_at ps (place_from 0 ys x) ≡ place_in ys ps x
spot_at [] ps x = refl
spot_at (y ∷ ys) [] x = none (place_from 0 (y ∷ ys) x)
  where
    none : (place : Option ℕ) → item_at {A = Spot} [] place ≡ None
    none None = refl
    none (Some k) = refl
spot_at (y ∷ ys) (p ∷ ps) x =
    ap (λ o. item_at (p ∷ ps) (if same_text x y then Some 0 else o)) (place_from-suc 0 ys x) ∙ item_more p ps (same_text x y) (place_from 0 ys x) (place_in ys ps x) (spot_at ys ps x)

pub spot_found : (ys : List Text) (ps : List Spot) (x : Text) (place : Option ℕ) → place ≡ place_from 0 ys x → item_at ps place ≡ place_in ys ps x
spot_found ys ps x place is = ap (item_at ps) is ∙ spot_at ys ps x

-- ---- a variable and its place

-- a name is that of none of these variables, or of the one at its place
pub by_index : (vs : List Var) (x : Text) (Q : Option ℕ → Option Var → Type 0) → Q None None → ((i : ℕ) (v : Var) → (slice_get vs i ≡ Some v) × (i < length vs) × (x ≡ v.name) → Q (Some i) (Some v)) → Q (index_in vs x) (var_in vs x)
by_index [] x Q none some = none
by_index (w ∷ vs) x Q none some = elim (same_text x w.name) as (λ b. same_text x w.name ≡ b → Q (if b then Some 0 else option_map (λ n. suc n) (index_in vs x)) (if b then Some w else var_in vs x)) [
  | true ↦ λ e. some 0 w (refl, omega arith, (bytes_decides x w.name).0 e)
  | false ↦ λ e. by_index vs x (λ i v. Q (option_map (λ n. suc n) i) v) none (λ i v h. let l = h.1 in some (suc i) v (h.0, omega (arith, l), h.2))
] refl

pub index_is : (vs : List Var) (x : Text) (i : ℕ) → index_in vs x ≡ Some i → (v : Var) × (slice_get vs i ≡ Some v) × (i < length vs) × (x ≡ v.name)
index_is vs x i = by_index vs x (λ o v. o ≡ Some i → (v : Var) × (slice_get vs i ≡ Some v) × (i < length vs) × (x ≡ v.name)) (λ k. absurd (none-some i k))
    (λ j v h k. let same = same_Some j i k in (v, ap (slice_get vs) (sym same) ∙ h.0, subst (λ (n : ℕ). n < length vs) same h.1, h.2))

-- ---- places by number

-- names of which each is kept one spot further
place_in-numbered : (spot : ℕ → Spot) (from : ℕ → List Var → List Spot) → ((k : ℕ) (v : Var) (vs : List Var) → from k (v ∷ vs) ≡ spot k ∷ from (suc k) vs) → (vs : List Var) (k : ℕ) (x : Text) → place_in (names_of vs) (from k vs) x ≡ option_map (λ j. spot (k + j)) (index_in vs x)
place_in-numbered spot from next [] k x = refl
place_in-numbered spot from next (v ∷ vs) k x =
    ap (λ ps. place_in (names_of (v ∷ vs)) ps x) (next k v vs) ∙ go (same_text x v.name) (index_in vs x) (place_in-numbered spot from next vs (suc k) x)
  where
    go : (b : Bool) (o : Option ℕ) → place_in (names_of vs) (from (suc k) vs) x ≡ option_map (λ j. spot (suc k + j)) o → (if b then Some (spot k) else place_in (names_of vs) (from (suc k) vs) x) ≡ option_map (λ j. spot (k + j)) (if b then Some 0 else option_map (λ n. suc n) o)
    go true o e = let f : k ≡ k + 0 = omega arith in ap (λ n. Some (spot n)) f
    go false None e = e
    go false (Some j) e = e ∙ (let f : suc k + j ≡ k + suc j = omega arith in ap (λ n. Some (spot n)) f)

pub place_in-slots : (vs : List Var) (k : ℕ) (x : Text) → place_in (names_of vs) (slots_from k vs) x ≡ option_map (λ j. Slot (k + j)) (index_in vs x)
place_in-slots = place_in-numbered Slot slots_from (λ k v vs. refl)

pub place_in-globals : (vs : List Var) (k : ℕ) (x : Text) → place_in (names_of vs) (globals_from k vs) x ≡ option_map (λ j. Global (k + j)) (index_in vs x)
place_in-globals = place_in-numbered Global globals_from (λ k v vs. refl)

pub place_in-append : (xs ys : List Text) (ps qs : List Spot) (x : Text) → length xs ≡ length ps → place_in (xs ++ ys) (ps ++ qs) x ≡ either_place (place_in xs ps x) (place_in ys qs x)
place_in-append [] ys [] qs x e = refl
place_in-append [] ys (p ∷ ps) qs x e = absurd (omega (arith, e))
place_in-append (y ∷ xs) ys [] qs x e = absurd (omega (arith, e))
place_in-append (y ∷ xs) ys (p ∷ ps) qs x e =
    elim (same_text x y) as (λ b. (if b then Some p else place_in (xs ++ ys) (ps ++ qs) x) ≡ either_place (if b then Some p else place_in xs ps x) (place_in ys qs x)) [ true ↦ refl | false ↦ place_in-append xs ys ps qs x (omega (arith, e)) ]

-- ---- globals

position_index : (vs : List Var) (x : Text) → place_from 0 (names_of vs) x ≡ index_in vs x
position_index [] x = refl
position_index (v ∷ vs) x = ap (λ o. if same_text x v.name then Some 0 else o) (place_from-suc 0 (names_of vs) x ∙ ap (option_map (λ k. suc k)) (position_index vs x))

pub position_names : (ys : List Text) (vs : List Var) (x : Text) → ys ≡ names_of vs → place_from 0 ys x ≡ index_in vs x
position_names ys vs x e = ap (λ (l : List Text). place_from 0 l x) e ∙ position_index vs x

var_at : (vs : List Var) (x : Text) → item_at vs (index_in vs x) ≡ var_in vs x
var_at vs x = by_index vs x (λ place v. item_at vs place ≡ v) refl (λ i v h. h.0)

pub var_found : (vs : List Var) (x : Text) (place : Option ℕ) → place ≡ index_in vs x → item_at vs place ≡ var_in vs x
var_found vs x place is = ap (item_at vs) is ∙ var_at vs x

-- ---- things at their places

-- one thing more at the front
pub position_more : {A : Type 0} (test : A → Bool) (xs : List A) (place next : ℕ) (x : A) (was now : Option ℕ) → next ≡ place + 1 → place < length xs → x ≡ get_or xs place x → was ≡ position_from test next (drop next xs) → now ≡ (if test x then Some place else was) → now ≡ position_from test place (drop place xs)
position_more test xs place next x was now one within at before after =
    after ∙ ap (λ o. if test x then Some place else o) (before ∙ ap (λ n. position_from test n (drop n xs)) one) ∙ sym (ap (position_from test place) (drop-at xs place x within at))

-- what stands at the first place is the first thing
first_at : {A B : Type 0} (test : A → Bool) (of : Option A → Option B) (first : List A → Option B) → of None ≡ None → first [] ≡ None → ((x : A) (xs : List A) → first (x ∷ xs) ≡ (if test x then of (Some x) else first xs))
    → (whole : List A) (n : ℕ) (xs : List A) → ((j : ℕ) → slice_get whole (n + j) ≡ slice_get xs j) → of (item_at whole (position_from test n xs)) ≡ first xs
first_at test of first none nil more whole n [] same = none ∙ sym nil
first_at test of first none nil more whole n (x ∷ xs) same =
    elim (test x) as (λ b. of (item_at whole (cond b (Some n) (position_from test (n + 1) xs))) ≡ (if b then of (Some x) else first xs)) [
      | true ↦ (let e : n ≡ n + 0 = omega arith in ap of (ap (slice_get whole) e ∙ same 0))
      | false ↦ first_at test of first none nil more whole (n + 1) xs (λ j. let e : (n + 1) + j ≡ n + suc j = omega arith in ap (slice_get whole) e ∙ same (suc j))
    ] ∙ sym (more x xs)

pub procedure_found : (ds : List Decl) (f : Text) (decl : Option Decl) (place : Option ℕ) → decl ≡ item_at ds place → place ≡ position_from (is_procedure_named f) 0 ds → procedure_of decl ≡ procedure_in ds f
procedure_found ds f decl place here is = ap procedure_of (here ∙ ap (item_at ds) is) ∙ first_at (is_procedure_named f) procedure_of (λ ds. procedure_in ds f) refl refl more ds 0 ds (λ j. let e : 0 + j ≡ j = omega arith in ap (slice_get ds) e)
  where
    more : (d : Decl) (ds : List Decl) → procedure_in (d ∷ ds) f ≡ (if is_procedure_named f d then procedure_of (Some d) else procedure_in ds f)
    more (Procedure p) ds = refl
    more _ ds = refl

pub implementation_found : (ds : List Decl) (f : Text) (decl : Option Decl) (place : Option ℕ) → decl ≡ item_at ds place → place ≡ position_from (is_implementation_named f) 0 ds → implementation_of decl ≡ implementation_in ds f
implementation_found ds f decl place here is = ap implementation_of (here ∙ ap (item_at ds) is) ∙ first_at (is_implementation_named f) implementation_of (λ ds. implementation_in ds f) refl refl more ds 0 ds (λ j. let e : 0 + j ≡ j = omega arith in ap (slice_get ds) e)
  where
    more : (d : Decl) (ds : List Decl) → implementation_in (d ∷ ds) f ≡ (if is_implementation_named f d then implementation_of (Some d) else implementation_in ds f)
    more (Implementation i) ds = refl
    more _ ds = refl
