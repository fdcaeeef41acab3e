-- Inputs and outputs by position, by name and of shared globals, in plain words.
use Rattle.std.proofs.Common.{◌≡◌, ◌∙◌, sym, ap, refl, subst, ℕ, zero, suc, ◌+◌, ◌<◌, Bool, true, false, List, [], ◌∷◌, ◌⊎◌, inl, inr, ⊎_elim, arith}
use Rattle.std.proofs.lemmas.Bool.{and_from, and_parts, or_cases}
use Rattle.std.proofs.lemmas.Option.{none-some, same_Some}
use Rattle.std.specs.Prelude.{◌≢◌, ◌&&◌, ◌||◌, ◌↔◌, Option, Some, None, slice_get, Contains, if◌then◌else◌}
use Rattle.std.specs.List.{AllByRecursion, IsDistinct}
use Rattle.sd_base.specs.declared.Sort.{Sort}
use Rattle.sd_base.specs.declared.Var.{Var}
use Rattle.sd_base.specs.Value.{same_text}
use Rattle.sd_base.proofs.Lists.{contains-tail}
use Rattle.sd_base.proofs.Texts.{same_text-is, same_text-refl}
use Rattle.sd_base.proofs.SortLemmas.{same_sort-is, same_sort-refl}
use Rattle.sd_core.specs.declared.Spot.{Spot}
use Rattle.sd_core.specs.declared.Spot.TheVariants.{Slot, Global}
use Rattle.sd_core.specs.declared.Shared.{Shared}
use Rattle.sd_core.specs.declared.CoreProc.{CoreProc}
use Rattle.sd_core.specs.declared.CoreProgram.{CoreProgram}
use Rattle.sd_core.specs.Formed.{names_of, same_sort, WellFormed}
use Rattle.sd_core.specs.Failure.{place_from, shared_at, shared_from, shared_of}
use Rattle.sd_match.specs.declared.pair.SpotPair.{SpotPair}
use Rattle.sd_match.specs.Pairs.{by_position, by_name, named_pair, shared_pair, shared_pairs, is_among, modified_globals}
use Rattle.sd_match.specs.PlainSpots.{IsOf, IsAtOnePosition, IsFirstPlace, IsOfOneName, IsShared, IsSharedGlobal, IsModified}
use Rattle.sd_match.proofs.ContainLemmas.{none_contained, contained_cases, contained_first, one_contained, append_exact, kept_exact, among_exact}

-- ---- two places

made_is : (old new : Spot) (sort : Sort) (s : SpotPair) → IsOf old new sort s → record { old = old; new = new; sort = sort } ≡ s
made_is old new sort s is = λ k. record { old = sym is.is_old k; new = sym is.is_new k; sort = sym is.is_sort k }

is_made : (old new : Spot) (sort : Sort) (s : SpotPair) → record { old = old; new = new; sort = sort } ≡ s → IsOf old new sort s
is_made old new sort s e = record { is_old = ap (λ (x : SpotPair). x.old) (sym e); is_new = ap (λ (x : SpotPair). x.new) (sym e); is_sort = ap (λ (x : SpotPair). x.sort) (sym e) }

slots : (i i' j j' : ℕ) (sort : Sort) (s : SpotPair) → i ≡ i' → j ≡ j' → IsOf (Slot i) (Slot j) sort s → IsOf (Slot i') (Slot j') sort s
slots i i' j j' sort s e f is = subst (λ m. IsOf (Slot m) (Slot j') sort s) e (subst (λ n. IsOf (Slot i) (Slot n) sort s) f is)

-- ---- by position

pub position_exact : (i j : ℕ) (xs ys : List Var) (s : SpotPair) → Contains (by_position i j xs ys) s ↔ IsAtOnePosition i j xs ys s
position_exact i j [] ys s = (λ h. none_contained s h, λ h. absurd (none-some h.x h.old))
position_exact i j (x ∷ xs) [] s = (λ h. none_contained s h, λ h. absurd (none-some h.y h.new))
position_exact i j (x ∷ xs) (y ∷ ys) s = (
  λ h. ⊎_elim
      (λ e. record { place = zero; x = x; y = y; old = refl; new = refl; is = slots i (i + 0) j (j + 0) x.sort s (omega arith) (omega arith) (is_made (Slot i) (Slot j) x.sort s e) })
      (λ k. later ((position_exact (suc i) (suc j) xs ys s).0 k))
      (contained_cases (record { old = Slot i; new = Slot j; sort = x.sort }) (by_position (suc i) (suc j) xs ys) s h),
  λ h. by_place h.place h.x h.y h.old h.new h.is (λ k. (position_exact (suc i) (suc j) xs ys s).1 k),
)
  where
    later : IsAtOnePosition (suc i) (suc j) xs ys s → IsAtOnePosition i j (x ∷ xs) (y ∷ ys) s
    later h = record { place = suc h.place; x = h.x; y = h.y; old = h.old; new = h.new; is = slots (suc i + h.place) (i + suc h.place) (suc j + h.place) (j + suc h.place) h.x.sort s (omega arith) (omega arith) h.is }

    by_place : (n : ℕ) (u v : Var) → slice_get (x ∷ xs) n ≡ Some u → slice_get (y ∷ ys) n ≡ Some v → IsOf (Slot (i + n)) (Slot (j + n)) u.sort s → (IsAtOnePosition (suc i) (suc j) xs ys s → Contains (by_position (suc i) (suc j) xs ys) s) → Contains (by_position i j (x ∷ xs) (y ∷ ys)) s
    by_place zero u v old new is rest =
        let same : u.sort ≡ x.sort = ap (λ (z : Var). z.sort) (sym (same_Some x u old)) in
        contained_first (record { old = Slot i; new = Slot j; sort = x.sort }) s (by_position (suc i) (suc j) xs ys)
        (made_is (Slot i) (Slot j) x.sort s (subst (λ t. IsOf (Slot i) (Slot j) t s) same (slots (i + 0) i (j + 0) j u.sort s (omega arith) (omega arith) is)))
    by_place (suc n) u v old new is rest =
        contains-tail (record { old = Slot i; new = Slot j; sort = x.sort }) (by_position (suc i) (suc j) xs ys) s
        (rest (record { place = n; x = u; y = v; old = old; new = new; is = slots (i + suc n) (suc i + n) (j + suc n) (suc j + n) u.sort s (omega arith) (omega arith) is }))

-- ---- the first of one name and type

one_var : (x y : Var) → (same_text x.name y.name && same_sort x.sort y.sort) ≡ true → x ≡ y
one_var x y e =
    let k = and_parts (same_text x.name y.name) (same_sort x.sort y.sort) e in
    let a = same_text-is x.name y.name k.0 in
    let b = same_sort-is x.sort y.sort k.1 in
    λ i. record { name = a i; sort = b i }

var_one : (x y : Var) → y ≡ x → (same_text x.name y.name && same_sort x.sort y.sort) ≡ true
var_one x y e = ap (λ (z : Var). same_text x.name z.name && same_sort x.sort z.sort) e ∙ and_from (same_text x.name x.name) (same_sort x.sort x.sort) (same_text-refl x.name) (same_sort-refl x.sort)

place_first : (n : ℕ) (ys : List Var) (x : Var) (m : ℕ) → place_from n ys x ≡ Some m → (l : ℕ) × (m ≡ n + l) × IsFirstPlace ys x l
place_first n [] x m e = absurd (none-some m e)
place_first n (y ∷ ys) x m e = go (same_text x.name y.name && same_sort x.sort y.sort) refl e (λ h. place_first (suc n) ys x m h)
  where
    go : (b : Bool) → (same_text x.name y.name && same_sort x.sort y.sort) ≡ b → (if b then Some n else place_from (suc n) ys x) ≡ Some m → (place_from (suc n) ys x ≡ Some m → (l : ℕ) × (m ≡ suc n + l) × IsFirstPlace ys x l) → (l : ℕ) × (m ≡ n + l) × IsFirstPlace (y ∷ ys) x l
    go true is e rest =
        let s : n ≡ m = same_Some n m e in
        (zero, omega (arith, s), (ap Some (sym (one_var x y is)), λ k below. absurd (omega (arith, below))))
    go false is e rest = let r = rest e in (suc r.0, (let h = r.1 in omega (arith, h)), (r.2.0, none_before))
      where
        none_before : (k : ℕ) → k < suc (rest e).0 → slice_get (y ∷ ys) k ≢ Some x
        none_before zero below same = let bad : false ≡ true = sym is ∙ var_one x y (same_Some y x same) in cc
        none_before (suc k) below same = (rest e).2.1 k (omega (arith, below)) same

first_place : (n : ℕ) (ys : List Var) (x : Var) (l : ℕ) → IsFirstPlace ys x l → place_from n ys x ≡ Some (n + l)
first_place n [] x l h = absurd (none-some x h.0)
first_place n (y ∷ ys) x zero h = ap (λ b. if b then Some n else place_from (suc n) ys x) (var_one x y (same_Some y x h.0)) ∙ ap Some (omega arith)
first_place n (y ∷ ys) x (suc l) h = go (same_text x.name y.name && same_sort x.sort y.sort) refl (first_place (suc n) ys x l (h.0, λ k below. h.1 (suc k) (omega (arith, below))))
  where
    go : (b : Bool) → (same_text x.name y.name && same_sort x.sort y.sort) ≡ b → place_from (suc n) ys x ≡ Some (suc n + l) → (if b then Some n else place_from (suc n) ys x) ≡ Some (n + suc l)
    go true is rest = absurd (h.1 0 (omega arith) (ap Some (sym (one_var x y is))))
    go false is rest = rest ∙ ap Some (omega arith)

-- ---- by name

named_exact : (i j : ℕ) (x : Var) (ys : List Var) (s : SpotPair) → Contains (named_pair i j x.sort (place_from 0 ys x)) s ↔ ((l : ℕ) × IsFirstPlace ys x l × IsOf (Slot i) (Slot (j + l)) x.sort s)
named_exact i j x ys s = (
  λ h. by_place (place_from 0 ys x) refl h,
  λ h.
      let at : place_from 0 ys x ≡ Some h.0 = first_place 0 ys x h.0 h.1 ∙ ap Some (omega arith) in
      subst (λ o. Contains (named_pair i j x.sort o) s) (sym at) (contained_first (record { old = Slot i; new = Slot (j + h.0); sort = x.sort }) s [] (made_is (Slot i) (Slot (j + h.0)) x.sort s h.2)),
)
  where
    by_place : (o : Option ℕ) → place_from 0 ys x ≡ o → Contains (named_pair i j x.sort o) s → (l : ℕ) × IsFirstPlace ys x l × IsOf (Slot i) (Slot (j + l)) x.sort s
    by_place None e h = none_contained s h
    by_place (Some m) e h =
        let f = place_first 0 ys x m e in
        let at : m ≡ f.0 = (let g = f.1 in omega (arith, g)) in
        (f.0, f.2, slots i i (j + m) (j + f.0) x.sort s refl (ap (λ k. j + k) at) (is_made (Slot i) (Slot (j + m)) x.sort s (one_contained (record { old = Slot i; new = Slot (j + m); sort = x.sort }) s h)))

pub name_exact : (i j : ℕ) (xs ys : List Var) (s : SpotPair) → Contains (by_name i j xs ys) s ↔ IsOfOneName i j xs ys s
name_exact i j [] ys s = (λ h. none_contained s h, λ h. absurd (none-some h.x h.old))
name_exact i j (x ∷ xs) ys s =
    let both = append_exact (named_pair i j x.sort (place_from 0 ys x)) (by_name (suc i) j xs ys) s (named_exact i j x ys s) (name_exact (suc i) j xs ys s) in (
      λ h. ⊎_elim here later (both.0 h),
      λ h. both.1 (by_place h.old_place h.new_place h.x h.old h.new h.is),
    )
  where
    Here : Type 0
    Here = (l : ℕ) × IsFirstPlace ys x l × IsOf (Slot i) (Slot (j + l)) x.sort s

    here : Here → IsOfOneName i j (x ∷ xs) ys s
    here h = record { old_place = zero; new_place = h.0; x = x; old = refl; new = h.1; is = slots i (i + 0) (j + h.0) (j + h.0) x.sort s (omega arith) refl h.2 }

    later : IsOfOneName (suc i) j xs ys s → IsOfOneName i j (x ∷ xs) ys s
    later h = record { old_place = suc h.old_place; new_place = h.new_place; x = h.x; old = h.old; new = h.new; is = slots (suc i + h.old_place) (i + suc h.old_place) (j + h.new_place) (j + h.new_place) h.x.sort s (omega arith) refl h.is }

    by_place : (k l : ℕ) (z : Var) → slice_get (x ∷ xs) k ≡ Some z → IsFirstPlace ys z l → IsOf (Slot (i + k)) (Slot (j + l)) z.sort s → Here ⊎ IsOfOneName (suc i) j xs ys s
    by_place zero l z old new is =
        let same : z ≡ x = sym (same_Some x z old) in
        inl (l, subst (λ (y : Var). IsFirstPlace ys y l) same new, subst (λ (y : Var). IsOf (Slot i) (Slot (j + l)) y.sort s) same (slots (i + 0) i (j + l) (j + l) z.sort s (omega arith) refl is))
    by_place (suc k) l z old new is = inr (record { old_place = k; new_place = l; x = z; old = old; new = new; is = slots (i + suc k) (suc i + k) (j + l) (j + l) z.sort s (omega arith) refl is })

-- ---- shared globals

record IsSharedIn (n : ℕ) (olds news : List Var) (sh : Shared) : Type 0 where
  place : ℕ
  x : Var
  at : sh.old ≡ n + place
  old : slice_get olds place ≡ Some x
  new : place_from 0 news x ≡ Some sh.new

shared_exact : (n : ℕ) (olds news : List Var) (sh : Shared) → Contains (shared_from n olds news) sh ↔ IsSharedIn n olds news sh
shared_exact n [] news sh = (λ h. none_contained sh h, λ h. absurd (none-some h.x h.old))
shared_exact n (x ∷ olds) news sh =
    let both = append_exact (shared_at n (place_from 0 news x)) (shared_from (suc n) olds news) sh (here_exact (place_from 0 news x)) (shared_exact (suc n) olds news sh) in (
      λ h. ⊎_elim here later (both.0 h),
      λ h. both.1 (by_place h.place h.x h.at h.old h.new),
    )
  where
    Here : Option ℕ → Type 0
    Here o = (sh.old ≡ n) × (o ≡ Some sh.new)

    here_exact : (o : Option ℕ) → Contains (shared_at n o) sh ↔ Here o
    here_exact None = (λ h. none_contained sh h, λ h. absurd (none-some sh.new h.1))
    here_exact (Some j) = (
      λ h. let e = one_contained (record { old = n; new = j }) sh h in (ap (λ (y : Shared). y.old) (sym e), ap (λ (y : Shared). Some y.new) e),
      λ h. let m : j ≡ sh.new = same_Some j sh.new h.1 in contained_first (record { old = n; new = j }) sh [] (λ k. record { old = sym h.0 k; new = m k }),
    )

    here : Here (place_from 0 news x) → IsSharedIn n (x ∷ olds) news sh
    here h = record { place = zero; x = x; at = (let e = h.0 in omega (arith, e)); old = refl; new = h.1 }

    later : IsSharedIn (suc n) olds news sh → IsSharedIn n (x ∷ olds) news sh
    later h = record { place = suc h.place; x = h.x; at = (let e = h.at in omega (arith, e)); old = h.old; new = h.new }

    by_place : (k : ℕ) (z : Var) → sh.old ≡ n + k → slice_get (x ∷ olds) k ≡ Some z → place_from 0 news z ≡ Some sh.new → Here (place_from 0 news x) ⊎ IsSharedIn (suc n) olds news sh
    by_place zero z at old new = inl (omega (arith, at), ap (place_from 0 news) (same_Some x z old) ∙ new)
    by_place (suc k) z at old new = inr (record { place = k; x = z; at = omega (arith, at); old = old; new = new })

-- the spots of shared globals
record IsSpotOf (globals : List Var) (shared : List Shared) (s : SpotPair) : Type 0 where
  sh : Shared
  x : Var
  among : Contains shared sh
  at : slice_get globals sh.old ≡ Some x
  is : IsOf (Global sh.old) (Global sh.new) x.sort s

spots_exact : (globals : List Var) (shared : List Shared) (s : SpotPair) → Contains (shared_pairs globals shared) s ↔ IsSpotOf globals shared s
spots_exact globals [] s = (λ h. none_contained s h, λ h. none_contained h.sh h.among)
spots_exact globals (sh ∷ shared) s =
    let both = append_exact (shared_pair sh (slice_get globals sh.old)) (shared_pairs globals shared) s (here_exact (slice_get globals sh.old)) (spots_exact globals shared s) in (
      λ h. ⊎_elim here later (both.0 h),
      λ h. both.1 (⊎_elim
          (λ e. inl (h.x, ap (λ (y : Shared). slice_get globals y.old) e ∙ h.at, subst (λ (y : Shared). IsOf (Global y.old) (Global y.new) h.x.sort s) (sym e) h.is))
          (λ k. inr (record { sh = h.sh; x = h.x; among = k; at = h.at; is = h.is }))
          (contained_cases sh shared h.sh h.among)),
    )
  where
    Here : Option Var → Type 0
    Here o = (x : Var) × (o ≡ Some x) × IsOf (Global sh.old) (Global sh.new) x.sort s

    here_exact : (o : Option Var) → Contains (shared_pair sh o) s ↔ Here o
    here_exact None = (λ h. none_contained s h, λ h. absurd (none-some h.0 h.1))
    here_exact (Some x) = (
      λ h. (x, refl, is_made (Global sh.old) (Global sh.new) x.sort s (one_contained (record { old = Global sh.old; new = Global sh.new; sort = x.sort }) s h)),
      λ h.
          let same : h.0 ≡ x = sym (same_Some x h.0 h.1) in
          contained_first (record { old = Global sh.old; new = Global sh.new; sort = x.sort }) s [] (made_is (Global sh.old) (Global sh.new) x.sort s (subst (λ (y : Var). IsOf (Global sh.old) (Global sh.new) y.sort s) same h.2)),
    )

    here : Here (slice_get globals sh.old) → IsSpotOf globals (sh ∷ shared) s
    here h = record { sh = sh; x = h.0; among = contained_first sh sh shared refl; at = h.1; is = h.2 }

    later : IsSpotOf globals shared s → IsSpotOf globals (sh ∷ shared) s
    later h = record { sh = h.sh; x = h.x; among = contains-tail sh shared h.sh h.among; at = h.at; is = h.is }

-- a name that stands at two places
apart : (ys : List Var) (y x : Var) (k : ℕ) → AllByRecursion (λ z. same_text y.name z ≡ false) (names_of ys) → slice_get ys k ≡ Some x → same_text y.name x.name ≡ false
apart [] y x k all e = absurd (none-some x e)
apart (z ∷ zs) y x zero all e = subst (λ (v : Var). same_text y.name v.name ≡ false) (same_Some z x e) all.0
apart (z ∷ zs) y x (suc k) all e = apart zs y x k all.1 e

once : (ys : List Var) (x : Var) (k l : ℕ) → IsDistinct same_text (names_of ys) → k < l → slice_get ys k ≡ Some x → slice_get ys l ≡ Some x → ⊥
unfolding IsDistinct
once [] x k l distinct below e f = none-some x e
once (y ∷ ys) x k zero distinct below e f = omega (arith, below)
once (y ∷ ys) x zero (suc l) distinct below e f =
    let off = apart ys y x l distinct.0 f in
    let same : y ≡ x = same_Some y x e in
    let bad : false ≡ true = sym off ∙ ap (λ (v : Var). same_text y.name v.name) (sym same) ∙ same_text-refl y.name in
    cc
once (y ∷ ys) x (suc k) (suc l) distinct below e f = once ys x k l distinct.1 (omega (arith, below)) e f

module _ (P Q : CoreProgram) (formed : WellFormed Q) where
  shared_is : (sh : Shared) → Contains (shared_of P.globals Q.globals) sh → (x : Var) × (slice_get P.globals sh.old ≡ Some x) × (slice_get Q.globals sh.new ≡ Some x)
  shared_is sh h =
      let k = (shared_exact 0 P.globals Q.globals sh).0 h in
      let f = place_first 0 Q.globals k.x sh.new k.new in
      let old : sh.old ≡ k.place = (let e = k.at in omega (arith, e)) in
      let new : sh.new ≡ f.0 = (let e = f.1 in omega (arith, e)) in
      (k.x, ap (slice_get P.globals) old ∙ k.old, ap (slice_get Q.globals) new ∙ f.2.0)

  is_shared : (i j : ℕ) (x : Var) → slice_get P.globals i ≡ Some x → slice_get Q.globals j ≡ Some x → Contains (shared_of P.globals Q.globals) (record { old = i; new = j })
  is_shared i j x old new = (shared_exact 0 P.globals Q.globals (record { old = i; new = j })).1 (record {
    place = i;
    x = x;
    at = omega arith;
    old = old;
    new = first_place 0 Q.globals x j (new, λ k below e. once Q.globals x k j formed.global_names below e new) ∙ ap Some (omega arith);
  })

  shared_spot : (sh : Shared) (x : Var) (s : SpotPair) → Contains (shared_of P.globals Q.globals) sh → slice_get P.globals sh.old ≡ Some x → IsOf (Global sh.old) (Global sh.new) x.sort s → IsShared P Q sh.old sh.new s
  shared_spot sh x s h at is =
      let k = shared_is sh h in
      let same : k.0 ≡ x = same_Some k.0 x (sym k.1 ∙ at) in
      record { x = x; old = at; new = k.2 ∙ ap Some same; is = is }

  pub global_exact : (s : SpotPair) → Contains (shared_pairs P.globals (shared_of P.globals Q.globals)) s ↔ IsSharedGlobal P Q s
  global_exact s = (
    λ h. let k = (spots_exact P.globals (shared_of P.globals Q.globals) s).0 h in (k.sh.old, k.sh.new, shared_spot k.sh k.x s k.among k.at k.is),
    λ h. (spots_exact P.globals (shared_of P.globals Q.globals) s).1 (record { sh = record { old = h.0; new = h.1 }; x = h.2.x; among = is_shared h.0 h.1 h.2.x h.2.old h.2.new; at = h.2.old; is = h.2.is }),
  )

  -- which of them may be modified
  module _ (p q : CoreProc) where
    abbrev may : Shared → Bool
    may s = is_among s.old p.modifies || is_among s.new q.modifies

    or_left : (x y : Bool) → x ≡ true → (x || y) ≡ true
    or_left true y e = refl
    or_left false y e = absurd (cc)

    or_right : (x y : Bool) → y ≡ true → (x || y) ≡ true
    or_right true y e = refl
    or_right false y e = e

    may_exact : (sh : Shared) → (may sh ≡ true) ↔ (Contains p.modifies sh.old ⊎ Contains q.modifies sh.new)
    may_exact sh = (
      λ h. ⊎_elim (λ e. inl ((among_exact sh.old p.modifies).0 e)) (λ e. inr ((among_exact sh.new q.modifies).0 e)) (or_cases (is_among sh.old p.modifies) (is_among sh.new q.modifies) h),
      λ h. ⊎_elim (λ k. or_left (is_among sh.old p.modifies) (is_among sh.new q.modifies) ((among_exact sh.old p.modifies).1 k)) (λ k. or_right (is_among sh.old p.modifies) (is_among sh.new q.modifies) ((among_exact sh.new q.modifies).1 k)) h,
    )

    pub modified_exact : (s : SpotPair) → Contains (shared_pairs P.globals (modified_globals p q (shared_of P.globals Q.globals))) s ↔ IsModified P Q p q s
    modified_exact s = (
      λ h.
          let k = (spots_exact P.globals (modified_globals p q (shared_of P.globals Q.globals)) s).0 h in
          let r = (kept_exact may (shared_of P.globals Q.globals) k.sh).0 k.among in
          (k.sh.old, k.sh.new, shared_spot k.sh k.x s r.0 k.at k.is, (may_exact k.sh).0 r.1),
      λ h.
          let sh : Shared = record { old = h.0; new = h.1 } in
          let k = (kept_exact may (shared_of P.globals Q.globals) sh).1 (is_shared h.0 h.1 h.2.x h.2.old h.2.new, (may_exact sh).1 h.3) in
          (spots_exact P.globals (modified_globals p q (shared_of P.globals Q.globals)) s).1 (record { sh = sh; x = h.2.x; among = k; at = h.2.old; is = h.2.is }),
    )
