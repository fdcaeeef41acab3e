-- The terms of well formed expressions have their types.
use Rattle.std.proofs.Common.{◌≡◌, ℕ, zero, suc, List, [], ◌∷◌, get_or, refl, sym, ap, ◌∙◌}
use Rattle.std.specs.Prelude.{Bool, true, false, Some, map, set, slice_get}
use Rattle.sd_base.specs.declared.Sort.{Sort, Int, Bool as BoolSort}
use Rattle.sd_base.specs.Sorts.{MapOf, value_sort}
use Rattle.sd_core.specs.declared.Spot.{Spot}
use Rattle.sd_core.specs.declared.Spot.TheVariants.{Slot, Global}
use Rattle.sd_core.specs.declared.CoreOp.{CoreOp}
use Rattle.sd_core.specs.declared.CoreOp.TheVariants as op
use Rattle.sd_core.specs.declared.CoreExpr.{CoreExpr, Num, At, Const, Apply', Op', Row_of-CoreExpr, end_of-CoreExpr, more_of-CoreExpr, Truth as Literal}
use Rattle.sd_core.specs.declared.Function.{Function}
use Rattle.sd_core.specs.Store.{Store, read, write, map_store}
use Rattle.sd_core.specs.Formed.{sort_at, Takes, HasType, HaveTypes, AllHaveTypes, AreSpotsOf, declared_as}
use Rattle.sd_term.specs.declared.node.Head.{Head}
use Rattle.sd_term.specs.declared.node.Head.TheVariants as head
use Rattle.sd_term.specs.Tree.{Tree, leaf, tree, at_parts, head_of}
use Rattle.sd_term.specs.Sorts.{sort_of, sort_by}
use Rattle.sd_term.specs.Build.{ite_of}
use Rattle.sd_term.proofs.Trees.{head_of-applied}
use Rattle.sd_term.proofs.BuildSorts.{not-sort, and-sort, or-sort, ite-sort}
use Rattle.sd_vcgen.specs.Body.{constant, nothing, op_term, result_of, term_in, terms_in, assign}
use Rattle.sd_vcgen.proofs.Stores.{write_map}

-- ---- lists of known types

pub by_one : (ts : List Tree) (a : Sort) (Q : List Tree → Type 0) → map sort_of ts ≡ a ∷ [] → ((x : Tree) → sort_of x ≡ a → Q (x ∷ [])) → Q ts
by_one [] a Q e f = cc
by_one (x ∷ []) a Q e f = let p : sort_of x ≡ a = cc in f x p
by_one (x ∷ y ∷ ts) a Q e f = cc

pub by_two : (ts : List Tree) (a b : Sort) (Q : List Tree → Type 0) → map sort_of ts ≡ a ∷ b ∷ [] → ((x y : Tree) → sort_of x ≡ a → sort_of y ≡ b → Q (x ∷ y ∷ [])) → Q ts
by_two [] a b Q e f = cc
by_two (x ∷ []) a b Q e f = cc
by_two (x ∷ y ∷ []) a b Q e f = let p : sort_of x ≡ a = cc in let q : sort_of y ≡ b = cc in f x y p q
by_two (x ∷ y ∷ z ∷ ts) a b Q e f = cc

pub by_three : (ts : List Tree) (a b c : Sort) (Q : List Tree → Type 0) → map sort_of ts ≡ a ∷ b ∷ c ∷ [] → ((x y z : Tree) → sort_of x ≡ a → sort_of y ≡ b → sort_of z ≡ c → Q (x ∷ y ∷ z ∷ [])) → Q ts
by_three [] a b c Q e f = cc
by_three (x ∷ []) a b c Q e f = cc
by_three (x ∷ y ∷ []) a b c Q e f = cc
by_three (x ∷ y ∷ z ∷ []) a b c Q e f = let p : sort_of x ≡ a = cc in let q : sort_of y ≡ b = cc in let r : sort_of z ≡ c = cc in f x y z p q r
by_three (x ∷ y ∷ z ∷ w ∷ ts) a b c Q e f = cc

-- ---- spots

get_sort : (ts : List Tree) (i : ℕ) (s : Sort) → slice_get (map sort_of ts) i ≡ Some s → sort_of (get_or ts i nothing) ≡ s
get_sort [] i s e = cc
get_sort (t ∷ ts) zero s e = cc
get_sort (t ∷ ts) (suc i) s e = get_sort ts i s e

-- a term in a state has the type of its spot
pub spot-sort : (S : Store Sort) (st : Store Tree) (p : Spot) (s : Sort) → map_store sort_of st ≡ S → sort_at S p ≡ Some s → sort_of (read nothing st p) ≡ s
spot-sort S st (Slot i) s e h = get_sort st.slots i s (ap (λ (T : Store Sort). sort_at T (Slot i)) e ∙ h)
spot-sort S st (Global i) s e h = get_sort st.globals i s (ap (λ (T : Store Sort). sort_at T (Global i)) e ∙ h)

set_same : (ss : List Sort) (i : ℕ) (s : Sort) → slice_get ss i ≡ Some s → set ss i s ≡ ss
set_same [] i s e = cc
set_same (r ∷ ss) zero s e = let same : r ≡ s = cc in ap (λ x. x ∷ ss) (sym same)
set_same (r ∷ ss) (suc i) s e = ap (λ xs. r ∷ xs) (set_same ss i s e)

write_same : (S : Store Sort) (p : Spot) (s : Sort) → sort_at S p ≡ Some s → write S p s ≡ S
write_same S (Slot i) s e = ap (λ (xs : List Sort). record { slots = xs; globals = S.globals }) (set_same S.slots i s e)
write_same S (Global i) s e = ap (λ (xs : List Sort). record { slots = S.slots; globals = xs }) (set_same S.globals i s e)

-- a term of the spot's type keeps the types
pub write-sorts : (S : Store Sort) (st : Store Tree) (p : Spot) (t : Tree) (s : Sort) → map_store sort_of st ≡ S → sort_at S p ≡ Some s → sort_of t ≡ s → map_store sort_of (write st p t) ≡ S
write-sorts S st p t s e h f = write_map sort_of st p t ∙ (λ i. write (e i) p (f i)) ∙ write_same S p s h

pub assign-sorts : (S : Store Sort) (g : Tree) (ps : List Spot) (ts : List Tree) (ss : List Sort) (st : Store Tree) → AreSpotsOf S ps ss → map sort_of ts ≡ ss → map_store sort_of st ≡ S → map_store sort_of (assign g st ps ts) ≡ S
assign-sorts S g [] ts ss st h f e = e
assign-sorts S g (p ∷ ps) [] ss st h f e = e
assign-sorts S g (p ∷ ps) (t ∷ ts) [] st h f e = cc
assign-sorts S g (p ∷ ps) (t ∷ ts) (s ∷ ss) st h f e =
    let here : sort_of t ≡ s = cc in
    let rest : map sort_of ts ≡ ss = cc in
    let new = ite_of g t (read nothing st p) in
    assign-sorts S g ps ts ss (write st p new) h.1 rest (write-sorts S st p new s e h.0 (ite-sort g t (read nothing st p) ∙ here))

-- ---- expressions

pub operator-sort : (o : CoreOp) (ts : List Tree) (ss : List Sort) (s : Sort) → map sort_of ts ≡ ss → Takes o ss s → sort_of (op_term o ts) ≡ s
operator-sort op.Not ts ss s e t = by_one ts BoolSort (λ l. sort_of (op_term op.Not l) ≡ s) (e ∙ t.0) (λ x p. not-sort x ∙ sym t.1)
operator-sort op.And ts ss s e t = by_two ts BoolSort BoolSort (λ l. sort_of (op_term op.And l) ≡ s) (e ∙ t.0) (λ x y p q. and-sort x y ∙ sym t.1)
operator-sort op.Or ts ss s e t = by_two ts BoolSort BoolSort (λ l. sort_of (op_term op.Or l) ≡ s) (e ∙ t.0) (λ x y p q. or-sort x y ∙ sym t.1)
operator-sort op.Eq ts ss s e t = by_two ts t.0.0 t.0.0 (λ l. sort_of (op_term op.Eq l) ≡ s) (e ∙ t.0.1) (λ x y p q. sym t.1)
operator-sort op.Le ts ss s e t = by_two ts Int Int (λ l. sort_of (op_term op.Le l) ≡ s) (e ∙ t.0) (λ x y p q. sym t.1)
operator-sort op.Add ts ss s e t = by_two ts Int Int (λ l. sort_of (op_term op.Add l) ≡ s) (e ∙ t.0) (λ x y p q. sym t.1)
operator-sort op.Sub ts ss s e t = by_two ts Int Int (λ l. sort_of (op_term op.Sub l) ≡ s) (e ∙ t.0) (λ x y p q. sym t.1)
operator-sort op.Mul ts ss s e t = by_two ts Int Int (λ l. sort_of (op_term op.Mul l) ≡ s) (e ∙ t.0) (λ x y p q. sym t.1)
operator-sort op.Neg ts ss s e t = by_one ts Int (λ l. sort_of (op_term op.Neg l) ≡ s) (e ∙ t.0) (λ x p. sym t.1)
operator-sort op.Read ts ss s e t = by_two ts (MapOf t.0 s) t.0 (λ l. sort_of (op_term op.Read l) ≡ s) (e ∙ t.1) (λ x y p q. ap value_sort p)
operator-sort op.Write ts ss s e t = by_three ts (MapOf t.0 t.1) t.0 t.1 (λ l. sort_of (op_term op.Write l) ≡ s) (e ∙ t.3) (λ x y z p q r. p ∙ sym t.4)

constant-sort : (b : Bool) → sort_of (constant b) ≡ BoolSort
constant-sort true = refl
constant-sort false = refl

-- the sort of a head over any parts
pub tree-sort : (h : Head) (ts : List Tree) → sort_of (tree h ts) ≡ sort_by h (at_parts (λ u ss. sort_by (head_of u) ss) (tree h ts))
tree-sort h ts = ap (λ k. sort_by k (at_parts (λ u ss. sort_by (head_of u) ss) (tree h ts))) (head_of-applied (leaf h) ts)

mutual
  pub term-sort : (F : List Function) (S : Store Sort) (st : Store Tree) (e : CoreExpr) (s : Sort) → map_store sort_of st ≡ S → HasType F S e s → sort_of (term_in F st e) ≡ s
  term-sort F S st (Num n) s k h = sym h
  term-sort F S st (Literal b) s k h = constant-sort b ∙ sym h
  term-sort F S st (At p) s k h = spot-sort S st p s k h
  term-sort F S st (Const c) s k h = ap result_of h.1 ∙ h.2
  term-sort F S st (Apply' f n es) s k h = tree-sort (head.App f (result_of (declared_as false F f))) (terms_in F st es) ∙ ap result_of h.1 ∙ h.3
  term-sort F S st (Op' o n es) s k h = operator-sort o (terms_in F st es) h.0 s (terms-sort F S st es h.0 k h.1) h.2

  pub terms-sort : (F : List Function) (S : Store Sort) (st : Store Tree) {n : _} (es : Row_of-CoreExpr n) (ss : List Sort) → map_store sort_of st ≡ S → HaveTypes F S es ss → map sort_of (terms_in F st es) ≡ ss
  terms-sort F S st end_of-CoreExpr ss k h = sym h
  terms-sort F S st (more_of-CoreExpr e es) [] k h = absurd h
  terms-sort F S st (more_of-CoreExpr e es) (s ∷ ss) k h = λ i. term-sort F S st e s k h.0 i ∷ terms-sort F S st es ss k h.1 i

pub all-sorts : (F : List Function) (S : Store Sort) (st : Store Tree) (es : List CoreExpr) (ss : List Sort) → map_store sort_of st ≡ S → AllHaveTypes F S es ss → map sort_of (map (term_in F st) es) ≡ ss
all-sorts F S st [] ss k h = sym h
all-sorts F S st (e ∷ es) [] k h = absurd h
all-sorts F S st (e ∷ es) (s ∷ ss) k h = λ i. term-sort F S st e s k h.0 i ∷ all-sorts F S st es ss k h.1 i
