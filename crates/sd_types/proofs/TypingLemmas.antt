-- The checks give an expression a type exactly if it has it.
use Rattle.std.proofs.Common.{◌≡◌, suc, Bool as Test, true, false, List, [], ◌∷◌, Option, Some, None, Result, Ok, Err, refl, sym, ap, ◌∙◌, subst, length, arith, eq-eqb, eqb→eq}
use Rattle.std.specs.Prelude.{◌==◌, if◌then◌else◌}
use Rattle.sd_base.specs.declared.sort.Sort.{Sort, Int, Bool}
use Rattle.sd_base.specs.declared.sort.Place.{Place}
use Rattle.sd_base.specs.Value.{Text}
use Rattle.sd_base.specs.Sorts.{MapOf, same_sort}
use Rattle.sd_ast.specs.declared.tree.BinOp.{BinOp}
use Rattle.sd_ast.specs.declared.tree.BinOp.TheVariants as op
use Rattle.sd_ast.specs.declared.tree.UnOp.{UnOp}
use Rattle.sd_ast.specs.declared.tree.UnOp.TheVariants as op1
use Rattle.sd_ast.specs.declared.tree.ExprKind.{ExprKind, Num, Truth, Var, Apply', Row_of-Expr, end_of-Expr, more_of-Expr}
use Rattle.sd_ast.specs.Tree.{OldOf, UnaryOf, BinaryOf, SelectOf, StoreOf}
use Rattle.sd_types.specs.declared.refusal.TypeError.{TypeError}
use Rattle.sd_types.specs.declared.refusal.TypeError.TheVariants.{Kind, Arity}
use Rattle.sd_types.specs.declared.scope.Variable.{Variable}
use Rattle.sd_types.specs.declared.scope.Signature.{Signature}
use Rattle.sd_types.specs.declared.scope.Given.{Given}
use Rattle.sd_types.specs.Answer.{and_then, both}
use Rattle.sd_types.specs.Scopes.{Context}
use Rattle.sd_types.specs.Phrases.{is_of, agree, same_number, unary_sort, from_to, binary_sort, selected, stored, applied, sort_in, at_place, sort_of, sorts_of}
use Rattle.sd_types.specs.Typing.{Joins, TakesOne, TakesTwo, HasType, HaveTypes, TypesAreExact}
use Rattle.sd_base.proofs.SortLemmas.{same_sort-is, same_sort-refl}

-- ---- checks that passed

-- a check that passes has a first part that passes
pub parts : {A B : Type 0} (d : Result A TypeError) (f : A → Result B TypeError) (b : B) → and_then d f ≡ Ok b → (a : A) × (d ≡ Ok a) × (f a ≡ Ok b)
parts (Ok a) f b h = (a, refl, h)
parts (Err e) f b h = absurd (cc)

pub joined : {A B : Type 0} {d : Result A TypeError} (f : A → Result B TypeError) {a : A} {b : B} → d ≡ Ok a → f a ≡ Ok b → and_then d f ≡ Ok b
joined f h k = ap (λ d. and_then d f) h ∙ k

abbrev pub ok_of : {A : Type 0} → A → Result A TypeError
ok_of a = Ok a

pub ok_is : {A : Type 0} {a b : A} (h : ok_of a ≡ ok_of b) → a ≡ b
ok_is h = cc

pub fits-same : (w : Sort) (p : Place) (s : Sort) (u : Unit {0}) → is_of w p s ≡ Ok u → w ≡ s
fits-same w p s u = go (same_sort w s) refl
  where
    go : (b : Test) → same_sort w s ≡ b → (if b then Ok tt else Err (Kind p)) ≡ Ok u → w ≡ s
    go true e h = same_sort-is w s e
    go false e h = absurd (cc)

pub same-fits : (w : Sort) (p : Place) (s : Sort) → w ≡ s → is_of w p s ≡ Ok tt
same-fits w p s e = subst (λ (t : Sort). is_of w p t ≡ Ok tt) e (rw (same_sort-refl w) refl)

-- ---- operators

unary-takes : (o : UnOp) (g : Given) (r : Sort) → unary_sort o g ≡ Ok r → TakesOne o g.sort r
unary-takes op1.Not g r h = let k = parts (is_of Bool g.at g.sort) (λ _. Ok Bool) r h in (sym (fits-same _ _ _ _ k.1), sym (ok_is k.2))
unary-takes op1.Neg g r h = let k = parts (is_of Int g.at g.sort) (λ _. Ok Int) r h in (sym (fits-same _ _ _ _ k.1), sym (ok_is k.2))

takes-unary : (o : UnOp) (g : Given) (r : Sort) → TakesOne o g.sort r → unary_sort o g ≡ Ok r
takes-unary op1.Not g r h = joined _ (same-fits Bool g.at g.sort (sym h.0)) (ap Ok (sym h.1))
takes-unary op1.Neg g r h = joined _ (same-fits Int g.at g.sort (sym h.0)) (ap Ok (sym h.1))

from_to-joins : (part whole : Sort) (g h : Given) (r : Sort) → from_to part whole g h ≡ Ok r → Joins part whole g.sort h.sort r
from_to-joins part whole g h r e =
    let k = parts (is_of part g.at g.sort) (λ _. both (is_of part h.at h.sort) (Ok whole)) r e in
    let l = parts (is_of part h.at h.sort) (λ _. Ok whole) r k.2 in
    (sym (fits-same part g.at g.sort k.0 k.1), sym (fits-same part h.at h.sort l.0 l.1), sym (ok_is l.2))

joins-from_to : (part whole : Sort) (g h : Given) (r : Sort) → Joins part whole g.sort h.sort r → from_to part whole g h ≡ Ok r
joins-from_to part whole g h r j =
    joined _ (same-fits part g.at g.sort (sym j.0)) (joined _ (same-fits part h.at h.sort (sym j.1)) (ap Ok (sym j.2)))

equal-takes : (g h : Given) (r : Sort) → both (is_of g.sort h.at h.sort) (Ok Bool) ≡ Ok r → (g.sort ≡ h.sort) × (r ≡ Bool)
equal-takes g h r e = let k = parts (is_of g.sort h.at h.sort) (λ _. Ok Bool) r e in (fits-same g.sort h.at h.sort k.0 k.1, sym (ok_is k.2))

takes-equal : (g h : Given) (r : Sort) → (g.sort ≡ h.sort) × (r ≡ Bool) → both (is_of g.sort h.at h.sort) (Ok Bool) ≡ Ok r
takes-equal g h r e = joined _ (same-fits g.sort h.at h.sort e.0) (ap Ok (sym e.1))

binary-takes : (o : BinOp) (g h : Given) (r : Sort) → binary_sort o g h ≡ Ok r → TakesTwo o g.sort h.sort r
binary-takes op.Iff = from_to-joins Bool Bool
binary-takes op.Implies = from_to-joins Bool Bool
binary-takes op.Explies = from_to-joins Bool Bool
binary-takes op.And = from_to-joins Bool Bool
binary-takes op.Or = from_to-joins Bool Bool
binary-takes op.Eq = equal-takes
binary-takes op.Ne = equal-takes
binary-takes op.Lt = from_to-joins Int Bool
binary-takes op.Le = from_to-joins Int Bool
binary-takes op.Gt = from_to-joins Int Bool
binary-takes op.Ge = from_to-joins Int Bool
binary-takes op.Add = from_to-joins Int Int
binary-takes op.Sub = from_to-joins Int Int
binary-takes op.Mul = from_to-joins Int Int

takes-binary : (o : BinOp) (g h : Given) (r : Sort) → TakesTwo o g.sort h.sort r → binary_sort o g h ≡ Ok r
takes-binary op.Iff = joins-from_to Bool Bool
takes-binary op.Implies = joins-from_to Bool Bool
takes-binary op.Explies = joins-from_to Bool Bool
takes-binary op.And = joins-from_to Bool Bool
takes-binary op.Or = joins-from_to Bool Bool
takes-binary op.Eq = takes-equal
takes-binary op.Ne = takes-equal
takes-binary op.Lt = joins-from_to Int Bool
takes-binary op.Le = joins-from_to Int Bool
takes-binary op.Gt = joins-from_to Int Bool
takes-binary op.Ge = joins-from_to Int Bool
takes-binary op.Add = joins-from_to Int Int
takes-binary op.Sub = joins-from_to Int Int
takes-binary op.Mul = joins-from_to Int Int

-- ---- maps

pub selected-map : (p : Place) (m : Sort) (g : Given) (r : Sort) → selected p m g ≡ Ok r → m ≡ MapOf g.sort r
selected-map p (MapOf i v) g r h =
    let k = parts (is_of i g.at g.sort) (λ _. Ok v) r h in (λ j. MapOf (fits-same i g.at g.sort k.0 k.1 j) (ok_is k.2 j))
selected-map p _ g r h = absurd (cc)

pub map-selected : (p : Place) (g : Given) (r : Sort) → selected p (MapOf g.sort r) g ≡ Ok r
map-selected p g r = joined _ (same-fits g.sort g.at g.sort refl) refl

-- ---- expressions

-- the arguments that have types, with their places
abbrev pub sorts_given : List Given → List Sort
sorts_given [] = []
sorts_given (g ∷ gs) = g.sort ∷ sorts_given gs

pub agree-sorts : (ss : List Sort) (gs : List Given) → agree ss gs ≡ Ok tt → length ss ≡ length gs → ss ≡ sorts_given gs
agree-sorts [] [] h e = refl
agree-sorts [] (g ∷ gs) h e = absurd (omega arith)
agree-sorts (s ∷ ss) [] h e = absurd (omega arith)
agree-sorts (s ∷ ss) (g ∷ gs) h e =
    let k = parts (is_of s g.at g.sort) (λ _. agree ss gs) tt h in
    (λ j. fits-same s g.at g.sort k.0 k.1 j ∷ agree-sorts ss gs k.2 (omega (arith, e)) j)

pub sorts-agree : (gs : List Given) → agree (sorts_given gs) gs ≡ Ok tt
sorts-agree [] = refl
sorts-agree (g ∷ gs) = joined _ (same-fits g.sort g.at g.sort refl) (sorts-agree gs)

pub sorts-length : (gs : List Given) → length (sorts_given gs) ≡ length gs
sorts-length [] = refl
sorts-length (g ∷ gs) = ap suc (sorts-length gs)

pub numbers-same : (p : Place) (ss : List Sort) (gs : List Given) (u : Unit {0}) → same_number p ss gs ≡ Ok u → length ss ≡ length gs
numbers-same p ss gs u = go (length ss == length gs) refl
  where
    go : (b : Test) → (length ss == length gs) ≡ b → (if b then Ok tt else Err (Arity p)) ≡ Ok u → length ss ≡ length gs
    go true e h = eqb→eq (length ss) (length gs) (rw e tt)
    go false e h = absurd (cc)

pub same-numbers : (p : Place) (ss : List Sort) (gs : List Given) → length ss ≡ length gs → same_number p ss gs ≡ Ok tt
same-numbers p ss gs e = rw (eq-eqb (length ss) (length gs) e) refl

applied-as : (p : Place) (f : Text) (o : Option Signature) (gs : List Given) (r : Sort) → applied p f o gs ≡ Ok r → (sig : Signature) × (o ≡ Some sig) × (sig.args ≡ sorts_given gs) × (sig.result ≡ r)
applied-as p f None gs r h = absurd (cc)
applied-as p f (Some sig) gs r h =
    let k = parts (agree sig.args gs) (λ _. both (same_number p sig.args gs) (Ok sig.result)) r h in
    let l = parts (same_number p sig.args gs) (λ _. Ok sig.result) r k.2 in
    (sig, refl, agree-sorts sig.args gs k.1 (numbers-same p sig.args gs l.0 l.1), ok_is l.2)

as-applied : (p : Place) (f : Text) (sig : Signature) (gs : List Given) → sig.args ≡ sorts_given gs → applied p f (Some sig) gs ≡ Ok sig.result
as-applied p f sig gs e =
    joined _ (subst (λ (ss : List Sort). agree ss gs ≡ Ok tt) (sym e) (sorts-agree gs))
    (joined _ (same-numbers p sig.args gs (ap length e ∙ sorts-length gs)) refl)

pub named-as : (x : Text) (o : Option Variable) (s : Sort) → sort_in x o ≡ Ok s → (v : Variable) × (o ≡ Some v) × (v.sort ≡ s)
named-as x None s h = absurd (cc)
named-as x (Some v) s h = (v, refl, ok_is h)

old-as : (b : Test) (p : Place) (s r : Sort) → (if b then ok_of s else Err (Kind p)) ≡ Ok r → (b ≡ true) × (s ≡ r)
old-as true p s r h = (refl, ok_is h)
old-as false p s r h = absurd (cc)

mutual
  pub has_type : (C : Context) (p : Place) (e : ExprKind) (s : Sort) → sort_of C p e ≡ Ok s → HasType C e s
  has_type C p (Num n) s h = sym (ok_is h)
  has_type C p (Truth b) s h = sym (ok_is h)
  has_type C p (Var x) s h = named-as x (C.variable x) s h
  has_type C p (Apply' f shape args) s h =
      let k = parts (sorts_of C args) (λ gs. applied p f (C.function f) gs) s h in
      let l = applied-as p f (C.function f) k.0 s k.2 in
      (l.0, l.1, subst (HaveTypes C args) (sym l.2) (have_types C args k.0 k.1), l.3)
  has_type C p (OldOf q e) s h =
      let k = parts (sort_of C q e) (λ t. if C.old then ok_of t else Err (Kind p)) s h in
      let l = old-as C.old p k.0 s k.2 in
      (l.0, subst (HasType C e) l.1 (has_type C q e k.0 k.1))
  has_type C p (UnaryOf o q a) s h =
      let k = parts (sort_of C q a) (λ t. unary_sort o (at_place q t)) s h in
      (k.0, has_type C q a k.0 k.1, unary-takes o (at_place q k.0) s k.2)
  has_type C p (BinaryOf o q a r b) s h =
      let k = parts (sort_of C q a) (λ t. and_then (sort_of C r b) (λ u. binary_sort o (at_place q t) (at_place r u))) s h in
      let l = parts (sort_of C r b) (λ u. binary_sort o (at_place q k.0) (at_place r u)) s k.2 in
      (k.0, l.0, has_type C q a k.0 k.1, has_type C r b l.0 l.1, binary-takes o (at_place q k.0) (at_place r l.0) s l.2)
  has_type C p (SelectOf q m r i) s h =
      let k = parts (sort_of C q m) (λ t. and_then (sort_of C r i) (λ u. selected q t (at_place r u))) s h in
      let l = parts (sort_of C r i) (λ u. selected q k.0 (at_place r u)) s k.2 in
      (l.0, subst (HasType C m) (selected-map q k.0 (at_place r l.0) s l.2) (has_type C q m k.0 k.1), has_type C r i l.0 l.1)
  has_type C p (StoreOf q m r i u w) s h =
      let k = parts (sort_of C q m) (λ t. and_then (sort_of C r i) (λ j. and_then (sort_of C u w) (λ v. stored (at_place q t) (at_place r j) (at_place u v)))) s h in
      let l = parts (sort_of C r i) (λ j. and_then (sort_of C u w) (λ v. stored (at_place q k.0) (at_place r j) (at_place u v))) s k.2 in
      let n = parts (sort_of C u w) (λ v. stored (at_place q k.0) (at_place r l.0) (at_place u v)) s l.2 in
      let o = parts (selected q k.0 (at_place r l.0)) (λ v. both (is_of v u n.0) (Ok k.0)) s n.2 in
      let z = parts (is_of o.0 u n.0) (λ _. Ok k.0) s o.2 in
      let at : k.0 ≡ MapOf l.0 o.0 = selected-map q k.0 (at_place r l.0) o.0 o.1 in
      (l.0, o.0, subst (HasType C m) at (has_type C q m k.0 k.1), has_type C r i l.0 l.1, subst (HasType C w) (sym (fits-same o.0 u n.0 z.0 z.1)) (has_type C u w n.0 n.1), sym (ok_is z.2) ∙ at)

  have_types : (C : Context) {n : _} (es : Row_of-Expr n) (gs : List Given) → sorts_of C es ≡ Ok gs → HaveTypes C es (sorts_given gs)
  have_types C end_of-Expr gs h = subst (λ (l : List Given). HaveTypes C end_of-Expr (sorts_given l)) (ok_is h) tt
  have_types C (more_of-Expr p e es) gs h =
      let k = parts (sort_of C p e) (λ s. and_then (sorts_of C es) (λ gs. ok_of (at_place p s ∷ gs))) gs h in
      let l = parts (sorts_of C es) (λ gs. ok_of (at_place p k.0 ∷ gs)) gs k.2 in
      subst (λ (x : List Given). HaveTypes C (more_of-Expr p e es) (sorts_given x)) (ok_is l.2) (has_type C p e k.0 k.1, have_types C es l.0 l.1)

mutual
  pub gets_type : (C : Context) (p : Place) (e : ExprKind) (s : Sort) → HasType C e s → sort_of C p e ≡ Ok s
  gets_type C p (Num n) s h = ap ok_of (sym h)
  gets_type C p (Truth b) s h = ap ok_of (sym h)
  gets_type C p (Var x) s h = ap (sort_in x) h.1 ∙ ap ok_of h.2
  gets_type C p (Apply' f shape args) s h =
      let k = get_types C args h.0.args h.2 in
      joined (λ gs. applied p f (C.function f) gs) k.1
      (ap (λ (o : Option Signature). applied p f o k.0) h.1 ∙ as-applied p f h.0 k.0 k.2 ∙ ap ok_of h.3)
  gets_type C p (OldOf q e) s h = joined (λ t. if C.old then ok_of t else Err (Kind p)) (gets_type C q e s h.1) (rw h.0 refl)
  gets_type C p (UnaryOf o q a) s h = joined (λ t. unary_sort o (at_place q t)) (gets_type C q a h.0 h.1) (takes-unary o (at_place q h.0) s h.2)
  gets_type C p (BinaryOf o q a r b) s h =
      joined (λ t. and_then (sort_of C r b) (λ u. binary_sort o (at_place q t) (at_place r u))) (gets_type C q a h.0 h.2)
      (joined (λ u. binary_sort o (at_place q h.0) (at_place r u)) (gets_type C r b h.1 h.3) (takes-binary o (at_place q h.0) (at_place r h.1) s h.4))
  gets_type C p (SelectOf q m r i) s h =
      joined (λ t. and_then (sort_of C r i) (λ u. selected q t (at_place r u))) (gets_type C q m (MapOf h.0 s) h.1)
      (joined (λ u. selected q (MapOf h.0 s) (at_place r u)) (gets_type C r i h.0 h.2) (map-selected q (at_place r h.0) s))
  gets_type C p (StoreOf q m r i u w) s h =
      joined (λ t. and_then (sort_of C r i) (λ j. and_then (sort_of C u w) (λ v. stored (at_place q t) (at_place r j) (at_place u v)))) (gets_type C q m (MapOf h.0 h.1) h.2)
      (joined (λ j. and_then (sort_of C u w) (λ v. stored (at_place q (MapOf h.0 h.1)) (at_place r j) (at_place u v))) (gets_type C r i h.0 h.3)
      (joined (λ v. stored (at_place q (MapOf h.0 h.1)) (at_place r h.0) (at_place u v)) (gets_type C u w h.1 h.4)
      (joined (λ v. both (is_of v u h.1) (ok_of (MapOf h.0 h.1))) (map-selected q (at_place r h.0) h.1)
      (joined (λ _. ok_of (MapOf h.0 h.1)) (same-fits h.1 u h.1 refl) (ap ok_of (sym h.5))))))

  get_types : (C : Context) {n : _} (es : Row_of-Expr n) (ss : List Sort) → HaveTypes C es ss → (gs : List Given) × (sorts_of C es ≡ Ok gs) × (ss ≡ sorts_given gs)
  get_types C end_of-Expr [] h = ([], refl, refl)
  get_types C end_of-Expr (s ∷ ss) h = absurd h
  get_types C (more_of-Expr p e es) [] h = absurd h
  get_types C (more_of-Expr p e es) (s ∷ ss) h =
      let k = get_types C es ss h.1 in
      (at_place p s ∷ k.0, joined (λ t. and_then (sorts_of C es) (λ gs. ok_of (at_place p t ∷ gs))) (gets_type C p e s h.0) (joined (λ gs. ok_of (at_place p s ∷ gs)) k.1 refl), ap (λ (l : List Sort). s ∷ l) k.2)

pub types_exact : TypesAreExact
types_exact C p e s = (has_type C p e s, gets_type C p e s)
