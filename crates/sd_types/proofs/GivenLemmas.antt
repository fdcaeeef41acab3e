-- Phrases beside the types that are wanted of them.
use Rattle.std.proofs.Common.{◌≡◌, ℕ, ◌≤◌, List, [], ◌∷◌, Result, Ok, Err, IsErrAnd, refl, sym, ap, ◌∙◌, subst, drop, length, Bool, true, false}
use Rattle.std.specs.Prelude.{if◌then◌else◌, ◌↔◌, IsTrue}
use Rattle.sd_base.specs.declared.sort.Sort.{Sort}
use Rattle.sd_base.specs.declared.sort.Place.{Place}
use Rattle.sd_base.specs.Value.{Text}
use Rattle.sd_ast.specs.declared.tree.Expr.{Expr}
use Rattle.sd_ast.specs.declared.tree.ExprKind.{Apply, Row_of-Expr, end_of-Expr, more_of-Expr, items-the_row-Expr, items_hidden-the_row-Expr-0}
use Rattle.sd_ast.specs.declared.tree.ExprKind.TheBlock.{hidden-the_row-Expr-0}
use Rattle.sd_types.specs.declared.refusal.TypeError.{TypeError}
use Rattle.sd_types.specs.declared.refusal.TypeError.TheVariants.{Kind}
use Rattle.sd_types.specs.declared.scope.Given.{Given}
use Rattle.sd_types.specs.Answer.{and_then, Answers}
use Rattle.sd_types.specs.Scopes.{Context}
use Rattle.sd_types.specs.Phrases.{is_of, agree, at_place, sort_of, sorts_of, given, all_given, applied}
use Rattle.sd_base.proofs.SortLemmas.{same_sort-test}
use Rattle.sd_types.proofs.AnswerLemmas.{drop-end, goes_on}

agree-none : (ss : List Sort) → agree ss [] ≡ Ok tt
agree-none [] = refl
agree-none (s ∷ ss) = refl

pub agree-end : (ss : List Sort) (gs : List Given) (i : ℕ) → agree ss gs ≡ agree (drop i ss) (drop i gs) → length gs ≤ i → Ok tt ≡ agree ss gs
agree-end ss gs i h e = sym (h ∙ ap (agree (drop i ss)) (drop-end gs i e) ∙ agree-none (drop i ss))

-- ---- expressions with their places

module _ (C : Context) (e : Expr) where
  pub given-sort : {g : Given} → Answers (given C e) (Ok g) → sort_of C e.at e.kind ≡ Ok g.sort
  given-sort {g} h = go (sort_of C e.at e.kind) h.ok
    where
      go : (d : Result Sort TypeError) → and_then d (λ s. Ok (at_place e.at s)) ≡ Ok g → d ≡ Ok g.sort
      go (Ok s) k = let n : at_place e.at s ≡ g = cc in ap (λ (x : Given). Ok x.sort) n
      go (Err x) k = absurd (cc)

  pub given-place : {g : Given} → Answers (given C e) (Ok g) → at_place e.at g.sort ≡ g
  given-place {g} h = go (sort_of C e.at e.kind) h.ok
    where
      go : (d : Result Sort TypeError) → and_then d (λ s. Ok (at_place e.at s)) ≡ Ok g → at_place e.at g.sort ≡ g
      go (Ok s) k = let n : at_place e.at s ≡ g = cc in ap (λ (x : Given). at_place e.at x.sort) (sym n) ∙ n
      go (Err x) k = absurd (cc)

  pub given-err : {x : TypeError} → Answers (given C e) (Err x) → Answers (sort_of C e.at e.kind) (Err x)
  given-err {x} h = record { ok = tt; err = λ n. go (sort_of C e.at e.kind) (h.err n) }
    where
      go : (d : Result Sort TypeError) → and_then d (λ s. Ok (at_place e.at s)) ≡ Err x → d ≡ Err x
      go (Ok s) k = absurd (cc)
      go (Err y) k = let n : y ≡ x = cc in ap Err n

  pub next_given : {B : Type 0} {g : Given} {r : Result B TypeError} (f : Given → Result B TypeError) → Answers (given C e) (Ok g) → Answers (f g) r → Answers (and_then (sort_of C e.at e.kind) (λ s. f (at_place e.at s))) r
  next_given {B} {g} {r} f h k =
      subst (λ (d : Result Sort TypeError). Answers (and_then d (λ s. f (at_place e.at s))) r) (sym (given-sort h))
      (subst (λ (x : Given). Answers (f x) r) (sym (given-place h)) k)

  pub stop_given : {B : Type 0} {x : TypeError} {r : Result B TypeError} (f : Sort → Result B TypeError) → Answers (given C e) (Err x) → IsErrAnd r (λ y. y ≡ x) → Answers (and_then (sort_of C e.at e.kind) f) r
  stop_given f h k = goes_on f (given-err h) k

-- ---- arguments, which stand in a row

after_given : {B : Type 0} (p : Place) (d : Result Sort TypeError) (f : Given → Result B TypeError) → and_then d (λ s. f (at_place p s)) ≡ and_then (and_then d (λ s. Ok (at_place p s))) f
after_given p (Ok s) f = refl
after_given p (Err e) f = refl

sorts_of-items : (C : Context) {m : _} (k : Row_of-Expr m) → sorts_of C k ≡ all_given C (items-the_row-Expr m k)
sorts_of-items C end_of-Expr = refl
sorts_of-items C (more_of-Expr p e es) =
    ap (λ (d : Result (List Given) TypeError). and_then (sort_of C p e) (λ s. and_then d (λ gs. Ok (at_place p s ∷ gs)))) (sorts_of-items C es)
    ∙ after_given p (sort_of C p e) (λ g. and_then (all_given C (items-the_row-Expr _ es)) (λ gs. Ok (g ∷ gs)))

pub sort_of-Apply : (C : Context) (p : Place) (f : Text) (es : List Expr) → sort_of C p (Apply f es) ≡ and_then (all_given C es) (λ gs. applied p f (C.function f) gs)
sort_of-Apply C p f es =
    ap (λ (d : Result (List Given) TypeError). and_then d (λ gs. applied p f (C.function f) gs))
    (sorts_of-items C (hidden-the_row-Expr-0 es) ∙ ap (all_given C) (items_hidden-the_row-Expr-0 es))

-- ---- `old`

pub old-allowed : (p : Place) {d : Result Sort TypeError} {s : Sort} {b r : Bool} → d ≡ Ok s → r ≡ b → r ≡ true → Answers (and_then d (λ s. if b then Ok s else Err (Kind p))) (Ok s)
old-allowed p {s = s} {b = b} h k t = record { ok = rw h (rw (sym k ∙ t) refl); err = tt }

pub old-refused : (p : Place) {d : Result Sort TypeError} {s : Sort} {b r : Bool} → d ≡ Ok s → r ≡ b → r ≡ false → Answers (and_then d (λ s. if b then Ok s else Err (Kind p))) (Err (Kind p))
old-refused p h k t = record { ok = tt; err = λ _. rw h (rw (sym k ∙ t) refl) }

-- ---- tests of types

pub fits : (w : Sort) (p : Place) (s : Sort) (r : Bool) → (IsTrue r ↔ (w ≡ s)) → r ≡ true → Ok tt ≡ is_of w p s
fits w p s r h e = rw (sym (same_sort-test w s r h) ∙ e) refl

pub fits_not : (w : Sort) (p : Place) (s : Sort) (r : Bool) → (IsTrue r ↔ (w ≡ s)) → r ≡ false → Err (Kind p) ≡ is_of w p s
fits_not w p s r h e = rw (sym (same_sort-test w s r h) ∙ e) refl
