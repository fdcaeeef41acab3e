-- A turn of the code's loop over the operators of a level.
use Rattle.std.proofs.Common.{◌≡◌, ℕ, suc, ◌+◌, ◌-◌, ◌<◌, ◌≤◌, true, false, [], ◌∷◌, refl, ap, ◌∙◌, arith}
use Rattle.std.specs.Prelude.{Bool, Some, None, nat_lt}
use Rattle.sd_ast.specs.declared.BinOp.{BinOp}
use Rattle.sd_parse.specs.Grammar.{Tokens, Level, repeated, operand}
use Rattle.sd_parse.specs.Reading.{Step, Got, Bad, Reader, and_then, pure, ahead, class_of, MeasuredExpr, join, opens_bracket, bracket, brackets, operation_by, operation, turns}

module _ (d : ℕ) (inner : Level → Reader MeasuredExpr) (next : MeasuredExpr → Reader MeasuredExpr) where
  inner_then : (x : MeasuredExpr) (f : BinOp) (s : Step MeasuredExpr) → and_then s (λ y. next (join f x y)) ≡ and_then (and_then s (λ y. pure (join f x y))) next
  inner_then x f (Got y rest) = refl
  inner_then x f (Bad k rest) = refl

  by_test : (l : Level) (x : MeasuredExpr) (f : BinOp) (b : Bool) (ts : Tokens) → operation_by d inner b l next x f ts ≡ and_then (operation_by d inner b l pure x f ts) next
  by_test l x f true [] = refl
  by_test l x f true (t ∷ ts) = inner_then x f (inner l ts)
  by_test l x f false ts = refl

  operation_then : (l : Level) (x : MeasuredExpr) (f : BinOp) (ts : Tokens) → operation d inner l next x f ts ≡ and_then (operation d inner l pure x f ts) next
  unfolding operation
  operation_then l x f ts = by_test l x f (nat_lt x.1 (suc d)) ts

module _ (d : ℕ) (inner : Level → Reader MeasuredExpr) (n : ℕ) (l : Level) (x : MeasuredExpr) (ts : Tokens) where
  pub turn_none : repeated l (class_of (ahead ts)) ≡ None → turns d inner (suc n) l x ts ≡ Got x ts
  unfolding turns
  turn_none e = rw e refl

  pub turn_some : (f : BinOp) → repeated l (class_of (ahead ts)) ≡ Some f → turns d inner (suc n) l x ts ≡ and_then (operation d inner (operand l) pure x f ts) (turns d inner n l)
  unfolding turns
  turn_some f e = rw e (operation_then d inner (turns d inner n l) (operand l) x f ts)

module _ (d : ℕ) (inner : Level → Reader MeasuredExpr) (n : ℕ) (x : MeasuredExpr) (ts : Tokens) where
  pub brackets_end : opens_bracket (class_of (ahead ts)) ≡ false → brackets d inner (suc n) x ts ≡ Got x ts
  unfolding brackets
  brackets_end e = rw e refl

  pub brackets_more : opens_bracket (class_of (ahead ts)) ≡ true → brackets d inner (suc n) x ts ≡ and_then (bracket d inner x ts) (brackets d inner n)
  unfolding brackets
  brackets_more e = rw e refl

pub one_more : {X : Type 0} {x : X} (f : ℕ → X) (n at : ℕ) → at < n → x ≡ f (n - at) → x ≡ f (suc (n - (at + 1)))
one_more f n at below e = let turn : n - at ≡ suc (n - (at + 1)) = omega arith in e ∙ ap f turn

pub no_more : {X : Type 0} {x : X} (f : ℕ → X) (n at : ℕ) → n ≤ at → x ≡ f (n - at) → x ≡ f 0
no_more f n at done e = let none : n - at ≡ 0 = omega arith in e ∙ ap f none
