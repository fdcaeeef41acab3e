-- The laws of widening hold of the reader of expressions.
use Rattle.std.proofs.Common.{◌≡◌, ℕ, zero, suc, ◌+◌, ◌≤◌, true, false, cond, [], ◌∷◌, refl, ap, sym, ◌∙◌, arith}
use Rattle.std.specs.Prelude.{Bool, Option, Some, None, nat_lt}
use Rattle.std.proofs.lemmas.Bool.Decides.{nat_tests}
use Rattle.sd_base.specs.declared.Place.{Place}
use Rattle.sd_base.specs.Value.{Text}
use Rattle.sd_ast.specs.declared.UnOp.{UnOp}
use Rattle.sd_ast.specs.declared.BinOp.{BinOp}
use Rattle.sd_ast.specs.declared.BinOp.TheVariants as op
use Rattle.sd_parse.specs.declared.class.TokenClass.{TokenClass}
use Rattle.sd_parse.specs.declared.class.TokenClass.TheVariants as s
use Rattle.sd_parse.specs.Grammar.{Tokens, Level, Whole, Implication, Right, Explied, Junction, Conjunction, Disjunction, Relation, Sum, Product, Prefix, Postfix, Atom, repeated, operand, compares, prefixes, placed}
use Rattle.sd_parse.specs.Reading as spec
use Rattle.sd_parse.specs.Reading.{Syntax, Deep, Step, Got, Bad, Reader, and_then, ◌>>=◌, pure, bad, ahead, class_of, skip, want, name, begins, MeasuredExpr, join, Group, add, comma, opens_bracket, operation_by, parenthesized, next_expression, more_expressions, expressions, arguments_by, arguments, application, named_by, named, atom_by, atom, indexed_by, indexed, bracket_by, bracket, brackets_by, brackets, postfix, prefixed, prefix_by, prefix, operation, turn_by, turns, product, sum, comparison_by, relation, junction_by, junction, right_by, right, implication_by, implication, whole, layer, read}
use Rattle.sd_parse.proofs.Widening.{Widens, Item, after_item, sequence, choice, got, skip_item, name_item, items, deepest, widen_floor, widening}

module _ (d : ℕ) {inner wider : Level → Reader MeasuredExpr} (up : (l : Level) → Widens (inner l) (wider l)) where
  next_item : Item (next_expression d inner) (next_expression (suc d) wider)
  unfolding next_expression
  next_item = search (widening, up)

  widen_arguments_by : (y : TokenClass) → Widens (arguments_by d inner y) (arguments_by (suc d) wider y)
  unfolding expressions more_expressions
  widen_arguments_by s.Close = search widening
  widen_arguments_by _ = sequence (up Whole) (λ x. items comma add next_item (x.0 ∷ [], x.1))

  widen_named_by : (f : Text × Place) (y : TokenClass) → Widens (named_by d inner f y) (named_by (suc d) wider f y)
  unfolding application arguments
  widen_named_by f s.Open = search (widening, choice widen_arguments_by) depth 9
  widen_named_by f _ = search widening

  widen_atom_by : (y : TokenClass) → Widens (atom_by d inner y) (atom_by (suc d) wider y)
  unfolding named spec.old parenthesized
  widen_atom_by s.Number = search widening
  widen_atom_by s.True = search widening
  widen_atom_by s.False = search widening
  widen_atom_by s.Name = after_item name_item (λ f. choice (widen_named_by f))
  widen_atom_by s.Old = search (widening, up) depth 9
  widen_atom_by s.Open = search (widening, up) depth 9
  widen_atom_by _ = search widening

  widen_indexed_by : (m i : MeasuredExpr) (y : TokenClass) → Widens (indexed_by d inner m i y) (indexed_by (suc d) wider m i y)
  widen_indexed_by m i s.Becomes = search (widening, up) depth 9
  widen_indexed_by m i _ = search widening

  widen_bracket_by : (b c : Bool) (m : MeasuredExpr) → (b ≡ true → c ≡ true) → Widens (bracket_by d inner b m) (bracket_by (suc d) wider c m)
  unfolding indexed
  widen_bracket_by false c m h = deepest (bracket_by (suc d) wider c m)
  widen_bracket_by true true m h = after_item skip_item (λ _. sequence (up Whole) (λ i. choice (widen_indexed_by m i)))
  widen_bracket_by true false m h = absurd (let z : false ≡ true = h refl in cc)

  widen_brackets_by : (next beyond : MeasuredExpr → Reader MeasuredExpr) (m : MeasuredExpr) (b : Bool) → ((y : MeasuredExpr) → Widens (next y) (beyond y)) → Widens (brackets_by d inner next m b) (brackets_by (suc d) wider beyond m b)
  unfolding bracket
  widen_brackets_by next beyond m true n = sequence (widen_bracket_by (nat_lt m.1 (suc d)) (nat_lt m.1 (suc (suc d))) m (λ e. grind (arith, nat_tests))) n
  widen_brackets_by next beyond m false n = search widening

  widen_brackets : (n k : ℕ) (m : MeasuredExpr) → n ≤ k → Widens (brackets d inner n m) (brackets (suc d) wider k m)
  unfolding brackets
  widen_brackets zero k m h = deepest (brackets (suc d) wider k m)
  widen_brackets (suc n) zero m h = absurd (omega arith)
  widen_brackets (suc n) (suc k) m h = choice {f = λ y. brackets_by d inner (brackets d inner n) m (opens_bracket y)} {h = λ y. brackets_by (suc d) wider (brackets (suc d) wider k) m (opens_bracket y)}
      (λ y. widen_brackets_by _ _ m (opens_bracket y) (λ x. widen_brackets n k x (omega arith)))

  widen_postfix : Widens (postfix d inner) (postfix (suc d) wider)
  unfolding postfix atom
  widen_postfix = sequence (choice widen_atom_by) (λ x. widen_brackets (suc d) (suc (suc d)) x (omega arith))

  widen_prefix_by : (o : Option UnOp) → Widens (prefix_by d inner o) (prefix_by (suc d) wider o)
  unfolding prefixed
  widen_prefix_by None = widen_postfix
  widen_prefix_by (Some f) = search (widening, up) depth 9

  widen_prefix : Widens (prefix d inner) (prefix (suc d) wider)
  unfolding prefix
  widen_prefix = choice {f = λ y. prefix_by d inner (prefixes y)} {h = λ y. prefix_by (suc d) wider (prefixes y)} (λ y. widen_prefix_by (prefixes y))

  widen_operation_by : (b c : Bool) (l : Level) (next beyond : MeasuredExpr → Reader MeasuredExpr) (x : MeasuredExpr) (f : BinOp) → (b ≡ true → c ≡ true) → ((y : MeasuredExpr) → Widens (next y) (beyond y))
      → Widens (operation_by d inner b l next x f) (operation_by (suc d) wider c l beyond x f)
  widen_operation_by false c l next beyond x f h n = deepest (operation_by (suc d) wider c l beyond x f)
  widen_operation_by true true l next beyond x f h n = after_item skip_item (λ _. sequence (up l) (λ y. n (join f x y)))
  widen_operation_by true false l next beyond x f h n = absurd (let z : false ≡ true = h refl in cc)

  widen_operation : (l : Level) (next beyond : MeasuredExpr → Reader MeasuredExpr) (x : MeasuredExpr) (f : BinOp) → ((y : MeasuredExpr) → Widens (next y) (beyond y)) → Widens (operation d inner l next x f) (operation (suc d) wider l beyond x f)
  unfolding operation
  widen_operation l next beyond x f n = widen_operation_by (nat_lt x.1 (suc d)) (nat_lt x.1 (suc (suc d))) l next beyond x f (λ e. grind (arith, nat_tests)) n

  widen_turn_by : (l : Level) (next beyond : MeasuredExpr → Reader MeasuredExpr) (x : MeasuredExpr) (o : Option BinOp) → ((y : MeasuredExpr) → Widens (next y) (beyond y)) → Widens (turn_by d inner l next x o) (turn_by (suc d) wider l beyond x o)
  widen_turn_by l next beyond x None n = got x
  widen_turn_by l next beyond x (Some f) n = widen_operation (operand l) next beyond x f n

  widen_turns : (n m : ℕ) (l : Level) (x : MeasuredExpr) → n ≤ m → Widens (turns d inner n l x) (turns (suc d) wider m l x)
  unfolding turns
  widen_turns zero m l x h = deepest (turns (suc d) wider m l x)
  widen_turns (suc n) zero l x h = absurd (omega arith)
  widen_turns (suc n) (suc m) l x h = choice {f = λ y. turn_by d inner l (turns d inner n l) x (repeated l y)} {h = λ y. turn_by (suc d) wider l (turns (suc d) wider m l) x (repeated l y)}
      (λ y. widen_turn_by l _ _ x (repeated l y) (λ x. widen_turns n m l x (omega arith)))

  all_turns : (l : Level) (x : MeasuredExpr) → Widens (turns d inner (suc d) l x) (turns (suc d) wider (suc (suc d)) l x)
  all_turns l x = widen_turns (suc d) (suc (suc d)) l x (omega arith)

  widen_comparison_by : (x : MeasuredExpr) (o : Option BinOp) → Widens (comparison_by d inner x o) (comparison_by (suc d) wider x o)
  widen_comparison_by x None = got x
  widen_comparison_by x (Some f) = widen_operation Sum _ _ x f got

  widen_relation : Widens (relation d inner) (relation (suc d) wider)
  unfolding relation sum product
  widen_relation = sequence (sequence (sequence widen_prefix (all_turns Product)) (all_turns Sum)) (λ x. choice {f = λ y. comparison_by d inner x (compares y)} {h = λ y. comparison_by (suc d) wider x (compares y)} (λ y. widen_comparison_by x (compares y)))

  widen_junction_by : (x : MeasuredExpr) (y : TokenClass) → Widens (junction_by d inner x y) (junction_by (suc d) wider x y)
  widen_junction_by x s.And = all_turns Conjunction x
  widen_junction_by x _ = all_turns Disjunction x

  widen_junction : Widens (junction d inner) (junction (suc d) wider)
  unfolding junction
  widen_junction = sequence widen_relation (λ x. choice (widen_junction_by x))

  widen_right_by : (x : MeasuredExpr) (y : TokenClass) → Widens (right_by d inner x y) (right_by (suc d) wider x y)
  widen_right_by x s.Implies = widen_operation Right _ _ x op.Implies got
  widen_right_by x _ = got x

  widen_implication_by : (x : MeasuredExpr) (y : TokenClass) → Widens (implication_by d inner x y) (implication_by (suc d) wider x y)
  widen_implication_by x s.Implies = widen_operation Right _ _ x op.Implies got
  widen_implication_by x _ = all_turns Explied x

  widen_implication : Widens (implication d inner) (implication (suc d) wider)
  unfolding implication
  widen_implication = sequence widen_junction (λ x. choice (widen_implication_by x))

  widen_layer : (l : Level) → Widens (layer d inner l) (layer (suc d) wider l)
  unfolding whole right sum product atom
  widen_layer Whole = sequence widen_implication (all_turns Whole)
  widen_layer Implication = widen_implication
  widen_layer Right = sequence widen_junction (λ x. choice (widen_right_by x))
  widen_layer Explied = sequence widen_junction (all_turns Explied)
  widen_layer Junction = widen_junction
  widen_layer Conjunction = sequence widen_relation (all_turns Conjunction)
  widen_layer Disjunction = sequence widen_relation (all_turns Disjunction)
  widen_layer Relation = widen_relation
  widen_layer Sum = sequence (sequence widen_prefix (all_turns Product)) (all_turns Sum)
  widen_layer Product = sequence widen_prefix (all_turns Product)
  widen_layer Prefix = widen_prefix
  widen_layer Postfix = widen_postfix
  widen_layer Atom = choice widen_atom_by

-- ---- no height

atom_none : (d : ℕ) (inner : Level → Reader MeasuredExpr) (x : TokenClass) (ts : Tokens) → begins x ≡ false → atom_by d inner x ts ≡ Bad Syntax ts
atom_none d inner s.Number ts e = absurd (cc)
atom_none d inner _ ts e = cc

prefixes_none : (x : TokenClass) → begins x ≡ false → prefixes x ≡ None
prefixes_none s.Not e = absurd (cc)
prefixes_none s.Minus e = absurd (cc)
prefixes_none _ e = refl

module _ (d : ℕ) (inner : Level → Reader MeasuredExpr) (ts : Tokens) (none : begins (class_of (ahead ts)) ≡ false) where
  none_atom : layer d inner Atom ts ≡ Bad Syntax ts
  unfolding atom
  none_atom = atom_none d inner (class_of (ahead ts)) ts none

  none_postfix : layer d inner Postfix ts ≡ Bad Syntax ts
  unfolding postfix
  none_postfix = ap (λ s. and_then s (brackets d inner (suc d))) none_atom

  none_prefix : layer d inner Prefix ts ≡ Bad Syntax ts
  unfolding prefix
  none_prefix = ap (λ o. prefix_by d inner o ts) (prefixes_none (class_of (ahead ts)) none) ∙ none_postfix

  none_then : {A B : Type 0} (s : Step A) (f : A → Reader B) → s ≡ Bad Syntax ts → and_then s f ≡ Bad Syntax ts
  none_then s f e = ap (λ s. and_then s f) e

  none_relation : layer d inner Relation ts ≡ Bad Syntax ts
  unfolding relation sum product
  none_relation = none_then _ _ (none_then _ _ (none_then _ _ none_prefix))

  none_junction : layer d inner Junction ts ≡ Bad Syntax ts
  unfolding junction
  none_junction = none_then _ _ none_relation

  none_layer : (l : Level) → layer d inner l ts ≡ Bad Syntax ts
  unfolding whole implication right sum product
  none_layer Whole = none_then _ _ (none_then _ _ none_junction)
  none_layer Implication = none_then _ _ none_junction
  none_layer Right = none_then _ _ none_junction
  none_layer Explied = none_then _ _ none_junction
  none_layer Junction = none_junction
  none_layer Conjunction = none_then _ _ none_relation
  none_layer Disjunction = none_then _ _ none_relation
  none_layer Relation = none_relation
  none_layer Sum = none_then _ _ (none_then _ _ none_prefix)
  none_layer Product = none_then _ _ none_prefix
  none_layer Prefix = none_prefix
  none_layer Postfix = none_postfix
  none_layer Atom = none_atom

-- The reader of expressions looks no further than the next token, and more height changes only the answer that a token is too deep.
pub widen_read : (d : ℕ) (l : Level) → Widens (read d l) (read (suc d) l)
unfolding read
widen_read zero l = widen_floor begins (layer 0 (read 0) l) (λ ts e. none_layer 0 (read 0) ts e l)
widen_read (suc d) l = widen_layer d (widen_read d) l
