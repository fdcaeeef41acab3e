-- What the reader of expressions answers.
use Rattle.std.proofs.Common.{◌≡◌, ℕ, zero, suc, ◌+◌, ◌<◌, ◌≤◌, max, true, false, cond, List, [], ◌∷◌, ◌++◌, length, refl, ap, sym, ◌∙◌, subst, arith, append_assoc}
use Rattle.std.specs.Prelude.{Bool, Option, Some, None, nat_lt}
use Rattle.std.proofs.lemmas.Bool.Decides.{nat_tests}
use Rattle.std.proofs.lemmas.List.{append-nil}
use Rattle.sd_base.specs.declared.Place.{Place}
use Rattle.sd_base.specs.Value.{Text}
use Rattle.sd_lex.specs.declared.Token.{Token}
use Rattle.sd_ast.specs.declared.Expr.{Expr}
use Rattle.sd_ast.specs.declared.ExprKind.{Num, Truth, Var, Apply, Old, Unary, Binary}
use Rattle.sd_ast.specs.declared.UnOp.{UnOp}
use Rattle.sd_ast.specs.declared.BinOp.{BinOp}
use Rattle.sd_ast.specs.declared.BinOp.TheVariants as op
use Rattle.sd_parse.specs.declared.class.TokenClass.{TokenClass}
use Rattle.sd_parse.specs.declared.class.TokenClass.TheVariants as s
use Rattle.sd_parse.specs.TokenClasses.{class}
use Rattle.sd_parse.specs.Grammar as g
use Rattle.sd_parse.specs.Grammar.{Tokens, Level, Whole, Implication, Right, Explied, Junction, Conjunction, Disjunction, Relation, Sum, Product, Prefix, Postfix, Atom, Phrase, Arguments, Expressions, Is, repeated, operand, has_operand, compares, prefixes, placed}
use Rattle.sd_parse.specs.Reading.{Syntax, Deep, Step, Got, Bad, Reader, and_then, ahead, class_of, skip, want, many, begins, MeasuredExpr, join, Group, add, comma, opens_bracket, operation_by, parenthesized, next_expression, more_expressions, expressions, arguments_by, arguments, application, named_by, atom_by, atom, indexed_by, indexed, bracket_by, bracket, brackets_by, brackets, postfix, prefixed, prefix_by, prefix, operation, turn_by, turn, turns, product, sum, comparison_by, relation, junction_by, junction, right_by, right, implication_by, implication, whole, layer, read}
use Rattle.sd_parse.specs.Reading as spec
use Rattle.sd_parse.proofs.Texts as r
use Rattle.sd_parse.proofs.Texts.{Wanted, wanted, Named, named, Counted, counted, Nothing, nothing, settle, Both, both, Repeat}
use Rattle.sd_parse.proofs.Spelling.{Spelled, spelled}
use Rattle.sd_parse.proofs.Tables.{is_number, is_name}
use Rattle.sd_parse.proofs.Heights.{positive_height}
use Rattle.sd_parse.proofs.Algebra.{Begins, AnswersStep, Answers, Rule, shift, bind, onto, chain, begins_map, begins_whole, answers_map, stop, stop_deep, into, fails, seq_at, seq, done, rule_into, want_rule, name_rule, number_rule, after, deeper_answers, many_rule, wide}

-- a phrase of this level, of height d at most
pub record Within (d : ℕ) (l : Level) (u : Tokens) (x : MeasuredExpr) : Type 0 where
  pub phrase : Phrase l u x.0 x.1 x.2
  pub low : x.1 ≤ d

pub within_wide : (d : ℕ) (l : Level) (u : Tokens) (x : MeasuredExpr) → Within d l u x → Within (wide d) l u x
within_wide d l u x w = record { phrase = w.phrase; low = let z = w.low in omega arith }

-- ---- a phrase that fits everywhere

module _ {u : Tokens} {e : Expr} {h : ℕ} {p : Place} (q : Phrase Prefix u e h p) where
  at_product : Phrase Product u e h p
  at_product = g.only refl q

  at_relation : Phrase Relation u e h p
  at_relation = g.sum (g.only refl at_product)

  at_junction : Phrase Junction u e h p
  at_junction = g.all (g.only refl at_relation)

  at_implication : Phrase Implication u e h p
  at_implication = g.implies (g.last at_junction)

  pub at_whole : Phrase Whole u e h p
  at_whole = g.only refl at_implication

module _ {u : Tokens} {e : Expr} {h : ℕ} {p : Place} (q : Phrase Atom u e h p) where
  at_prefix : Phrase Prefix u e h p
  at_prefix = g.postfix (g.atom q)

  pub everywhere : (l : Level) → Phrase l u e h p
  everywhere Whole = at_whole at_prefix
  everywhere Implication = at_implication at_prefix
  everywhere Right = g.last (at_junction at_prefix)
  everywhere Explied = g.only refl (at_junction at_prefix)
  everywhere Junction = at_junction at_prefix
  everywhere Conjunction = g.only refl (at_relation at_prefix)
  everywhere Disjunction = g.only refl (at_relation at_prefix)
  everywhere Relation = at_relation at_prefix
  everywhere Sum = g.only refl (at_product at_prefix)
  everywhere Product = at_product at_prefix
  everywhere Prefix = at_prefix
  everywhere Postfix = g.atom q
  everywhere Atom = q

abbrev pub filler : Token
filler = (spelled s.True refl).token

abbrev pub filler_value : MeasuredExpr
filler_value = (placed filler.at (Truth true), 1, filler.at)

pub filled : (l : Level) → Phrase l (filler ∷ []) (placed filler.at (Truth true)) 1 filler.at
filled l = everywhere (g.yes (spelled s.True refl).is) l

pub begins_filler : (b : ℕ) (l : Level) → 1 ≤ b → Begins (Within b l) []
begins_filler b l f = record { more = filler ∷ []; value = filler_value; spelt = record { phrase = filled l; low = f } }

-- ---- expressions with commas

pub record Listed (b : ℕ) (u : Tokens) (xs : Group) : Type 0 where
  pub expressions : Expressions u xs.0 xs.1
  pub low : xs.1 ≤ b

-- what may stand between the parentheses of an application
pub record Given (b : ℕ) (u : Tokens) (xs : Group) : Type 0 where
  pub arguments : Arguments u xs.0 xs.1
  pub low : xs.1 ≤ b

-- one expression more, after a comma
abbrev pub Next : ℕ → Tokens → MeasuredExpr → Type 0
Next b = Both (Wanted s.Comma) (λ _. Within b Whole)

snoc : {c : Token} {v : Tokens} {e : Expr} {k : ℕ} {p : Place} → Is s.Comma c → Phrase Whole v e k p → {u : Tokens} {es : List Expr} {h : ℕ} → Expressions u es h → Expressions (u ++ c ∷ v) (es ++ e ∷ []) (max h k)
snoc i q (g.one a) = g.more a i (g.one q)
snoc {c = c} {v = v} {e = e} {k = k} i q (g.more {c = o} {u = w} {v = z} {e = f} {es = es} {h = h} {k = j} a t m) =
    let high : max h (max j k) ≡ max (max h j) k = omega arith in
    subst (λ z. Expressions z (f ∷ es ++ e ∷ []) (max (max h j) k)) (sym (append_assoc w (o ∷ z) (c ∷ v))) (subst (λ n. Expressions (w ++ o ∷ (z ++ c ∷ v)) (f ∷ es ++ e ∷ []) n) high (g.more a t (snoc i q m)))

append_next : (b : ℕ) (u v : Tokens) (xs : Group) (x : MeasuredExpr) → Listed b u xs → Next b v x → Listed b (u ++ v) (add xs x)
append_next b u v xs x w (both (wanted c) y) = record { expressions = snoc c y.phrase w.expressions; low = let z = w.low in let k = y.low in omega arith }

pub gather : (b : ℕ) {acc ys : Group} {v : Tokens} → Repeat (Next b) comma add acc v ys → (u : Tokens) → Listed b u acc → Listed b (u ++ v) ys
gather b {acc = acc} r.none u w = subst (λ z. Listed b z acc) (sym (append-nil u)) w
gather b {acc = acc} {ys = ys} (r.more {u = v} {v = z} {x = x} f m) u w = subst (λ z. Listed b z ys) (append_assoc u v z) (gather b m (u ++ v) (append_next b u v acc x w f))

abbrev Separated : ℕ → Tokens → Group → Type 0
Separated b = Both (Within b Whole) (λ x. Repeat (Next b) comma add (x.0 ∷ [], x.1))

to_listed : (b : ℕ) (u : Tokens) (xs : Group) → Separated b u xs → Listed b u xs
to_listed b u xs (both {u = v} w m) = gather b m v (record { expressions = g.one w.phrase; low = w.low })

to_given : (b : ℕ) (u : Tokens) (xs : Group) → Listed b u xs → Given b u xs
to_given b u xs w = record { arguments = g.some w.expressions; low = w.low }

given_wide : (b : ℕ) (u : Tokens) (xs : Group) → Given b u xs → Given (wide b) u xs
given_wide b u xs w = record { arguments = w.arguments; low = let z = w.low in omega arith }

listed_wide : (b : ℕ) (u : Tokens) (xs : Group) → Listed b u xs → Listed (wide b) u xs
listed_wide b u xs w = record { expressions = w.expressions; low = let z = w.low in omega arith }

comma_is : (x : TokenClass) → comma x ≡ true → x ≡ s.Comma
comma_is s.Comma e = refl
comma_is _ e = absurd (cc)

bracket_is : (x : TokenClass) → opens_bracket x ≡ true → x ≡ s.OpenBracket
bracket_is s.OpenBracket e = refl
bracket_is _ e = absurd (cc)

-- ---- what begins an expression

-- a token that begins one has a text that goes on with it
pub begun : (d : ℕ) (t : Token) → begins (class t) ≡ true → Begins (Within (wide d) Whole) (t ∷ [])
begun d t e = by_class (class t) refl e
  where
    of_atom : (more : Tokens) (x : MeasuredExpr) → x.1 ≤ 2 → Phrase Atom (t ∷ more) x.0 x.1 x.2 → Begins (Within (wide d) Whole) (t ∷ [])
    of_atom more x small q = record { more = more; value = x; spelt = record { phrase = everywhere q Whole; low = omega arith } }

    of_prefix : (f : UnOp) → prefixes (class t) ≡ Some f → Begins (Within (wide d) Whole) (t ∷ [])
    of_prefix f o = record { more = filler ∷ []; value = (placed t.at (Unary f (placed filler.at (Truth true))), 2, t.at); spelt = record { phrase = at_whole (g.unary (record { operator = o }) (filled Prefix)); low = omega arith } }

    by_class : (x : TokenClass) → class t ≡ x → begins x ≡ true → Begins (Within (wide d) Whole) (t ∷ [])
    by_class s.Number i e = let n = is_number t i in of_atom [] (placed t.at (Num n.0), 1, t.at) (omega arith) (g.number n.1)
    by_class s.True i e = of_atom [] (placed t.at (Truth true), 1, t.at) (omega arith) (g.yes (record { same = i }))
    by_class s.False i e = of_atom [] (placed t.at (Truth false), 1, t.at) (omega arith) (g.no (record { same = i }))
    by_class s.Name i e = let n = is_name t i in of_atom [] (placed t.at (Var n.0), 1, t.at) (omega arith) (g.name n.1)
    by_class s.Old i e = of_atom ((spelled s.Open refl).token ∷ filler ∷ (spelled s.Close refl).token ∷ []) (placed t.at (Old (placed filler.at (Truth true))), 2, t.at) (omega arith) (g.old (record { same = i }) (spelled s.Open refl).is (filled Whole) (spelled s.Close refl).is)
    by_class s.Open i e = of_atom (filler ∷ (spelled s.Close refl).token ∷ []) (placed filler.at (Truth true), 2, t.at) (omega arith) (g.parens (record { same = i }) (filled Whole) (spelled s.Close refl).is)
    by_class s.Not i e = of_prefix _ (ap prefixes i)
    by_class s.Minus i e = of_prefix _ (ap prefixes i)
    by_class _ i e = absurd (cc)

-- no phrase has height 0
abbrev pub ground : Reader MeasuredExpr
ground ts = cond {A = Reader MeasuredExpr} (begins (class_of (ahead ts))) (λ ts. Bad Deep ts) (λ ts. Bad Syntax ts) ts

module _ (d : ℕ) (inner : Level → Reader MeasuredExpr) (law : 1 ≤ d → (l : Level) → Rule (Within d l) (Within (wide d) l) (inner l)) (floor : d ≡ 0 → (l : Level) (ts : Tokens) → inner l ts ≡ ground ts) where
  -- ---- lists

  next_answers : 1 ≤ d → (ts : Tokens) → comma (class_of (ahead ts)) ≡ true → Answers (Next d) (Next (wide d)) ts (next_expression d inner ts)
  unfolding next_expression
  next_answers pos ts e = after s.Comma (spelled s.Comma refl) ts (comma_is (class_of (ahead ts)) e) (λ _. law pos Whole)

  next_up : (u : Tokens) (x : MeasuredExpr) → Next d u x → Next (wide d) u x
  next_up u x (both i w) = both i (within_wide d Whole _ _ w)

  more_rule : 1 ≤ d → (xs : Group) → Rule (Repeat (Next d) comma add xs) (Repeat (Next (wide d)) comma add xs) (more_expressions d inner xs)
  unfolding more_expressions
  more_rule pos xs =
      let at : (n : ℕ) → Rule (Repeat (Next d) comma add xs) (Repeat (Next (wide d)) comma add xs) (many comma (next_expression d inner) add n xs) = λ n. many_rule (Next d) (Next (wide d)) comma (next_expression d inner) add next_up (next_answers pos) n xs in
      record { least = (at 0).least; up = (at 0).up; answers = λ ts. (at (suc (length ts))).answers ts }

  pub expressions_rule : 1 ≤ d → Rule (Listed d) (Listed (wide d)) (expressions d inner)
  unfolding expressions
  expressions_rule pos = rule_into (to_listed d) (to_listed (wide d)) (listed_wide d) (seq (law pos Whole) (λ x. more_rule pos (x.0 ∷ [], x.1)))

  no_arguments : (b : ℕ) → Begins (Given b) []
  no_arguments b = record { more = []; value = ([], 0); spelt = record { arguments = g.none; low = omega arith } }

  -- without room for an argument
  low_expressions : d ≡ 0 → (ts : Tokens) → Answers (Given d) (Given (wide d)) ts (expressions d inner ts)
  unfolding expressions
  low_expressions z ts = subst (λ step. Answers (Given d) (Given (wide d)) ts (and_then step (λ x. more_expressions d inner (x.0 ∷ [], x.1)))) (sym (floor z Whole ts)) (by_test (begins (class_of (ahead ts))) ts refl)
    where
      by_test : (b : Bool) (ts : Tokens) → begins (class_of (ahead ts)) ≡ b → Answers (Given d) (Given (wide d)) ts (and_then (cond {A = Reader MeasuredExpr} b (λ ts. Bad Deep ts) (λ ts. Bad Syntax ts) ts) (λ x. more_expressions d inner (x.0 ∷ [], x.1)))
      by_test true [] e = absurd (cc)
      by_test true (t ∷ ts) e = record { fact = stop_deep (Given d) (Given (wide d)) [] t ts (no_arguments d) (begins_map (Within (wide d) Whole) (Given (wide d)) (λ x. (x.0 ∷ [], x.1)) (t ∷ []) (λ u x w. record { arguments = g.some (g.one w.phrase); low = w.low }) (begun d t e)) }
      by_test false ts e = fails (no_arguments d)

  arguments_rule : Rule (Given d) (Given (wide d)) (arguments d inner)
  unfolding arguments
  arguments_rule = record { least = no_arguments d; up = given_wide d; answers = λ ts. by_class ts (class_of (ahead ts)) }
    where
      by_room : (n : ℕ) → d ≡ n → (ts : Tokens) → Answers (Given d) (Given (wide d)) ts (expressions d inner ts)
      by_room zero z ts = low_expressions z ts
      by_room (suc n) z ts = into (to_given d) (to_given (wide d)) ((expressions_rule (omega arith)).answers ts)

      by_class : (ts : Tokens) (x : TokenClass) → Answers (Given d) (Given (wide d)) ts (arguments_by d inner x ts)
      by_class ts s.Close = record { fact = ([], refl, record { arguments = g.none; low = omega arith }) }
      by_class ts _ = by_room d refl ts

  -- ---- atoms

  abbrev InParentheses : ℕ → Tokens → MeasuredExpr → Type 0
  InParentheses b = Both (Wanted s.Open) (λ p. Both (Within b Whole) (λ x. Both (Wanted s.Close) (λ _. Nothing (x.0, suc x.1, p))))

  to_parentheses : (b : ℕ) (u : Tokens) (x : MeasuredExpr) → InParentheses b u x → Within (suc b) Atom u x
  to_parentheses b u x (both (wanted o) (both {x = y} w (both (wanted c) nothing))) = record { phrase = g.parens o w.phrase c; low = (let z = w.low in omega arith) }

  parentheses_begin : (t : Token) → Is s.Open t → Begins (Within (wide (suc d)) Atom) (t ∷ [])
  parentheses_begin t i = record { more = filler ∷ (spelled s.Close refl).token ∷ []; value = (placed filler.at (Truth true), 2, t.at); spelt = record { phrase = g.parens i (filled Whole) (spelled s.Close refl).is; low = omega arith } }

  parenthesized_law : (ts : Tokens) → class_of (ahead ts) ≡ s.Open → Answers (Within (suc d) Atom) (Within (wide (suc d)) Atom) ts (parenthesized d inner ts)
  unfolding parenthesized
  parenthesized_law ts e = deeper_answers s.Open (spelled s.Open refl) d (λ ts. and_then (skip ts) (λ p ts. and_then (inner Whole ts) (λ x ts. and_then (want s.Close ts) (λ _ ts. Got (x.0, suc x.1, p) ts)))) ts e
      (begins_filler (suc d) Atom (omega arith)) parentheses_begin
      (λ pos. into (to_parentheses d) (to_parentheses (wide d)) (after s.Open (spelled s.Open refl) ts e (λ p. seq (law pos Whole) (λ x. seq (want_rule s.Close (spelled s.Close refl)) (λ _. done (x.0, suc x.1, p))))))

  abbrev OldText : ℕ → Tokens → MeasuredExpr → Type 0
  OldText b = Both (Wanted s.Old) (λ p. Both (Wanted s.Open) (λ _. Both (Within b Whole) (λ x. Both (Wanted s.Close) (λ _. Nothing (placed p (Old x.0), suc x.1, p)))))

  to_old : (b : ℕ) (u : Tokens) (x : MeasuredExpr) → OldText b u x → Within (suc b) Atom u x
  to_old b u x (both (wanted {t = t} i) (both (wanted {t = o} j) (both {u = v} {x = y} w (both (wanted {t = c} k) n)))) = settle n (λ z x. Within (suc b) Atom (t ∷ o ∷ (v ++ c ∷ z)) x) (record { phrase = g.old i j w.phrase k; low = (let z = w.low in omega arith) })

  old_begins : (t : Token) → Is s.Old t → Begins (Within (wide (suc d)) Atom) (t ∷ [])
  old_begins t i = record { more = (spelled s.Open refl).token ∷ filler ∷ (spelled s.Close refl).token ∷ []; value = (placed t.at (Old (placed filler.at (Truth true))), 2, t.at); spelt = record { phrase = g.old i (spelled s.Open refl).is (filled Whole) (spelled s.Close refl).is; low = omega arith } }

  old_law : (ts : Tokens) → class_of (ahead ts) ≡ s.Old → Answers (Within (suc d) Atom) (Within (wide (suc d)) Atom) ts (spec.old d inner ts)
  unfolding spec.old
  old_law ts e = deeper_answers s.Old (spelled s.Old refl) d (λ ts. and_then (skip ts) (λ p ts. and_then (want s.Open ts) (λ _ ts. and_then (inner Whole ts) (λ x ts. and_then (want s.Close ts) (λ _ ts. Got (placed p (Old x.0), suc x.1, p) ts))))) ts e
      (begins_filler (suc d) Atom (omega arith)) old_begins
      (λ pos. into (to_old d) (to_old (wide d)) (after s.Old (spelled s.Old refl) ts e (λ p. seq (want_rule s.Open (spelled s.Open refl)) (λ _. seq (law pos Whole) (λ x. seq (want_rule s.Close (spelled s.Close refl)) (λ _. done (placed p (Old x.0), suc x.1, p)))))))

  abbrev ApplicationText : ℕ → Text × Place → Tokens → MeasuredExpr → Type 0
  ApplicationText b f = Both (Wanted s.Open) (λ _. Both (Given b) (λ xs. Both (Wanted s.Close) (λ _. Nothing (placed f.1 (Apply f.0 xs.0), suc xs.1, f.1))))

  -- what may follow a name
  data AfterName (b : ℕ) (f : Text × Place) : Tokens → MeasuredExpr → Type 0 where
    alone : AfterName b f [] (placed f.1 (Var f.0), 1, f.1)
    applied : {u : Tokens} {x : MeasuredExpr} → ApplicationText b f u x → AfterName b f u x

  application_up : (f : Text × Place) (u : Tokens) (x : MeasuredExpr) → ApplicationText d f u x → ApplicationText (wide d) f u x
  application_up f u x (both o (both w c)) = both o (both (given_wide d _ _ w) c)

  name_up : (f : Text × Place) (u : Tokens) (x : MeasuredExpr) → AfterName d f u x → AfterName (wide d) f u x
  name_up f u x alone = alone
  name_up f u x (applied {u = v} {x = y} a) = applied (application_up f v y a)

  application_law : (f : Text × Place) (ts : Tokens) → class_of (ahead ts) ≡ s.Open → Answers (ApplicationText d f) (ApplicationText (wide d) f) ts (application d inner f ts)
  unfolding application
  application_law f ts e = after s.Open (spelled s.Open refl) ts e (λ _. seq arguments_rule (λ xs. seq (want_rule s.Close (spelled s.Close refl)) (λ _. done (placed f.1 (Apply f.0 xs.0), suc xs.1, f.1))))

  after_name : (f : Text × Place) → Rule (AfterName d f) (AfterName (wide d) f) (λ ts. named_by d inner f (class_of (ahead ts)) ts)
  after_name f = record {
    least = record { more = []; value = (placed f.1 (Var f.0), 1, f.1); spelt = alone };
    up = name_up f;
    answers = λ ts. by_class ts (class_of (ahead ts)) refl;
  }
    where
      by_class : (ts : Tokens) (x : TokenClass) → class_of (ahead ts) ≡ x → Answers (AfterName d f) (AfterName (wide d) f) ts (named_by d inner f x ts)
      by_class ts s.Open e = into (λ u x a. applied a) (λ u x a. applied a) (application_law f ts e)
      by_class ts _ e = record { fact = ([], refl, alone) }

  to_name : (b : ℕ) (u : Tokens) (x : MeasuredExpr) → Both Named (AfterName b) u x → Within (suc b) Atom u x
  to_name b u x (both (named i) alone) = record { phrase = g.name i; low = omega arith }
  to_name b u x (both (named {t = t} {x = f} i) (applied (both (wanted {t = o} j) (both {u = v} {x = xs} w (both (wanted {t = c} k) n))))) =
      settle n (λ z x. Within (suc b) Atom (t ∷ o ∷ (v ++ c ∷ z)) x) (record { phrase = g.application i j w.arguments k; low = (let z = w.low in omega arith) })

  named_law : (ts : Tokens) → Answers (Within (suc d) Atom) (Within (wide (suc d)) Atom) ts (spec.named d inner ts)
  unfolding spec.named
  named_law ts = into (to_name d) (to_name (wide d)) ((seq name_rule after_name).answers ts)

  to_number : (b : ℕ) (u : Tokens) (x : MeasuredExpr) → Both Counted (λ n. Nothing (placed n.1 (Num n.0), 1, n.1)) u x → Within (suc b) Atom u x
  to_number b u x (both (counted i) nothing) = record { phrase = g.number i; low = omega arith }

  to_true : (b : ℕ) (u : Tokens) (x : MeasuredExpr) → Both (Wanted s.True) (λ p. Nothing (placed p (Truth true), 1, p)) u x → Within (suc b) Atom u x
  to_true b u x (both (wanted i) nothing) = record { phrase = g.yes i; low = omega arith }

  to_false : (b : ℕ) (u : Tokens) (x : MeasuredExpr) → Both (Wanted s.False) (λ p. Nothing (placed p (Truth false), 1, p)) u x → Within (suc b) Atom u x
  to_false b u x (both (wanted i) nothing) = record { phrase = g.no i; low = omega arith }

  atom_law : (ts : Tokens) → Answers (Within (suc d) Atom) (Within (wide (suc d)) Atom) ts (atom d inner ts)
  unfolding atom
  atom_law ts = by_class (class_of (ahead ts)) refl
    where
      by_class : (x : TokenClass) → class_of (ahead ts) ≡ x → Answers (Within (suc d) Atom) (Within (wide (suc d)) Atom) ts (atom_by d inner x ts)
      by_class s.Number e = into (to_number d) (to_number (wide d)) ((seq number_rule (λ n. done (placed n.1 (Num n.0), 1, n.1))).answers ts)
      by_class s.True e = into (to_true d) (to_true (wide d)) (after s.True (spelled s.True refl) ts e (λ p. done (placed p (Truth true), 1, p)))
      by_class s.False e = into (to_false d) (to_false (wide d)) (after s.False (spelled s.False refl) ts e (λ p. done (placed p (Truth false), 1, p)))
      by_class s.Name e = named_law ts
      by_class s.Old e = old_law ts e
      by_class s.Open e = parenthesized_law ts e
      by_class _ e = fails (begins_filler (suc d) Atom (omega arith))

  -- ---- brackets

  -- what may follow an index
  data AfterIndex (b : ℕ) (m i : MeasuredExpr) : Tokens → MeasuredExpr → Type 0 where
    closed : {u : Tokens} {x : MeasuredExpr} → Both (Wanted s.CloseBracket) (λ _. Nothing (spec.select m i)) u x → AfterIndex b m i u x
    written : {u : Tokens} {x : MeasuredExpr} → Both (Wanted s.Becomes) (λ _. Both (Within b Whole) (λ v. Both (Wanted s.CloseBracket) (λ _. Nothing (spec.store m i v)))) u x → AfterIndex b m i u x

  abbrev BracketText : ℕ → MeasuredExpr → Tokens → MeasuredExpr → Type 0
  BracketText b m = Both (Wanted s.OpenBracket) (λ _. Both (Within b Whole) (λ i. AfterIndex b m i))

  -- m and brackets, which is higher than m
  record Higher (b : ℕ) (h : ℕ) (u : Tokens) (x : MeasuredExpr) : Type 0 where
    fits : Within b Postfix u x
    more : h < x.1

  written_up : (m i : MeasuredExpr) (u : Tokens) (x : MeasuredExpr) → Both (Wanted s.Becomes) (λ _. Both (Within d Whole) (λ v. Both (Wanted s.CloseBracket) (λ _. Nothing (spec.store m i v)))) u x
      → Both (Wanted s.Becomes) (λ _. Both (Within (wide d) Whole) (λ v. Both (Wanted s.CloseBracket) (λ _. Nothing (spec.store m i v)))) u x
  written_up m i u x (both o (both w c)) = both o (both (within_wide d Whole _ _ w) c)

  index_up : (m i : MeasuredExpr) (u : Tokens) (x : MeasuredExpr) → AfterIndex d m i u x → AfterIndex (wide d) m i u x
  index_up m i u x (closed c) = closed c
  index_up m i u x (written {u = v} {x = y} w) = written (written_up m i v y w)

  index_rule : 1 ≤ d → (m i : MeasuredExpr) → Rule (AfterIndex d m i) (AfterIndex (wide d) m i) (indexed d inner m i)
  unfolding indexed
  index_rule pos m i = record {
    least = begins_map (Both (Wanted s.CloseBracket) (λ _. Nothing (spec.select m i))) (AfterIndex d m i) (λ x. x) [] (λ u x c. closed c) close.least;
    up = index_up m i;
    answers = λ ts. by_class ts (class_of (ahead ts)) refl;
  }
    where
      close : Rule (Both (Wanted s.CloseBracket) (λ _. Nothing (spec.select m i))) (Both (Wanted s.CloseBracket) (λ _. Nothing (spec.select m i))) (λ ts. and_then (want s.CloseBracket ts) (λ _ ts. Got (spec.select m i) ts))
      close = seq (want_rule s.CloseBracket (spelled s.CloseBracket refl)) (λ _. done (spec.select m i))

      by_class : (ts : Tokens) (x : TokenClass) → class_of (ahead ts) ≡ x → Answers (AfterIndex d m i) (AfterIndex (wide d) m i) ts (indexed_by d inner m i x ts)
      by_class ts s.Becomes e = into (λ u x w. written w) (λ u x w. written w) (after s.Becomes (spelled s.Becomes refl) ts e (λ _. seq (law pos Whole) (λ v. seq (want_rule s.CloseBracket (spelled s.CloseBracket refl)) (λ _. done (spec.store m i v)))))
      by_class ts _ e = into (λ u x c. closed c) (λ u x c. closed c) (close.answers ts)

  bracket_law : 1 ≤ d → (m : MeasuredExpr) (ts : Tokens) → class_of (ahead ts) ≡ s.OpenBracket → Answers (BracketText d m) (BracketText (wide d) m) ts (bracket_by d inner true m ts)
  bracket_law pos m ts e = after s.OpenBracket (spelled s.OpenBracket refl) ts e (λ _. seq (law pos Whole) (index_rule pos m))

  selected : (b : ℕ) (m : MeasuredExpr) (pre : Tokens) → Phrase Postfix pre m.0 m.1 m.2 → m.1 ≤ b → {o : Token} → Is s.OpenBracket o → {v : Tokens} (i : MeasuredExpr) → Within b Whole v i → {w : Tokens} {x : MeasuredExpr} → Both (Wanted s.CloseBracket) (λ _. Nothing (spec.select m i)) w x → Higher (suc b) m.1 (pre ++ o ∷ (v ++ w)) x
  selected b m pre q low {o = o} j {v = v} i y (both (wanted {t = c} k) n) =
      settle n (λ z x. Higher (suc b) m.1 (pre ++ o ∷ (v ++ c ∷ z)) x) (record { fits = record { phrase = g.select q j y.phrase k; low = (let z = y.low in omega arith) }; more = omega arith })

  stored : (b : ℕ) (m : MeasuredExpr) (pre : Tokens) → Phrase Postfix pre m.0 m.1 m.2 → m.1 ≤ b → {o : Token} → Is s.OpenBracket o → {v : Tokens} (i : MeasuredExpr) → Within b Whole v i → {w : Tokens} {x : MeasuredExpr}
      → Both (Wanted s.Becomes) (λ _. Both (Within b Whole) (λ v. Both (Wanted s.CloseBracket) (λ _. Nothing (spec.store m i v)))) w x → Higher (suc b) m.1 (pre ++ o ∷ (v ++ w)) x
  stored b m pre q low {o = o} j {v = v} i y (both (wanted {t = a} l) (both {u = r} {x = e} w (both (wanted {t = c} k) n))) =
      settle n (λ z x. Higher (suc b) m.1 (pre ++ o ∷ (v ++ a ∷ (r ++ c ∷ z))) x)
      (record { fits = record { phrase = g.store q j y.phrase l w.phrase k; low = (let z = y.low in let k = w.low in omega arith) }; more = omega arith })

  to_higher : (b : ℕ) (m : MeasuredExpr) (pre : Tokens) → Phrase Postfix pre m.0 m.1 m.2 → m.1 ≤ b → (u : Tokens) (x : MeasuredExpr) → BracketText b m u x → Higher (suc b) m.1 (pre ++ u) x
  to_higher b m pre q low u x (both (wanted j) (both {x = i} y (closed c))) = selected b m pre q low j i y c
  to_higher b m pre q low u x (both (wanted j) (both {x = i} y (written c))) = stored b m pre q low j i y c

  higher_fits : (b : ℕ) (h : ℕ) (u : Tokens) → Begins (Higher b h) u → Begins (Within b Postfix) u
  higher_fits b h u w = begins_map (Higher b h) (Within b Postfix) (λ x. x) u (λ v x z. z.fits) w

  bracket_begins : (m : MeasuredExpr) (pre : Tokens) (t : Token) → Within (suc d) Postfix pre m → class t ≡ s.OpenBracket → Begins (Within (wide (suc d)) Postfix) (pre ++ t ∷ [])
  bracket_begins m pre t w e = record {
    more = filler ∷ (spelled s.CloseBracket refl).token ∷ [];
    value = spec.select m filler_value;
    spelt = subst (λ z. Within (wide (suc d)) Postfix z (spec.select m filler_value)) (sym (append_assoc pre (t ∷ []) (filler ∷ (spelled s.CloseBracket refl).token ∷ []))) (record { phrase = g.select w.phrase (record { same = e }) (filled Whole) (spelled s.CloseBracket refl).is; low = let z = w.low in omega arith });
  }

  brackets_law : (n : ℕ) (m : MeasuredExpr) (pre ts : Tokens) → suc (suc d) ≤ m.1 + n → Within (suc d) Postfix pre m → AnswersStep (Within (suc d) Postfix) (Within (wide (suc d)) Postfix) pre ts (brackets d inner n m ts)
  unfolding brackets bracket
  brackets_law zero m pre ts room w = absurd (let k = w.low in omega arith)
  brackets_law (suc n) m pre ts room w = by_test (opens_bracket (class_of (ahead ts))) refl (λ x u rest less z. brackets_law n x u rest (omega arith) z)
    where
      by_room : (b : Bool) (ts : Tokens) → nat_lt m.1 (suc d) ≡ b → class_of (ahead ts) ≡ s.OpenBracket
          → ((x : MeasuredExpr) (u rest : Tokens) → m.1 < x.1 → Within (suc d) Postfix u x → AnswersStep (Within (suc d) Postfix) (Within (wide (suc d)) Postfix) u rest (brackets d inner n x rest))
          → AnswersStep (Within (suc d) Postfix) (Within (wide (suc d)) Postfix) pre ts (and_then (bracket_by d inner b m ts) (brackets d inner n))
      by_room true ts e i next =
          let low : m.1 ≤ d = grind (arith, nat_tests) in
          let pos : 1 ≤ d = let z = positive_height w.phrase in omega arith in
          chain (Higher (suc d) m.1) (Higher (wide (suc d)) m.1) (Within (suc d) Postfix) (Within (wide (suc d)) Postfix) pre ts (bracket_by d inner true m ts) (brackets d inner n)
          (onto (BracketText d m) (BracketText (wide d) m) (Higher (suc d) m.1) (Higher (wide (suc d)) m.1) pre ts (bracket_by d inner true m ts) (to_higher d m pre w.phrase low) (to_higher (wide d) m pre w.phrase (omega arith)) (bracket_law pos m ts i).fact)
          (higher_fits (suc d) m.1) (higher_fits (wide (suc d)) m.1) (λ x u rest z. next x u rest z.more z.fits)
      by_room false [] e i next = absurd (cc)
      by_room false (t ∷ ts) e i next = stop_deep (Within (suc d) Postfix) (Within (wide (suc d)) Postfix) pre t ts (begins_whole (Within (suc d) Postfix) pre m w) (bracket_begins m pre t w i)

      by_test : (b : Bool) → opens_bracket (class_of (ahead ts)) ≡ b
          → ((x : MeasuredExpr) (u rest : Tokens) → m.1 < x.1 → Within (suc d) Postfix u x → AnswersStep (Within (suc d) Postfix) (Within (wide (suc d)) Postfix) u rest (brackets d inner n x rest))
          → AnswersStep (Within (suc d) Postfix) (Within (wide (suc d)) Postfix) pre ts (brackets_by d inner (brackets d inner n) m b ts)
      by_test true e next = by_room (nat_lt m.1 (suc d)) ts refl (bracket_is (class_of (ahead ts)) e) next
      by_test false e next = stop (Within (suc d) Postfix) (Within (wide (suc d)) Postfix) pre ts m w

  -- a phrase of another level, and what follows it
  then_law : (from to : Level) (step : Step MeasuredExpr) (f : MeasuredExpr → Reader MeasuredExpr) (ts : Tokens) → ((u : Tokens) (e : Expr) (h : ℕ) (p : Place) → Phrase from u e h p → Phrase to u e h p)
      → Answers (Within (suc d) from) (Within (wide (suc d)) from) ts step
      → ((x : MeasuredExpr) (u rest : Tokens) → Within (suc d) from u x → AnswersStep (Within (suc d) to) (Within (wide (suc d)) to) u rest (f x rest)) → Answers (Within (suc d) to) (Within (wide (suc d)) to) ts (and_then step f)
  then_law from to step f ts lift a next = record { fact = bind (Within (suc d) from) (Within (wide (suc d)) from) (Within (suc d) to) (Within (wide (suc d)) to) [] ts step f a.fact (begun_as (suc d)) (begun_as (wide (suc d))) next }
    where
      begun_as : (b : ℕ) (u : Tokens) → Begins (Within b from) u → Begins (Within b to) u
      begun_as b u w = begins_map (Within b from) (Within b to) (λ x. x) u (λ v x z. record { phrase = lift _ _ _ _ z.phrase; low = z.low }) w

  postfix_law : (ts : Tokens) → Answers (Within (suc d) Postfix) (Within (wide (suc d)) Postfix) ts (spec.postfix d inner ts)
  unfolding spec.postfix
  postfix_law ts = then_law Atom Postfix (atom d inner ts) (brackets d inner (suc d)) ts (λ u e h p q. g.atom q) (atom_law ts)
      (λ x u rest w. brackets_law (suc d) x u rest (let z = positive_height w.phrase in omega arith) (record { phrase = g.atom w.phrase; low = w.low }))

  -- ---- prefixes

  -- a token that is this prefix operator
  data Operator (f : UnOp) : Tokens → Place → Type 0 where
    operator : {t : Token} → g.Prefixes t f → Operator f (t ∷ []) t.at

  abbrev PrefixText : ℕ → UnOp → Tokens → MeasuredExpr → Type 0
  PrefixText b f = Both (Operator f) (λ p. Both (Within b Prefix) (λ x. Nothing (placed p (Unary f x.0), suc x.1, p)))

  to_prefixed : (b : ℕ) (f : UnOp) (u : Tokens) (x : MeasuredExpr) → PrefixText b f u x → Within (suc b) Prefix u x
  to_prefixed b f u x (both (operator {t = t} i) (both {u = v} {x = y} w n)) = settle n (λ z x. Within (suc b) Prefix (t ∷ (v ++ z)) x) (record {
    phrase = subst (λ z. Phrase Prefix (t ∷ z) (placed t.at (Unary f y.0)) (suc y.1) t.at) (sym (append-nil v)) (g.unary i w.phrase);
    low = (let z = w.low in omega arith);
  })

  prefixed_law : (f : UnOp) (ts : Tokens) → prefixes (class_of (ahead ts)) ≡ Some f → Answers (Within (suc d) Prefix) (Within (wide (suc d)) Prefix) ts (prefixed d inner f ts)
  unfolding prefixed
  prefixed_law f [] e = absurd (cc)
  prefixed_law f (t ∷ ts) e = by_depth d refl
    where
      is : g.Prefixes t f
      is = record { operator = e }

      by_depth : (n : ℕ) → d ≡ n → Answers (Within (suc d) Prefix) (Within (wide (suc d)) Prefix) (t ∷ ts) (spec.deeper {A = MeasuredExpr} n (λ ts. and_then (skip ts) (λ p ts. and_then (inner Prefix ts) (λ x ts. Got (placed p (Unary f x.0), suc x.1, p) ts))) (t ∷ ts))
      by_depth zero z = record { fact = stop_deep (Within (suc d) Prefix) (Within (wide (suc d)) Prefix) [] t ts (begins_filler (suc d) Prefix (omega arith)) (record { more = filler ∷ []; value = (placed t.at (Unary f (placed filler.at (Truth true))), 2, t.at); spelt = record { phrase = g.unary is (filled Prefix); low = omega arith } }) }
      by_depth (suc n) z = into (to_prefixed d f) (to_prefixed (wide d) f) (seq_at {F = Operator f} {V = Operator f} {step = Got t.at ts} (λ u p i. i) (record { fact = (t ∷ [], refl, operator is) }) (λ p. seq (law (omega arith) Prefix) (λ x. done (placed p (Unary f x.0), suc x.1, p))))

  prefix_law : (ts : Tokens) → Answers (Within (suc d) Prefix) (Within (wide (suc d)) Prefix) ts (prefix d inner ts)
  unfolding prefix
  prefix_law ts = by_operator (prefixes (class_of (ahead ts))) refl
    where
      by_operator : (o : Option UnOp) → prefixes (class_of (ahead ts)) ≡ o → Answers (Within (suc d) Prefix) (Within (wide (suc d)) Prefix) ts (prefix_by d inner o ts)
      by_operator None e = into (λ v x w. record { phrase = g.postfix w.phrase; low = w.low }) (λ v x w. record { phrase = g.postfix w.phrase; low = w.low }) (postfix_law ts)
      by_operator (Some f) e = prefixed_law f ts e

  -- ---- operators between phrases

  -- x, an operator and its right side
  operation_true : (l result : Level) (next : MeasuredExpr → Reader MeasuredExpr) (x : MeasuredExpr) (f : BinOp) (pre : Tokens) (t : Token) (ts : Tokens) → 1 ≤ x.1 → x.1 ≤ d
      → ((v : Tokens) (y : MeasuredExpr) → Phrase l v y.0 y.1 y.2 → Phrase result (pre ++ t ∷ v) (placed x.2 (Binary f x.0 y.0)) (suc (max x.1 y.1)) x.2)
      → ((y : MeasuredExpr) (v rest : Tokens) → Within (suc d) result (pre ++ t ∷ v) (join f x y) → x.1 < suc (max x.1 y.1) → AnswersStep (Within (suc d) result) (Within (wide (suc d)) result) (pre ++ t ∷ v) rest (next (join f x y) rest))
      → AnswersStep (Within (suc d) result) (Within (wide (suc d)) result) (pre ++ t ∷ []) ts (and_then (inner l ts) (λ y. next (join f x y)))
  operation_true l result next x f pre t ts pos low build next_law =
      bind (Within d l) (Within (wide d) l) (Within (suc d) result) (Within (wide (suc d)) result) (pre ++ t ∷ []) ts (inner l ts) (λ y. next (join f x y)) ((law (omega arith) l).answers ts).fact
      (λ u b. record { more = b.more; value = join f x b.value; spelt = regroup (suc d) u b.more b.value (record { phrase = build (u ++ b.more) b.value b.spelt.phrase; low = let z = b.spelt.low in omega arith }) })
      (λ u b. record { more = b.more; value = join f x b.value; spelt = regroup (wide (suc d)) u b.more b.value (record { phrase = build (u ++ b.more) b.value b.spelt.phrase; low = let z = b.spelt.low in omega arith }) })
      (λ y u rest w. subst (λ v. AnswersStep (Within (suc d) result) (Within (wide (suc d)) result) v rest (next (join f x y) rest)) (sym (append_assoc pre (t ∷ []) u))
      (next_law y u rest (record { phrase = build u y w.phrase; low = let z = w.low in omega arith }) (omega arith)))
    where
      regroup : (b : ℕ) (u w : Tokens) (y : MeasuredExpr) → Within b result (pre ++ t ∷ (u ++ w)) (join f x y) → Within b result (((pre ++ t ∷ []) ++ u) ++ w) (join f x y)
      regroup b u w y z = subst (λ v. Within b result v (join f x y)) (sym (ap (λ v. v ++ w) (append_assoc pre (t ∷ []) u) ∙ append_assoc pre (t ∷ u) w)) z

  operation_law : (l result : Level) (next : MeasuredExpr → Reader MeasuredExpr) (x : MeasuredExpr) (f : BinOp) (pre : Tokens) (t : Token) (ts : Tokens)
      → 1 ≤ x.1 → Within (suc d) result pre x
      → ((v : Tokens) (y : MeasuredExpr) → Phrase l v y.0 y.1 y.2 → Phrase result (pre ++ t ∷ v) (placed x.2 (Binary f x.0 y.0)) (suc (max x.1 y.1)) x.2)
      → ((y : MeasuredExpr) (v rest : Tokens) → Within (suc d) result (pre ++ t ∷ v) (join f x y) → x.1 < suc (max x.1 y.1) → AnswersStep (Within (suc d) result) (Within (wide (suc d)) result) (pre ++ t ∷ v) rest (next (join f x y) rest))
      → AnswersStep (Within (suc d) result) (Within (wide (suc d)) result) pre (t ∷ ts) (operation d inner l next x f (t ∷ ts))
  unfolding operation
  operation_law l result next x f pre t ts pos w build next_law = by_test (nat_lt x.1 (suc d)) refl
    where
      by_test : (b : Bool) → nat_lt x.1 (suc d) ≡ b → AnswersStep (Within (suc d) result) (Within (wide (suc d)) result) pre (t ∷ ts) (operation_by d inner b l next x f (t ∷ ts))
      by_test true e = shift (Within (suc d) result) (Within (wide (suc d)) result) pre (t ∷ []) (t ∷ ts) ts (and_then (inner l ts) (λ y. next (join f x y))) refl
          (operation_true l result next x f pre t ts pos (grind (arith, nat_tests)) build next_law)
      by_test false e = stop_deep (Within (suc d) result) (Within (wide (suc d)) result) pre t ts (begins_whole (Within (suc d) result) pre x w) (record {
        more = filler ∷ [];
        value = join f x filler_value;
        spelt = subst (λ v. Within (wide (suc d)) result v (join f x filler_value)) (sym (append_assoc pre (t ∷ []) (filler ∷ []))) (record { phrase = build (filler ∷ []) filler_value (filled l); low = let z = w.low in omega arith });
      })

  other_repeats : (l : Level) (f : BinOp) → repeated l s.Other ≡ Some f → ⊥
  other_repeats Whole f e = cc
  other_repeats _ f e = cc

  turn_law : (l : Level) (next : MeasuredExpr → Reader MeasuredExpr) (x : MeasuredExpr) (pre ts : Tokens) → Within (suc d) l pre x
      → ((y : MeasuredExpr) (v rest : Tokens) → Within (suc d) l v y → x.1 < y.1 → AnswersStep (Within (suc d) l) (Within (wide (suc d)) l) v rest (next y rest))
      → AnswersStep (Within (suc d) l) (Within (wide (suc d)) l) pre ts (turn d inner l next x ts)
  turn_law l next x pre ts w next_law = by_operator (repeated l (class_of (ahead ts))) ts refl
    where
      by_operator : (o : Option BinOp) (ts : Tokens) → repeated l (class_of (ahead ts)) ≡ o → AnswersStep (Within (suc d) l) (Within (wide (suc d)) l) pre ts (turn_by d inner l next x o ts)
      by_operator None ts e = stop (Within (suc d) l) (Within (wide (suc d)) l) pre ts x w
      by_operator (Some f) [] e = absurd (other_repeats l f e)
      by_operator (Some f) (t ∷ ts) e = operation_law (operand l) l next x f pre t ts (positive_height w.phrase) w
          (λ v y p. g.repeat w.phrase (record { operator = e }) p)
          (λ y v rest z lt. next_law (join f x y) (pre ++ t ∷ v) rest z lt)

  turns_law : (n : ℕ) (l : Level) (x : MeasuredExpr) (pre ts : Tokens) → suc (suc d) ≤ x.1 + n → Within (suc d) l pre x → AnswersStep (Within (suc d) l) (Within (wide (suc d)) l) pre ts (turns d inner n l x ts)
  unfolding turns
  turns_law zero l x pre ts room w = absurd (let k = w.low in omega arith)
  turns_law (suc n) l x pre ts room w = turn_law l (turns d inner n l) x pre ts w (λ y v rest z lt. turns_law n l y v rest (omega arith) z)

  all_turns : (l : Level) (x : MeasuredExpr) (pre ts : Tokens) → Within (suc d) l pre x → AnswersStep (Within (suc d) l) (Within (wide (suc d)) l) pre ts (turns d inner (suc d) l x ts)
  all_turns l x pre ts w = turns_law (suc d) l x pre ts (let z = positive_height w.phrase in omega arith) w

  -- a phrase of the level below, and the operators that follow it
  chain_law : (l : Level) (step : Step MeasuredExpr) (ts : Tokens) → has_operand l ≡ true → Answers (Within (suc d) (operand l)) (Within (wide (suc d)) (operand l)) ts step → Answers (Within (suc d) l) (Within (wide (suc d)) l) ts (and_then step (turns d inner (suc d) l))
  chain_law l step ts has a = then_law (operand l) l step (turns d inner (suc d) l) ts (λ u e h p q. g.only has q) a (λ x u rest w. all_turns l x u rest (record { phrase = g.only has w.phrase; low = w.low }))

  -- ---- the levels

  product_law : (ts : Tokens) → Answers (Within (suc d) Product) (Within (wide (suc d)) Product) ts (product d inner ts)
  unfolding product
  product_law ts = chain_law Product (prefix d inner ts) ts refl (prefix_law ts)

  sum_law : (ts : Tokens) → Answers (Within (suc d) Sum) (Within (wide (suc d)) Sum) ts (sum d inner ts)
  unfolding sum
  sum_law ts = chain_law Sum (product d inner ts) ts refl (product_law ts)

  relation_law : (ts : Tokens) → Answers (Within (suc d) Relation) (Within (wide (suc d)) Relation) ts (relation d inner ts)
  unfolding relation
  relation_law ts = then_law Sum Relation (sum d inner ts) _ ts (λ u e h p q. g.sum q) (sum_law ts) (λ x u rest w. by_operator x u w (compares (class_of (ahead rest))) rest refl)
    where
      by_operator : (x : MeasuredExpr) (u : Tokens) → Within (suc d) Sum u x → (o : Option BinOp) (rest : Tokens) → compares (class_of (ahead rest)) ≡ o → AnswersStep (Within (suc d) Relation) (Within (wide (suc d)) Relation) u rest (comparison_by d inner x o rest)
      by_operator x u w None rest e = stop (Within (suc d) Relation) (Within (wide (suc d)) Relation) u rest x (record { phrase = g.sum w.phrase; low = w.low })
      by_operator x u w (Some f) [] e = absurd (cc)
      by_operator x u w (Some f) (t ∷ r) e = operation_law Sum Relation (λ x ts. Got x ts) x f u t r (positive_height w.phrase) (record { phrase = g.sum w.phrase; low = w.low })
          (λ v y p. g.compare w.phrase (record { operator = e }) p)
          (λ y v rest z lt. stop (Within (suc d) Relation) (Within (wide (suc d)) Relation) (u ++ t ∷ v) rest (join f x y) z)

  up : (from to : Level) (pre ts : Tokens) (step : Step MeasuredExpr) → ((u : Tokens) (e : Expr) (h : ℕ) (p : Place) → Phrase from u e h p → Phrase to u e h p) → AnswersStep (Within (suc d) from) (Within (wide (suc d)) from) pre ts step → AnswersStep (Within (suc d) to) (Within (wide (suc d)) to) pre ts step
  up from to pre ts step f a = answers_map (Within (suc d) from) (Within (wide (suc d)) from) (Within (suc d) to) (Within (wide (suc d)) to) pre ts step (λ v x w. record { phrase = f _ _ _ _ w.phrase; low = w.low }) (λ v x w. record { phrase = f _ _ _ _ w.phrase; low = w.low }) a

  junction_law : (ts : Tokens) → Answers (Within (suc d) Junction) (Within (wide (suc d)) Junction) ts (junction d inner ts)
  unfolding junction
  junction_law ts = then_law Relation Junction (relation d inner ts) _ ts (λ u e h p q. g.all (g.only refl q)) (relation_law ts) (λ x u rest w. by_class x u rest w (class_of (ahead rest)))
    where
      by_class : (x : MeasuredExpr) (u rest : Tokens) → Within (suc d) Relation u x → (y : TokenClass) → AnswersStep (Within (suc d) Junction) (Within (wide (suc d)) Junction) u rest (junction_by d inner x y rest)
      by_class x u rest w s.And = up Conjunction Junction u rest _ (λ u e h p q. g.all q) (all_turns Conjunction x u rest (record { phrase = g.only refl w.phrase; low = w.low }))
      by_class x u rest w _ = up Disjunction Junction u rest _ (λ u e h p q. g.any q) (all_turns Disjunction x u rest (record { phrase = g.only refl w.phrase; low = w.low }))

  implies_after : (result : Level) (x : MeasuredExpr) (u : Tokens) (rest : Tokens) → class_of (ahead rest) ≡ s.Implies → Within (suc d) Junction u x → ((u : Tokens) (e : Expr) (h : ℕ) (p : Place) → Phrase Right u e h p → Phrase result u e h p)
      → AnswersStep (Within (suc d) result) (Within (wide (suc d)) result) u rest (operation d inner Right (λ x ts. Got x ts) x op.Implies rest)
  implies_after result x u [] e w f = absurd (let z : s.Other ≡ s.Implies = e in cc)
  implies_after result x u (t ∷ r) e w f = operation_law Right result (λ x ts. Got x ts) x op.Implies u t r (positive_height w.phrase) (record { phrase = f _ _ _ _ (g.last w.phrase); low = w.low })
      (λ v y p. f _ _ _ _ (g.right w.phrase (record { same = e }) p))
      (λ y v rest z lt. stop (Within (suc d) result) (Within (wide (suc d)) result) (u ++ t ∷ v) rest (join op.Implies x y) z)

  right_law : (ts : Tokens) → Answers (Within (suc d) Right) (Within (wide (suc d)) Right) ts (right d inner ts)
  unfolding right
  right_law ts = then_law Junction Right (junction d inner ts) _ ts (λ u e h p q. g.last q) (junction_law ts) (λ x u rest w. by_class x u rest w (class_of (ahead rest)) refl)
    where
      by_class : (x : MeasuredExpr) (u rest : Tokens) → Within (suc d) Junction u x → (y : TokenClass) → class_of (ahead rest) ≡ y → AnswersStep (Within (suc d) Right) (Within (wide (suc d)) Right) u rest (right_by d inner x y rest)
      by_class x u rest w s.Implies e = implies_after Right x u rest e w (λ u e h p q. q)
      by_class x u rest w _ e = stop (Within (suc d) Right) (Within (wide (suc d)) Right) u rest x (record { phrase = g.last w.phrase; low = w.low })

  implication_law : (ts : Tokens) → Answers (Within (suc d) Implication) (Within (wide (suc d)) Implication) ts (implication d inner ts)
  unfolding implication
  implication_law ts = then_law Junction Implication (junction d inner ts) _ ts (λ u e h p q. g.implies (g.last q)) (junction_law ts) (λ x u rest w. by_class x u rest w (class_of (ahead rest)) refl)
    where
      by_class : (x : MeasuredExpr) (u rest : Tokens) → Within (suc d) Junction u x → (y : TokenClass) → class_of (ahead rest) ≡ y → AnswersStep (Within (suc d) Implication) (Within (wide (suc d)) Implication) u rest (implication_by d inner x y rest)
      by_class x u rest w s.Implies e = implies_after Implication x u rest e w (λ u e h p q. g.implies q)
      by_class x u rest w _ e = up Explied Implication u rest _ (λ u e h p q. g.explied q) (all_turns Explied x u rest (record { phrase = g.only refl w.phrase; low = w.low }))

  whole_law : (ts : Tokens) → Answers (Within (suc d) Whole) (Within (wide (suc d)) Whole) ts (whole d inner ts)
  unfolding whole
  whole_law ts = chain_law Whole (implication d inner ts) ts refl (implication_law ts)

  layer_law : (l : Level) (ts : Tokens) → Answers (Within (suc d) l) (Within (wide (suc d)) l) ts (layer d inner l ts)
  layer_law Whole ts = whole_law ts
  layer_law Implication ts = implication_law ts
  layer_law Right ts = right_law ts
  layer_law Explied ts = chain_law Explied (junction d inner ts) ts refl (junction_law ts)
  layer_law Junction ts = junction_law ts
  layer_law Conjunction ts = chain_law Conjunction (relation d inner ts) ts refl (relation_law ts)
  layer_law Disjunction ts = chain_law Disjunction (relation d inner ts) ts refl (relation_law ts)
  layer_law Relation ts = relation_law ts
  layer_law Sum ts = sum_law ts
  layer_law Product ts = product_law ts
  layer_law Prefix ts = prefix_law ts
  layer_law Postfix ts = postfix_law ts
  layer_law Atom ts = atom_law ts

pub read_floor : (d : ℕ) → d ≡ 0 → (l : Level) (ts : Tokens) → read d l ts ≡ ground ts
unfolding read
read_floor zero z l ts = refl
read_floor (suc d) z l ts = absurd (cc)

read_answers : (d : ℕ) (l : Level) (ts : Tokens) → 1 ≤ d → Answers (Within d l) (Within (wide d) l) ts (read d l ts)
unfolding read
read_answers zero l ts pos = absurd (omega arith)
read_answers (suc d) l ts pos = layer_law d (read d) (λ pos l. record { least = begins_filler d l pos; up = within_wide d l; answers = λ ts. read_answers d l ts pos }) (read_floor d) l ts

-- The reader's answers, at each height of 1 at least.
pub read_rule : (d : ℕ) → 1 ≤ d → (l : Level) → Rule (Within d l) (Within (wide d) l) (read d l)
read_rule d pos l = record { least = begins_filler d l pos; up = within_wide d l; answers = λ ts. read_answers d l ts pos }
