-- What the readers of expressions alone, of attributes, claims and names answer.
use Rattle.std.proofs.Common.{◌≡◌, ℕ, zero, suc, ◌≤◌, true, false, cond, List, [], ◌∷◌, refl, arith}
use Rattle.std.specs.Prelude.{Bool}
use Rattle.sd_base.specs.declared.Place.{Place}
use Rattle.sd_base.specs.Value.{Text}
use Rattle.sd_lex.specs.declared.Token.{Token}
use Rattle.sd_ast.specs.declared.Expr.{Expr}
use Rattle.sd_parse.specs.declared.class.TokenClass.{TokenClass}
use Rattle.sd_parse.specs.declared.class.TokenClass.TheVariants as s
use Rattle.sd_parse.specs.Grammar.{Tokens, Whole, Is}
use Rattle.sd_parse.specs.Clauses as c
use Rattle.sd_parse.specs.Clauses.{Expression, Attributes, Claim}
use Rattle.sd_parse.specs.Statements.{Names}
use Rattle.sd_parse.specs.Reading.{Syntax, Deep, Got, Bad, Reader, MeasuredExpr, and_then, ahead, class_of, begins, read}
use Rattle.sd_parse.specs.ReadingRows.{is, keep, plain_name, names}
use Rattle.sd_parse.specs.ReadingRows as reading
use Rattle.sd_parse.specs.ReadingClauses.{expression, datum_by, datum, next_datum, more_data, contents_by, contents, attribute, attributes, claim}
use Rattle.sd_parse.proofs.Texts.{Repeat, same_is}
use Rattle.sd_parse.proofs.Spelling.{Spelled, spelled}
use Rattle.sd_parse.proofs.Algebra.{Begins, Answers, Rule, begins_map, into, seq, done, rule_into, want_rule, name_rule, after, wide}
use Rattle.sd_parse.proofs.ExpressionAnswers.{Within, filler, filled, begun, read_rule}
use Rattle.sd_parse.proofs.Lists.{Behind}
use Rattle.sd_parse.proofs.Rows.{Low, Next, next}
use Rattle.sd_parse.proofs.RowAnswers.{low_wide, all_rule, more_rule, commas_rule, Item, full, floor, Refuses, refused, too_deep}
use Rattle.sd_parse.proofs.ClauseLaws.{to_expression, DatumText, DataText, AttributeText, AttributesText, to_text, to_datum, to_next, Contents, empty, given, to_given, to_attribute, attributes_of, to_claim}
use Rattle.sd_parse.proofs.NameLaws.{NameText, NextNames, to_plain, names_of}
use Rattle.sd_parse.proofs.Limits.{attributes_more, claim_more}

-- ---- expressions

pub expression_rule : (d : ℕ) → 1 ≤ d → Rule (Low Expression d) (Low Expression (wide d)) (expression d)
unfolding expression
expression_rule d pos = rule_into (to_expression d) (to_expression (wide d)) (low_wide Expression d) (seq (read_rule d pos Whole) (λ e. done e.0))

expression_floor : (ts : Tokens) → Refuses (Low Expression 2) ts (expression 0 ts)
unfolding expression read
expression_floor ts = by_test ts (begins (class_of (ahead ts))) refl
  where
    by_test : (ts : Tokens) (b : Bool) → begins (class_of (ahead ts)) ≡ b → Refuses (Low Expression 2) ts (and_then (cond {A = Reader MeasuredExpr} b (λ ts. Bad Deep ts) (λ ts. Bad Syntax ts) ts) (λ e ts. Got e.0 ts))
    by_test [] true e = absurd (cc)
    by_test (t ∷ ts) true e = too_deep t ts refl refl (begins_map (Within 2 Whole) (Low Expression 2) (λ x. x.0) (t ∷ []) (λ u x w. record { height = x.1; spelt = c.whole w.phrase; low = w.low }) (begun 0 t e))
    by_test ts false e = refused refl

pub expression_item : (d : ℕ) → Item Expression Expression d (low_wide Expression d) (expression d)
expression_item zero = floor expression_floor
expression_item (suc d) = full (expression_rule (suc d) (omega arith))

-- ---- attributes

module _ (d : ℕ) (pos : 1 ≤ d) where
  datum_rule : Rule (Low DatumText d) (Low DatumText (wide d)) (datum d)
  unfolding datum
  datum_rule = record { least = record { more = (spelled s.Text refl).token ∷ []; value = tt; spelt = record { height = 0; spelt = c.text (spelled s.Text refl).is; low = omega arith } }; up = low_wide DatumText d; answers = λ ts. by_class ts (class_of (ahead ts)) refl }
    where
      by_class : (ts : Tokens) (x : TokenClass) → class_of (ahead ts) ≡ x → Answers (Low DatumText d) (Low DatumText (wide d)) ts (datum_by d x ts)
      by_class ts s.Text e = into (to_text d) (to_text (wide d)) (after s.Text (spelled s.Text refl) ts e (λ _. done tt))
      by_class ts _ e = into (to_datum d) (to_datum (wide d)) ((seq (expression_rule d pos) (λ _. done tt)).answers ts)

  next_answers : (ts : Tokens) → is s.Comma (class_of (ahead ts)) ≡ true → Answers (Next (Low DatumText d)) (Next (Low DatumText (wide d))) ts (next_datum d ts)
  unfolding next_datum
  next_answers ts e = into (to_next d) (to_next (wide d)) (after s.Comma (spelled s.Comma refl) ts (same_is (class_of (ahead ts)) s.Comma e) (λ _. datum_rule))

  next_up : (u : Tokens) (x : Unit {0}) → Next (Low DatumText d) u x → Next (Low DatumText (wide d)) u x
  next_up w x (next {u = u} i f) = next i (low_wide DatumText d u x f)

  data_rule : Rule (Repeat (Next (Low DatumText d)) (is s.Comma) keep tt) (Repeat (Next (Low DatumText (wide d))) (is s.Comma) keep tt) (more_data d)
  unfolding more_data
  data_rule = all_rule (Next (Low DatumText d)) (Next (Low DatumText (wide d))) (is s.Comma) (next_datum d) keep next_up next_answers tt

  contents_up : (u : Tokens) (x : Unit {0}) → Contents d u x → Contents (wide d) u x
  contents_up u x empty = empty
  contents_up u x (given {u = v} w) = given (low_wide DataText d v tt w)

  contents_rule : Rule (Contents d) (Contents (wide d)) (contents d)
  unfolding contents
  contents_rule = record { least = record { more = []; value = tt; spelt = empty }; up = contents_up; answers = λ ts. by_class ts (class_of (ahead ts)) refl }
    where
      by_class : (ts : Tokens) (x : TokenClass) → class_of (ahead ts) ≡ x → Answers (Contents d) (Contents (wide d)) ts (contents_by d x ts)
      by_class ts s.CloseBrace e = record { fact = ([], refl, empty) }
      by_class ts _ e = into (to_given d) (to_given (wide d)) ((seq datum_rule (λ _. data_rule)).answers ts)

  attribute_answers : (ts : Tokens) → is s.OpenAttribute (class_of (ahead ts)) ≡ true → Answers (Low AttributeText d) (Low AttributeText (wide d)) ts (attribute d ts)
  unfolding attribute
  attribute_answers ts e = into (to_attribute d) (to_attribute (wide d)) (after s.OpenAttribute (spelled s.OpenAttribute refl) ts (same_is (class_of (ahead ts)) s.OpenAttribute e) (λ _. seq name_rule (λ _. seq contents_rule (λ _. seq (want_rule s.CloseBrace (spelled s.CloseBrace refl)) (λ _. done tt)))))

  pub attributes_rule : Rule (AttributesText d) (AttributesText (wide d)) (attributes d)
  unfolding attributes
  attributes_rule = rule_into (λ u x m. attributes_of d m) (λ u x m. attributes_of (wide d) m) (λ u x m. attributes_more (omega arith) m)
      (all_rule (Low AttributeText d) (Low AttributeText (wide d)) (is s.OpenAttribute) (attribute d) keep (low_wide AttributeText d) attribute_answers tt)

-- ---- claims

pub claim_wide : (limit d : ℕ) (word : TokenClass) (u : Tokens) (x : Place × Expr) → Low (Claim limit word) d u x → Low (Claim (wide limit) word) (wide d) u x
claim_wide limit d word u x w = record { height = w.height; spelt = claim_more (omega arith) w.spelt; low = let z = w.low in omega arith }

pub claim_rule : (limit d : ℕ) (word : TokenClass) → 1 ≤ limit → 1 ≤ d → Spelled word → Rule (Low (Claim limit word) d) (Low (Claim (wide limit) word) (wide d)) (claim limit d word)
unfolding claim
claim_rule limit d word lim pos some = rule_into (to_claim limit d word) (to_claim (wide limit) (wide d) word) (claim_wide limit d word)
    (seq (want_rule word some) (λ p. seq (attributes_rule limit lim) (λ _. seq (expression_rule d pos) (λ e. seq (want_rule s.Semi (spelled s.Semi refl)) (λ _. done (p, e))))))

-- the least claim, from its word on
pub claim_begins : (limit d : ℕ) (word : TokenClass) → 1 ≤ d → (t : Token) → Is word t → Begins (Low (Claim limit word) d) (t ∷ [])
claim_begins limit d word pos t i =
    let semi : Spelled s.Semi = (spelled s.Semi refl) in
    record { more = filler ∷ semi.token ∷ []; value = (t.at, _); spelt = record { height = 1; spelt = c.claim i c.none (c.whole (filled Whole)) semi.is; low = pos } }

-- ---- names

pub plain_name_rule : Rule (Low NameText 0) (Low NameText (wide 0)) plain_name
unfolding plain_name
plain_name_rule = rule_into to_plain (λ u x w. low_wide NameText 0 u x (to_plain u x w)) (low_wide NameText 0) (seq name_rule (λ y. done y.0))

-- names have no height
pub flat_name_rule : Rule (Low NameText 0) (Low NameText 0) plain_name
unfolding plain_name
flat_name_rule = rule_into to_plain to_plain (λ u x w. w) (seq name_rule (λ y. done y.0))

pub names_rule : Rule Names Names names
names_rule = rule_into (λ u xs m. names_of m.spelt) (λ u xs m. names_of m.spelt) (λ u xs m. m) (commas_rule NameText NameText 0 (low_wide NameText 0) plain_name_rule)

pub more_names_rule : (acc : List Text) → Rule (Behind NextNames acc) (Behind NextNames acc) (reading.more plain_name acc)
more_names_rule acc = more_rule flat_name_rule acc
