-- The laws of widening hold of the readers of types, attributes, claims and statements.
use Rattle.std.proofs.Common.{◌≡◌, ℕ, zero, suc, true, false, List, [], ◌∷◌, refl}
use Rattle.std.specs.Prelude.{Bool}
use Rattle.sd_base.specs.declared.Place.{Place}
use Rattle.sd_base.specs.declared.Sort.{Sort}
use Rattle.sd_base.specs.Value.{Text}
use Rattle.sd_ast.specs.declared.Stmt.{Stmt}
use Rattle.sd_parse.specs.declared.class.TokenClass.{TokenClass}
use Rattle.sd_parse.specs.declared.class.TokenClass.TheVariants as s
use Rattle.sd_parse.specs.Grammar.{Tokens, Whole}
use Rattle.sd_parse.specs.Reading.{Syntax, Bad, Reader, ahead, class_of}
use Rattle.sd_parse.specs.ReadingRows.{push, keep, is, plain_name, names}
use Rattle.sd_parse.specs.ReadingRows as reading
use Rattle.sd_parse.specs.ReadingTypes.{begins_type, map_type, type_by, type_layer, type_of}
use Rattle.sd_parse.specs.ReadingClauses.{expression, datum_by, datum, next_datum, more_data, contents_by, contents, attribute, attributes, claim}
use Rattle.sd_parse.specs.ReadingStatements.{index, indices, left, plain_left, begins_invariant, stated_invariant, invariant_by, loop_invariant, invariants, begins_statement, asserted, assumed, assigned, applied, applied_to, received, call_by, call_from, called, statements, block, branch_by, branch, otherwise_by, otherwise, guard, conditional, looped, broken, returned, statement_by, statement_layer, statement}
use Rattle.sd_parse.proofs.Widening.{Widens, Item, after_item, sequence, item_sequence, below, item_below, got, choice, item_choice, skip_item, name_item, want_item, items, widen_floor, item_floor, widening}
use Rattle.sd_parse.proofs.ExpressionWidening.{widen_read}

module _ {A : Type 0} {item wider : Reader A} (up : Widens item wider) where
  pub next_item : Item (reading.next item) (reading.next wider)
  unfolding reading.next
  next_item = search (widening, up)

  pub widen_more : (xs : List A) → Widens (reading.more item xs) (reading.more wider xs)
  unfolding reading.more
  widen_more xs = items (is s.Comma) push next_item xs

  pub widen_commas : Widens (reading.commas item) (reading.commas wider)
  unfolding reading.commas
  widen_commas = search (widening, up, widen_more)

  widen_listed_by : (y : TokenClass) → Widens (reading.listed_by item y) (reading.listed_by wider y)
  widen_listed_by s.Close = search widening
  widen_listed_by _ = search (widening, widen_commas)

  pub widen_enclosed : Widens (reading.enclosed item) (reading.enclosed wider)
  unfolding reading.enclosed reading.listed
  widen_enclosed = after_item (want_item s.Open) (λ _. choice widen_listed_by)

pub name_alone : Item plain_name plain_name
unfolding plain_name
name_alone = search widening

pub widen_names : Widens names names
widen_names = widen_commas name_alone.widens

-- ---- types

widen_type_by : (d : ℕ) {inner wider : Reader Sort} → Widens inner wider → (y : TokenClass) → Widens (type_by d inner y) (type_by (suc d) wider y)
unfolding map_type
widen_type_by d up s.Int = search widening
widen_type_by d up s.Bool = search widening
widen_type_by d up s.Name = search widening
widen_type_by d up s.OpenBracket = below d (after_item skip_item (λ _. sequence up (λ a. after_item (want_item s.CloseBracket) (λ _. sequence up (λ b. got _)))))
widen_type_by d up _ = search widening

no_type : (d : ℕ) (inner : Reader Sort) (x : TokenClass) (ts : Tokens) → begins_type x ≡ false → type_by d inner x ts ≡ Bad Syntax ts
no_type d inner s.Int ts e = absurd (cc)
no_type d inner _ ts e = cc

pub widen_type_of : (d : ℕ) → Widens (type_of d) (type_of (suc d))
unfolding type_of type_layer
widen_type_of zero = widen_floor begins_type (type_of 1) (λ ts e. no_type 0 (type_of 0) (class_of (ahead ts)) ts e)
widen_type_of (suc d) = choice (widen_type_by d (widen_type_of d))

-- ---- attributes and claims

pub widen_expression : (d : ℕ) → Widens (expression d) (expression (suc d))
unfolding expression
widen_expression d = search (widening, widen_read d)

module _ (limit : ℕ) where
  widen_datum_by : (y : TokenClass) → Widens (datum_by limit y) (datum_by (suc limit) y)
  widen_datum_by s.Text = search widening
  widen_datum_by _ = search (widening, widen_expression)

  widen_datum : Widens (datum limit) (datum (suc limit))
  unfolding datum
  widen_datum = choice widen_datum_by

  datum_item : Item (next_datum limit) (next_datum (suc limit))
  unfolding next_datum
  datum_item = search (widening, widen_datum)

  widen_contents_by : (y : TokenClass) → Widens (contents_by limit y) (contents_by (suc limit) y)
  unfolding more_data
  widen_contents_by s.CloseBrace = search widening
  widen_contents_by _ = sequence widen_datum (λ _. items (is s.Comma) keep datum_item tt)

  widen_contents : Widens (contents limit) (contents (suc limit))
  unfolding contents
  widen_contents = choice widen_contents_by

  attribute_item : Item (attribute limit) (attribute (suc limit))
  unfolding attribute
  attribute_item = search (widening, widen_contents) depth 9

  pub widen_attributes : Widens (attributes limit) (attributes (suc limit))
  unfolding attributes
  widen_attributes = items (is s.OpenAttribute) keep attribute_item tt

  pub claim_item : (d : ℕ) (word : TokenClass) → Item (claim limit d word) (claim (suc limit) (suc d) word)
  unfolding claim
  claim_item d word = item_sequence (want_item word) (λ p. sequence widen_attributes (λ _. sequence (widen_expression d) (λ e. after_item (want_item s.Semi) (λ _. got _))))

-- ---- the parts of a statement

module _ (d : ℕ) where
  index_item : Item (index d) (index (suc d))
  unfolding index
  index_item = search (widening, widen_expression d) depth 9

  left_item : Item (left d) (left (suc d))
  unfolding left indices
  left_item = item_sequence name_item (λ x. sequence (items (is s.OpenBracket) push index_item []) (λ es. got _))

  widen_plain_left : Widens (plain_left d) (plain_left (suc d))
  unfolding plain_left
  widen_plain_left = search (widening, left_item)

  widen_arguments : Widens (reading.enclosed (expression d)) (reading.enclosed (expression (suc d)))
  widen_arguments = widen_enclosed (widen_expression d)

module _ (limit d : ℕ) where
  stated_item : (f : Bool) → Item (stated_invariant limit d f) (stated_invariant (suc limit) (suc d) f)
  unfolding stated_invariant
  stated_item f = search (widening, claim_item limit d)

  invariant_by_item : (y : TokenClass) → Item (invariant_by limit d y) (invariant_by (suc limit) (suc d) y)
  invariant_by_item s.Free = search (widening, (stated_item true).widens)
  invariant_by_item _ = stated_item false

  widen_invariants : Widens (invariants limit d) (invariants (suc limit) (suc d))
  unfolding invariants loop_invariant
  widen_invariants = items begins_invariant push (item_choice invariant_by_item) []

-- ---- statements

module _ (limit d : ℕ) {inner wider : Reader Stmt} (up : Item inner wider) where
  applied_item : (p : Place) (xs : List Text) → Item (applied limit d inner p xs) (applied (suc limit) (suc d) wider p xs)
  unfolding applied
  applied_item p xs = search (widening, widen_arguments d) depth 9

  widen_received : (p : Place) (x : Text) → Widens (received limit d inner p x) (received (suc limit) (suc d) wider p x)
  unfolding received
  widen_received p x = sequence (widen_more name_alone.widens (x ∷ [])) (λ xs. after_item (want_item s.Becomes) (λ _. (applied_item p xs).widens))

  widen_call_by : (p : Place) (x : Text) (y : TokenClass) → Widens (call_by limit d inner p x y) (call_by (suc limit) (suc d) wider p x y)
  unfolding applied_to
  widen_call_by p x s.Comma = widen_received p x
  widen_call_by p x s.Becomes = widen_received p x
  widen_call_by p x _ = search (widening, widen_arguments d) depth 9

  widen_call_from : (p : Place) (x : Text) → Widens (call_from limit d inner p x) (call_from (suc limit) (suc d) wider p x)
  unfolding call_from
  widen_call_from p x = choice (widen_call_by p x)

  pub widen_statements : Widens (statements limit d inner) (statements (suc limit) (suc d) wider)
  unfolding statements
  widen_statements = items begins_statement push up []

  widen_block : Widens (block limit d inner) (block (suc limit) (suc d) wider)
  unfolding block
  widen_block = search (widening, widen_statements) depth 9

  widen_branch_by : (y : TokenClass) → Widens (branch_by limit d inner y) (branch_by (suc limit) (suc d) wider y)
  widen_branch_by s.If = search (widening, up)
  widen_branch_by _ = widen_block

  widen_otherwise_by : (y : TokenClass) → Widens (otherwise_by limit d inner y) (otherwise_by (suc limit) (suc d) wider y)
  unfolding branch
  widen_otherwise_by s.Else = search (widening, choice widen_branch_by)
  widen_otherwise_by _ = search widening

  widen_otherwise : Widens (otherwise limit d inner) (otherwise (suc limit) (suc d) wider)
  unfolding otherwise
  widen_otherwise = choice widen_otherwise_by

  guard_item : Item (guard limit d inner) (guard (suc limit) (suc d) wider)
  unfolding guard
  guard_item = search (widening, widen_expression d) depth 9

  statement_by_item : (y : TokenClass) → Item (statement_by limit d inner y) (statement_by (suc limit) (suc d) wider y)
  unfolding asserted assumed assigned called conditional looped broken returned
  statement_by_item s.Assert = search (widening, claim_item limit d)
  statement_by_item s.Assume = search (widening, claim_item limit d)
  statement_by_item s.Name = item_below d (item_sequence (left_item d) (λ l. sequence (widen_more (widen_plain_left d) (l.0 ∷ [])) (λ ls. after_item (want_item s.Becomes) (λ _. sequence (widen_commas (widen_expression d)) (λ es. after_item (want_item s.Semi) (λ _. got _))))))
  statement_by_item s.Call = search (widening, widen_attributes limit, widen_call_from) depth 9
  statement_by_item s.If = search (widening, guard_item, widen_block, widen_otherwise) depth 9
  statement_by_item s.While = item_below d (item_sequence guard_item (λ g. sequence (widen_invariants limit d) (λ is. sequence widen_block (λ ss. got _))))
  statement_by_item s.Break = search widening
  statement_by_item s.Return = search widening
  statement_by_item _ = search widening

no_statement : (limit d : ℕ) (inner : Reader Stmt) (x : TokenClass) (ts : Tokens) → begins_statement x ≡ false → statement_by limit d inner x ts ≡ Bad Syntax ts
no_statement limit d inner s.Assert ts e = absurd (cc)
no_statement limit d inner _ ts e = cc

pub statement_item : (limit d : ℕ) → Item (statement limit d) (statement (suc limit) (suc d))
unfolding statement statement_layer
statement_item limit zero = item_floor begins_statement (statement (suc limit) 1) (λ ts e. no_statement (suc limit) 0 (statement (suc limit) 0) (class_of (ahead ts)) ts e)
statement_item limit (suc d) = item_choice (statement_by_item limit d (statement_item limit d))
