-- What the reader of statements answers.
use Rattle.std.proofs.Common.{◌≡◌, ℕ, zero, suc, ◌≤◌, true, false, List, [], ◌∷◌, ◌++◌, refl, ap, sym, ◌∙◌, subst, arith}
use Rattle.std.specs.Prelude.{Bool}
use Rattle.sd_base.specs.declared.Place.{Place}
use Rattle.sd_base.specs.Value.{Text}
use Rattle.sd_lex.specs.declared.Token.{Token}
use Rattle.sd_ast.specs.declared.Expr.{Expr}
use Rattle.sd_ast.specs.declared.ExprKind.{Truth}
use Rattle.sd_ast.specs.declared.Left.{Left}
use Rattle.sd_ast.specs.declared.Invariant.{Invariant}
use Rattle.sd_ast.specs.declared.Stmt.{Stmt}
use Rattle.sd_ast.specs.declared.StmtKind.{Assert, Assume, Assign, Call, If, While, Break, Return}
use Rattle.sd_parse.specs.declared.class.TokenClass.{TokenClass}
use Rattle.sd_parse.specs.declared.class.TokenClass.TheVariants as s
use Rattle.sd_parse.specs.Grammar.{Tokens, Whole, Is, placed}
use Rattle.sd_parse.specs.Rows as w
use Rattle.sd_parse.specs.Rows.{Row, Commas, Enclosed}
use Rattle.sd_parse.specs.Clauses as c
use Rattle.sd_parse.specs.Clauses.{Expression, Attributes, Claim}
use Rattle.sd_parse.specs.Statements as st
use Rattle.sd_parse.specs.Statements.{Index, LeftSide, InvariantLine, Statement, Otherwise, Block, Statements, stated}
use Rattle.sd_parse.specs.Reading.{Syntax, Deep, Step, Got, Bad, Reader, and_then, ahead, class_of, want}
use Rattle.sd_parse.specs.ReadingRows.{is, push, plain_name}
use Rattle.sd_parse.specs.ReadingRows as reading
use Rattle.sd_parse.specs.ReadingClauses.{expression, claim}
use Rattle.sd_parse.specs.ReadingStatements.{index, indices, left, plain_left, begins_invariant, stated_invariant, invariant_by, loop_invariant, invariants, begins_statement, asserted, assumed, assigned, applied, applied_to, received, call_by, call_from, called, statements, block, branch_by, branch, otherwise_by, otherwise, guard, conditional, looped, broken, returned, statement_by, statement_layer, statement}
use Rattle.sd_parse.proofs.Texts.{Repeat, same_is}
use Rattle.sd_parse.proofs.Spelling.{Spelled, spelled}
use Rattle.sd_parse.proofs.Tables.{is_name}
use Rattle.sd_parse.proofs.Algebra.{Begins, Answers, Rule, begins_map, into, fails, seq_at, seq, done, rule_into, want_rule, name_rule, after, deeper_answers, wide}
use Rattle.sd_parse.proofs.ExpressionAnswers.{filler, filled}
use Rattle.sd_parse.proofs.Lists.{pushed}
use Rattle.sd_parse.proofs.Rows.{Low}
use Rattle.sd_parse.proofs.RowAnswers.{low_wide, all_rule, row_rule, more_rule, commas_rule, enclosed_rule}
use Rattle.sd_parse.proofs.ClauseAnswers.{expression_rule, expression_item, attributes_rule, claim_wide, claim_rule, claim_begins, more_names_rule}
use Rattle.sd_parse.proofs.Limits.{invariant_more, statement_more, otherwise_more, block_more, statements_more}
use Rattle.sd_parse.proofs.StatementTexts.{low_statements, some_tokens, if_statement, Branch, of_block, of_if, PlacedLeft, placed_left, to_index, to_left, to_plain, Guarded, guarded, to_guard, Applied, applied_text, CallFrom, through, direct, StatedInvariant, stated_line, to_stated, to_free, to_checked, to_asserted, to_assumed, to_assigned, to_applied, to_received, to_direct, to_called, to_block, to_otherwise, to_conditional, to_loop, to_broken, to_returned}

-- what is spelled in one language within a height is so in a wider one
pub lift_low : {A : Type 0} {F V : Tokens → A → ℕ → Type 0} → ((u : Tokens) (x : A) (h : ℕ) → F u x h → V u x h) → (d : ℕ) (u : Tokens) (x : A) → Low F d u x → Low V (wide d) u x
lift_low f d u x w = record { height = w.height; spelt = f u x w.height w.spelt; low = let z = w.low in omega arith }

-- ---- the parts of a statement

module _ (d : ℕ) (pos : 1 ≤ d) where
  index_answers : (ts : Tokens) → is s.OpenBracket (class_of (ahead ts)) ≡ true → Answers (Low Index d) (Low Index (wide d)) ts (index d ts)
  unfolding index
  index_answers ts e = into (to_index d) (to_index (wide d)) (after s.OpenBracket (spelled s.OpenBracket refl) ts (same_is (class_of (ahead ts)) s.OpenBracket e) (λ _. seq (expression_rule d pos) (λ e. seq (want_rule s.CloseBracket (spelled s.CloseBracket refl)) (λ _. done e))))

  indices_rule : Rule (Low (Row Index) d) (Low (Row Index) (wide d)) (indices d)
  unfolding indices
  indices_rule = row_rule Index Index d (low_wide Index d) (is s.OpenBracket) (index d) index_answers

  left_up : (u : Tokens) (x : Left × Place) → PlacedLeft d u x → PlacedLeft (wide d) u x
  left_up u x (placed_left {t = t} {u = v} {l = l} w) = placed_left (low_wide LeftSide d (t ∷ v) l w)

  left_rule : Rule (PlacedLeft d) (PlacedLeft (wide d)) (left d)
  unfolding left
  left_rule = rule_into (to_left d) (to_left (wide d)) left_up (seq name_rule (λ y. seq indices_rule (λ es. done (record { name = y.0; indices = es }, y.1))))

  plain_rule : Rule (Low LeftSide d) (Low LeftSide (wide d)) (plain_left d)
  unfolding plain_left
  plain_rule = rule_into (to_plain d) (to_plain (wide d)) (low_wide LeftSide d) (seq left_rule (λ l. done l.0))

  values_rule : Rule (Low (Commas Expression) d) (Low (Commas Expression) (wide d)) (reading.commas (expression d))
  values_rule = commas_rule Expression Expression d (low_wide Expression d) (expression_rule d pos)

module _ (d : ℕ) where
  arguments_rule : Rule (Low (Enclosed Expression) d) (Low (Enclosed Expression) (wide d)) (reading.enclosed (expression d))
  arguments_rule = enclosed_rule Expression Expression d (low_wide Expression d) (expression_item d)

  applied_up : (p : Place) (xs : List Text) (u : Tokens) (x : Stmt) → Applied d p xs u x → Applied (wide d) p xs u x
  applied_up p xs u x (applied_text i w j) = applied_text i (low_wide (Enclosed Expression) d _ _ w) j

  call_up : (p : Place) (x : Text) (u : Tokens) (y : Stmt) → CallFrom d p x u y → CallFrom (wide d) p x u y
  call_up p x u y (through m i a) = through m i (applied_up p _ _ _ a)
  call_up p x u y (direct w i) = direct (low_wide (Enclosed Expression) d _ _ w) i

  guard_up : (word : TokenClass) (u : Tokens) (x : Place × Expr) → Guarded d word u x → Guarded (wide d) word u x
  guard_up word u x (guarded i j w k) = guarded i j (low_wide Expression d _ _ w) k

  call_begins : (p : Place) (x : Text) → Begins (CallFrom d p x) []
  call_begins p x = record { more = (spelled s.Open refl).token ∷ (spelled s.Close refl).token ∷ (spelled s.Semi refl).token ∷ []; value = stated p (Call [] x []); spelt = direct {u = (spelled s.Open refl).token ∷ (spelled s.Close refl).token ∷ []} (record { height = 0; spelt = w.none (spelled s.Open refl).is (spelled s.Close refl).is; low = omega arith }) (spelled s.Semi refl).is }

-- ---- invariants

module _ (limit d : ℕ) (lim : 1 ≤ limit) (pos : 1 ≤ d) where
  stated_up : (f : Bool) (u : Tokens) (x : Invariant) → StatedInvariant limit d f u x → StatedInvariant (wide limit) (wide d) f u x
  stated_up f u x (stated_line w) = stated_line (claim_wide limit d s.Invariant _ _ w)

  stated_rule : (f : Bool) → Rule (StatedInvariant limit d f) (StatedInvariant (wide limit) (wide d) f) (stated_invariant limit d f)
  unfolding stated_invariant
  stated_rule f = rule_into (to_stated limit d f) (to_stated (wide limit) (wide d) f) (stated_up f) (seq (claim_rule limit d s.Invariant lim pos (spelled s.Invariant refl)) (λ k. done (record { free = f; expr = k.1 })))

  invariant_rule : Rule (Low (InvariantLine limit) d) (Low (InvariantLine (wide limit)) (wide d)) (loop_invariant limit d)
  unfolding loop_invariant
  invariant_rule = record {
    least = begins_map (StatedInvariant limit d false) (Low (InvariantLine limit) d) (λ x. x) [] (to_checked limit d) (stated_rule false).least;
    up = lift_low (invariant_more (omega arith)) d;
    answers = λ ts. by_class ts (class_of (ahead ts)) refl;
  }
    where
      by_class : (ts : Tokens) (x : TokenClass) → class_of (ahead ts) ≡ x → Answers (Low (InvariantLine limit) d) (Low (InvariantLine (wide limit)) (wide d)) ts (invariant_by limit d x ts)
      by_class ts s.Free e = into (to_free limit d) (to_free (wide limit) (wide d)) (after s.Free (spelled s.Free refl) ts e (λ _. stated_rule true))
      by_class ts _ e = into (to_checked limit d) (to_checked (wide limit) (wide d)) ((stated_rule false).answers ts)

  invariants_rule : Rule (Low (Row (InvariantLine limit)) d) (Low (Row (InvariantLine (wide limit))) (wide d)) (invariants limit d)
  unfolding invariants
  invariants_rule = row_rule (InvariantLine limit) (InvariantLine (wide limit)) d (lift_low (invariant_more (omega arith)) d) begins_invariant (loop_invariant limit d) (λ ts e. invariant_rule.answers ts)

-- ---- statements

pub statement_begins : (limit d : ℕ) → 1 ≤ d → Begins (Low (Statement limit) d) []
statement_begins limit d pos = record { more = (spelled s.Return refl).token ∷ (spelled s.Semi refl).token ∷ []; value = stated (spelled s.Return refl).token.at Return; spelt = record { height = 1; spelt = st.returned (spelled s.Return refl).is (spelled s.Semi refl).is; low = pos } }

pub statement_wide : (limit d : ℕ) (u : Tokens) (x : Stmt) → Low (Statement limit) d u x → Low (Statement (wide limit)) (wide d) u x
statement_wide limit d u x w = lift_low (λ u x h y. statement_more (omega arith) y) d u x w

-- a statement after `else`
as_branch : (limit d : ℕ) (i : Token) (u : Tokens) → class_of (ahead (i ∷ u)) ≡ s.If → Begins (Low (Statement limit) d) (i ∷ u) → Begins (Branch limit d) (i ∷ u)
as_branch limit d i u e b = record { more = b.more; value = b.value ∷ []; spelt = of_if (if_statement (record { same = e }) b.spelt) }

block_begins : (limit d : ℕ) → Begins (Low (Block limit) d) []
block_begins limit d = record { more = (spelled s.OpenBrace refl).token ∷ (spelled s.CloseBrace refl).token ∷ []; value = []; spelt = record { height = 0; spelt = st.braces (spelled s.OpenBrace refl).is st.none (spelled s.CloseBrace refl).is; low = omega arith } }

branch_begins : (limit d : ℕ) → Begins (Branch limit d) []
branch_begins limit d = begins_map (Low (Block limit) d) (Branch limit d) (λ x. x) [] (λ u x w. of_block w) (block_begins limit d)

if_branch : (limit d : ℕ) (ts : Tokens) (step : Step Stmt) → class_of (ahead ts) ≡ s.If → Answers (Low (Statement limit) d) (Low (Statement (wide limit)) (wide d)) ts step
    → Answers (Branch limit d) (Branch (wide limit) (wide d)) ts (and_then step (λ x ts. Got (x ∷ []) ts))
if_branch limit d ts (Got x rest) e a = by_tokens a.fact.0 a.fact.1 a.fact.2
  where
    by_tokens : (u : Tokens) → ts ≡ u ++ rest → Low (Statement limit) d u x → Answers (Branch limit d) (Branch (wide limit) (wide d)) ts (Got (x ∷ []) rest)
    by_tokens [] split w = absurd (let z = some_tokens w.spelt in omega arith)
    by_tokens (i ∷ u) split w = record { fact = (i ∷ u, split, of_if (if_statement (record { same = ap (λ z. class_of (ahead z)) (sym split) ∙ e }) w)) }
if_branch limit d ts (Bad Syntax rest) e a = by_tokens a.fact.0 a.fact.1 a.fact.2
  where
    by_tokens : (u : Tokens) → ts ≡ u ++ rest → Begins (Low (Statement limit) d) u → Answers (Branch limit d) (Branch (wide limit) (wide d)) ts (Bad Syntax rest)
    by_tokens [] split b = record { fact = ([], split, branch_begins limit d) }
    by_tokens (i ∷ u) split b = record { fact = (i ∷ u, split, as_branch limit d i u (ap (λ z. class_of (ahead z)) (sym split) ∙ e) b) }
if_branch limit d ts (Bad Deep rest) e a = by_tokens a.fact.0 a.fact.1 a.fact.2 a.fact.3 a.fact.4 a.fact.5 a.fact.6
  where
    by_tokens : (u : Tokens) → ts ≡ u ++ rest → Begins (Low (Statement limit) d) u → (t : Token) (r : Tokens) → rest ≡ t ∷ r → Begins (Low (Statement (wide limit)) (wide d)) (u ++ t ∷ []) → Answers (Branch limit d) (Branch (wide limit) (wide d)) ts (Bad Deep rest)
    by_tokens [] split b t r f v = record { fact = ([], split, branch_begins limit d, t, r, f, as_branch (wide limit) (wide d) t [] (ap (λ z. class_of (ahead z)) (sym (split ∙ f)) ∙ e) v) }
    by_tokens (i ∷ u) split b t r f v =
        let first : class_of (ahead (i ∷ u)) ≡ s.If = ap (λ z. class_of (ahead z)) (sym split) ∙ e in
        record { fact = (i ∷ u, split, as_branch limit d i u first b, t, r, f, as_branch (wide limit) (wide d) i (u ++ t ∷ []) first v) }

module _ (limit d : ℕ) (lim : 1 ≤ limit) (inner : Reader Stmt) (law : 1 ≤ d → Rule (Low (Statement limit) d) (Low (Statement (wide limit)) (wide d)) inner) where
  -- the place of a statement, in its two languages
  abbrev Here : Tokens → Step Stmt → Type 0
  Here ts step = Answers (Low (Statement limit) (suc d)) (Low (Statement (wide limit)) (wide (suc d))) ts step

  least : Begins (Low (Statement limit) (suc d)) []
  least = statement_begins limit (suc d) (omega arith)

  asserted_answers : (ts : Tokens) → class_of (ahead ts) ≡ s.Assert → Here ts (asserted limit d inner ts)
  unfolding asserted
  asserted_answers ts e = deeper_answers s.Assert (spelled s.Assert refl) d (λ ts. and_then (claim limit d s.Assert ts) (λ k ts. Got (stated k.0 (Assert k.1)) ts)) ts e least
      (λ t i. begins_map (Low (Claim (wide limit) s.Assert) (suc (suc d))) (Low (Statement (wide limit)) (wide (suc d))) (λ k. stated k.0 (Assert k.1)) (t ∷ []) (λ u k w. record { height = suc w.height; spelt = st.asserted w.spelt; low = let z = w.low in omega arith }) (claim_begins (wide limit) (suc (suc d)) s.Assert (omega arith) t i))
      (λ pos. into (to_asserted limit d) (to_asserted (wide limit) (wide d)) ((seq (claim_rule limit d s.Assert lim pos (spelled s.Assert refl)) (λ k. done (stated k.0 (Assert k.1)))).answers ts))

  assumed_answers : (ts : Tokens) → class_of (ahead ts) ≡ s.Assume → Here ts (assumed limit d inner ts)
  unfolding assumed
  assumed_answers ts e = deeper_answers s.Assume (spelled s.Assume refl) d (λ ts. and_then (claim limit d s.Assume ts) (λ k ts. Got (stated k.0 (Assume k.1)) ts)) ts e least
      (λ t i. begins_map (Low (Claim (wide limit) s.Assume) (suc (suc d))) (Low (Statement (wide limit)) (wide (suc d))) (λ k. stated k.0 (Assume k.1)) (t ∷ []) (λ u k w. record { height = suc w.height; spelt = st.assumed w.spelt; low = let z = w.low in omega arith }) (claim_begins (wide limit) (suc (suc d)) s.Assume (omega arith) t i))
      (λ pos. into (to_assumed limit d) (to_assumed (wide limit) (wide d)) ((seq (claim_rule limit d s.Assume lim pos (spelled s.Assume refl)) (λ k. done (stated k.0 (Assume k.1)))).answers ts))

  assigned_begins : (t : Token) → Is s.Name t → Begins (Low (Statement (wide limit)) (wide (suc d))) (t ∷ [])
  assigned_begins t i =
      let y = is_name t i.same in
      let truth : Expr = placed filler.at (Truth true) in
      let l : Left = record { name = y.0; indices = [] } in
      let left_text : LeftSide (t ∷ []) l 0 = st.left y.1 w.none in
      record { more = (spelled s.Becomes refl).token ∷ filler ∷ (spelled s.Semi refl).token ∷ []; value = stated t.at (Assign (l ∷ []) (truth ∷ [])); spelt = record { height = 2; spelt = st.assigned (w.one left_text) (spelled s.Becomes refl).is (w.one (c.whole (filled Whole))) (spelled s.Semi refl).is; low = omega arith } }

  assigned_answers : (ts : Tokens) → class_of (ahead ts) ≡ s.Name → Here ts (assigned limit d inner ts)
  unfolding assigned
  assigned_answers ts e = deeper_answers s.Name (spelled s.Name refl) d
      (λ ts. and_then (left d ts) (λ l ts. and_then (reading.more (plain_left d) (l.0 ∷ []) ts) (λ ls ts. and_then (want s.Becomes ts) (λ _ ts. and_then (reading.commas (expression d) ts) (λ es ts. and_then (want s.Semi ts) (λ _ ts. Got (stated l.1 (Assign ls es)) ts)))))) ts e least assigned_begins
      (λ pos. into (to_assigned limit d) (to_assigned (wide limit) (wide d)) ((seq (left_rule d pos) (λ l. seq (more_rule (plain_rule d pos) (l.0 ∷ [])) (λ ls. seq (want_rule s.Becomes (spelled s.Becomes refl)) (λ _. seq (values_rule d pos) (λ es. seq (want_rule s.Semi (spelled s.Semi refl)) (λ _. done (stated l.1 (Assign ls es)))))))).answers ts))

  -- ---- calls

  applied_rule : (p : Place) (xs : List Text) → Rule (Applied d p xs) (Applied (wide d) p xs) (applied limit d inner p xs)
  unfolding applied
  applied_rule p xs = rule_into (to_applied limit d p xs) (to_applied (wide limit) (wide d) p xs) (applied_up d p xs) (seq name_rule (λ f. seq (arguments_rule d) (λ es. seq (want_rule s.Semi (spelled s.Semi refl)) (λ _. done (stated p (Call xs f.0 es))))))

  received_answers : (p : Place) (x : Text) (ts : Tokens) → Answers (CallFrom d p x) (CallFrom (wide d) p x) ts (received limit d inner p x ts)
  unfolding received
  received_answers p x ts = into (to_received limit d p x) (to_received (wide limit) (wide d) p x) ((seq (more_names_rule (x ∷ [])) (λ ys. seq (want_rule s.Becomes (spelled s.Becomes refl)) (λ _. applied_rule p ys))).answers ts)

  direct_answers : (p : Place) (x : Text) (ts : Tokens) → Answers (CallFrom d p x) (CallFrom (wide d) p x) ts (applied_to limit d inner p x ts)
  unfolding applied_to
  direct_answers p x ts = into (to_direct limit d p x) (to_direct (wide limit) (wide d) p x) ((seq (arguments_rule d) (λ es. seq (want_rule s.Semi (spelled s.Semi refl)) (λ _. done (stated p (Call [] x es))))).answers ts)

  call_from_rule : (p : Place) (x : Text) → Rule (CallFrom d p x) (CallFrom (wide d) p x) (call_from limit d inner p x)
  unfolding call_from
  call_from_rule p x = record { least = call_begins d p x; up = call_up d p x; answers = λ ts. by_class ts (class_of (ahead ts)) }
    where
      by_class : (ts : Tokens) (y : TokenClass) → Answers (CallFrom d p x) (CallFrom (wide d) p x) ts (call_by limit d inner p x y ts)
      by_class ts s.Comma = received_answers p x ts
      by_class ts s.Becomes = received_answers p x ts
      by_class ts _ = direct_answers p x ts

  called_answers : (ts : Tokens) → class_of (ahead ts) ≡ s.Call → Here ts (called limit d inner ts)
  unfolding called
  called_answers ts e = into (to_called limit d) (to_called (wide limit) (wide d)) (after s.Call (spelled s.Call refl) ts e (λ p. seq (attributes_rule limit lim) (λ _. seq name_rule (λ y. call_from_rule p y.0))))

  -- ---- blocks

  pub statements_rule : 1 ≤ d → Rule (Low (Statements limit) d) (Low (Statements (wide limit)) (wide d)) (statements limit d inner)
  unfolding statements
  statements_rule pos = rule_into (to_statements limit d) (to_statements (wide limit) (wide d)) (lift_low (λ u x h y. statements_more (omega arith) y) d)
      (all_rule (Low (Statement limit) d) (Low (Statement (wide limit)) (wide d)) begins_statement inner push (statement_wide limit d) (λ ts e. (law pos).answers ts) [])
    where
      to_statements : (l n : ℕ) (u : Tokens) (y : List Stmt) → Repeat (Low (Statement l) n) begins_statement push [] u y → Low (Statements l) n u y
      to_statements l n u y m = let w = pushed (Low (Statement l) n) begins_statement m in subst (λ ys. Low (Statements l) n u ys) (sym w.same) (low_statements l n w.list)

  block_rule : 1 ≤ d → Rule (Low (Block limit) d) (Low (Block (wide limit)) (wide d)) (block limit d inner)
  unfolding block
  block_rule pos = rule_into (to_block limit d) (to_block (wide limit) (wide d)) (lift_low (λ u x h y. block_more (omega arith) y) d) (seq (want_rule s.OpenBrace (spelled s.OpenBrace refl)) (λ _. seq (statements_rule pos) (λ ys. seq (want_rule s.CloseBrace (spelled s.CloseBrace refl)) (λ _. done ys))))

  branch_up : (u : Tokens) (xs : List Stmt) → Branch limit d u xs → Branch (wide limit) (wide d) u xs
  branch_up u xs (of_block w) = of_block (lift_low (λ u x h y. block_more (omega arith) y) d _ _ w)
  branch_up u xs (of_if (if_statement {i = i} {u = v} {x = x} j w)) = of_if (if_statement j (statement_wide limit d (i ∷ v) x w))

  branch_rule : 1 ≤ d → Rule (Branch limit d) (Branch (wide limit) (wide d)) (branch limit d inner)
  unfolding branch
  branch_rule pos = record { least = branch_begins limit d; up = branch_up; answers = λ ts. by_class ts (class_of (ahead ts)) refl }
    where
      by_class : (ts : Tokens) (x : TokenClass) → class_of (ahead ts) ≡ x → Answers (Branch limit d) (Branch (wide limit) (wide d)) ts (branch_by limit d inner x ts)
      by_class ts s.If e = if_branch limit d ts (inner ts) e ((law pos).answers ts)
      by_class ts _ e = into (λ u xs w. of_block w) (λ u xs w. of_block w) ((block_rule pos).answers ts)

  otherwise_rule : 1 ≤ d → Rule (Low (Otherwise limit) d) (Low (Otherwise (wide limit)) (wide d)) (otherwise limit d inner)
  unfolding otherwise
  otherwise_rule pos = record { least = record { more = []; value = []; spelt = record { height = 0; spelt = st.nothing; low = omega arith } }; up = lift_low (λ u x h y. otherwise_more (omega arith) y) d; answers = λ ts. by_class ts (class_of (ahead ts)) refl }
    where
      by_class : (ts : Tokens) (x : TokenClass) → class_of (ahead ts) ≡ x → Answers (Low (Otherwise limit) d) (Low (Otherwise (wide limit)) (wide d)) ts (otherwise_by limit d inner x ts)
      by_class ts s.Else e = into (to_otherwise limit d) (to_otherwise (wide limit) (wide d)) (after s.Else (spelled s.Else refl) ts e (λ _. branch_rule pos))
      by_class ts _ e = record { fact = ([], refl, record { height = 0; spelt = st.nothing; low = omega arith }) }

  guard_answers : (word : TokenClass) → Spelled word → 1 ≤ d → (ts : Tokens) → class_of (ahead ts) ≡ word → Answers (Guarded d word) (Guarded (wide d) word) ts (guard limit d inner ts)
  unfolding guard
  guard_answers word some pos ts e = into (to_guard d word) (to_guard (wide d) word) (after word some ts e (λ p. seq (want_rule s.Open (spelled s.Open refl)) (λ _. seq (expression_rule d pos) (λ e. seq (want_rule s.Close (spelled s.Close refl)) (λ _. done (p, e))))))

  conditional_begins : (t : Token) → Is s.If t → Begins (Low (Statement (wide limit)) (wide (suc d))) (t ∷ [])
  conditional_begins t i =
      let truth : Expr = placed filler.at (Truth true) in
      record {
        more = (spelled s.Open refl).token ∷ filler ∷ (spelled s.Close refl).token ∷ (spelled s.OpenBrace refl).token ∷ (spelled s.CloseBrace refl).token ∷ [];
        value = stated t.at (If truth [] []);
        spelt = record { height = 2; spelt = st.conditional i (spelled s.Open refl).is (c.whole (filled Whole)) (spelled s.Close refl).is (st.braces (spelled s.OpenBrace refl).is st.none (spelled s.CloseBrace refl).is) st.nothing; low = omega arith };
      }

  conditional_answers : (ts : Tokens) → class_of (ahead ts) ≡ s.If → Here ts (conditional limit d inner ts)
  unfolding conditional
  conditional_answers ts e = deeper_answers s.If (spelled s.If refl) d
      (λ ts. and_then (guard limit d inner ts) (λ g ts. and_then (block limit d inner ts) (λ a ts. and_then (otherwise limit d inner ts) (λ b ts. Got (stated g.0 (If g.1 a b)) ts)))) ts e least conditional_begins
      (λ pos. into (to_conditional limit d) (to_conditional (wide limit) (wide d)) (seq_at (guard_up d s.If) (guard_answers s.If (spelled s.If refl) pos ts e) (λ g. seq (block_rule pos) (λ a. seq (otherwise_rule pos) (λ b. done (stated g.0 (If g.1 a b)))))))

  loop_begins : (t : Token) → Is s.While t → Begins (Low (Statement (wide limit)) (wide (suc d))) (t ∷ [])
  loop_begins t i =
      let truth : Expr = placed filler.at (Truth true) in
      record {
        more = (spelled s.Open refl).token ∷ filler ∷ (spelled s.Close refl).token ∷ (spelled s.OpenBrace refl).token ∷ (spelled s.CloseBrace refl).token ∷ [];
        value = stated t.at (While truth [] []);
        spelt = record { height = 2; spelt = st.loop i (spelled s.Open refl).is (c.whole (filled Whole)) (spelled s.Close refl).is w.none (st.braces (spelled s.OpenBrace refl).is st.none (spelled s.CloseBrace refl).is); low = omega arith };
      }

  loop_answers : (ts : Tokens) → class_of (ahead ts) ≡ s.While → Here ts (looped limit d inner ts)
  unfolding looped
  loop_answers ts e = deeper_answers s.While (spelled s.While refl) d
      (λ ts. and_then (guard limit d inner ts) (λ g ts. and_then (invariants limit d ts) (λ a ts. and_then (block limit d inner ts) (λ b ts. Got (stated g.0 (While g.1 a b)) ts)))) ts e least loop_begins
      (λ pos. into (to_loop limit d) (to_loop (wide limit) (wide d)) (seq_at (guard_up d s.While) (guard_answers s.While (spelled s.While refl) pos ts e) (λ g. seq (invariants_rule limit d lim pos) (λ a. seq (block_rule pos) (λ b. done (stated g.0 (While g.1 a b)))))))

  broken_answers : (ts : Tokens) → class_of (ahead ts) ≡ s.Break → Here ts (broken limit d inner ts)
  unfolding broken
  broken_answers ts e = into (to_broken limit d) (to_broken (wide limit) (wide d)) (after s.Break (spelled s.Break refl) ts e (λ p. seq (want_rule s.Semi (spelled s.Semi refl)) (λ _. done (stated p Break))))

  returned_answers : (ts : Tokens) → class_of (ahead ts) ≡ s.Return → Here ts (returned limit d inner ts)
  unfolding returned
  returned_answers ts e = into (to_returned limit d) (to_returned (wide limit) (wide d)) (after s.Return (spelled s.Return refl) ts e (λ p. seq (want_rule s.Semi (spelled s.Semi refl)) (λ _. done (stated p Return))))

  layer_answers : (ts : Tokens) → Here ts (statement_layer limit d inner ts)
  unfolding statement_layer
  layer_answers ts = by_class (class_of (ahead ts)) refl
    where
      by_class : (x : TokenClass) → class_of (ahead ts) ≡ x → Here ts (statement_by limit d inner x ts)
      by_class s.Assert e = asserted_answers ts e
      by_class s.Assume e = assumed_answers ts e
      by_class s.Name e = assigned_answers ts e
      by_class s.Call e = called_answers ts e
      by_class s.If e = conditional_answers ts e
      by_class s.While e = loop_answers ts e
      by_class s.Break e = broken_answers ts e
      by_class s.Return e = returned_answers ts e
      by_class _ e = fails least

statement_answers : (limit d : ℕ) (ts : Tokens) → 1 ≤ limit → 1 ≤ d → Answers (Low (Statement limit) d) (Low (Statement (wide limit)) (wide d)) ts (statement limit d ts)
unfolding statement
statement_answers limit zero ts lim pos = absurd (omega arith)
statement_answers limit (suc d) ts lim pos = layer_answers limit d lim (statement limit d) (λ pos. record { least = statement_begins limit d pos; up = statement_wide limit d; answers = λ ts. statement_answers limit d ts lim pos }) ts

-- The reader's answers, at each height of 1 at least.
pub statement_rule : (limit d : ℕ) → 1 ≤ limit → 1 ≤ d → Rule (Low (Statement limit) d) (Low (Statement (wide limit)) (wide d)) (statement limit d)
statement_rule limit d lim pos = record { least = statement_begins limit d pos; up = statement_wide limit d; answers = λ ts. statement_answers limit d ts lim pos }
