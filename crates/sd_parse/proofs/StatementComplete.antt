-- What is spelled as a statement is read, where no `else` follows.
use Rattle.std.proofs.Common.{◌≡◌, ℕ, zero, suc, ◌<◌, ◌≤◌, max, true, false, List, [], ◌∷◌, ◌++◌, length, refl, ap, sym, ◌∙◌, subst, arith, append_assoc}
use Rattle.std.specs.Prelude.{Bool, Some}
use Rattle.std.proofs.lemmas.List.{append-nil}
use Rattle.sd_base.specs.declared.Place.{Place}
use Rattle.sd_base.specs.Value.{Text}
use Rattle.sd_lex.specs.declared.Token.{Token}
use Rattle.sd_ast.specs.declared.Expr.{Expr}
use Rattle.sd_ast.specs.declared.Left.{Left}
use Rattle.sd_ast.specs.declared.Invariant.{Invariant}
use Rattle.sd_ast.specs.declared.Stmt.{Stmt}
use Rattle.sd_ast.specs.declared.StmtKind.{Assert, Assume, Assign, Call, If, While, Break, Return}
use Rattle.sd_parse.specs.declared.class.TokenClass.{TokenClass}
use Rattle.sd_parse.specs.declared.class.TokenClass.TheVariants as s
use Rattle.sd_parse.specs.TokenClasses.{class}
use Rattle.sd_parse.specs.Grammar.{Tokens, Whole, Is, IsName}
use Rattle.sd_parse.specs.Rows as w
use Rattle.sd_parse.specs.Rows.{Row, Commas, Enclosed}
use Rattle.sd_parse.specs.Clauses as c
use Rattle.sd_parse.specs.Clauses.{Expression, Attributes, Claim, Clause}
use Rattle.sd_parse.specs.Statements as st
use Rattle.sd_parse.specs.Statements.{Index, LeftSide, Receivers, InvariantLine, Statement, Otherwise, Block, Statements, stated}
use Rattle.sd_parse.specs.Reading.{Got, Reader, and_then, ahead, class_of, want, name}
use Rattle.sd_parse.specs.ReadingRows.{is, push, plain_name}
use Rattle.sd_parse.specs.ReadingRows as reading
use Rattle.sd_parse.specs.ReadingClauses.{expression, attributes, claim}
use Rattle.sd_parse.specs.ReadingStatements.{index, indices, left, plain_left, begins_invariant, stated_invariant, invariant_by, loop_invariant, invariants, begins_statement, asserted, assumed, assigned, applied, applied_to, received, call_by, call_from, called, statements, block, branch_by, branch, otherwise_by, otherwise, guard, conditional, looped, broken, returned, statement_by, statement_layer, statement}
use Rattle.sd_parse.proofs.Texts.{same_is}
use Rattle.sd_parse.proofs.ExpressionComplete.{want_reads, name_reads, name_class, same_classes, Stops}
use Rattle.sd_parse.proofs.Lists.{Many, none, more, push_all, all_complete}
use Rattle.sd_parse.proofs.Rows.{Low, Next, next, apart, of_commas, row_complete, more_complete, commas_complete, enclosed_complete}
use Rattle.sd_parse.proofs.NameLaws.{NextNames, FirstName, first_of, split_names, more_names_complete, names_first}
use Rattle.sd_parse.proofs.ClauseLaws.{begins_other, expression_first, expression_high, expression_complete, stops_at, stops_at_comma, attributes_complete, claim_first, claim_high, claim_some, claim_complete}
use Rattle.sd_parse.proofs.TypeLaws.{deeper_reads}
use Rattle.sd_parse.proofs.StatementTexts.{some_tokens}

-- No `else` follows.
pub record NoElse (rest : Tokens) : Type 0 where
  pub other : class_of (ahead rest) ≡ s.Else → ⊥

-- No index follows.
abbrev NoIndex : Tokens → Type 0
NoIndex rest = is s.OpenBracket (class_of (ahead rest)) ≡ false

lefts_first : {u : Tokens} {ls : List Left} {h : ℕ} (rest : Tokens) → Commas LeftSide u ls h → class_of (ahead (u ++ rest)) ≡ s.Name
lefts_first rest (w.one (st.left {t = t} {x = x} i m)) = name_class x t i
lefts_first rest (w.more (st.left {t = t} {x = x} i m) j n) = name_class x t i

pub begins_first : {limit : ℕ} {u : Tokens} {x : Stmt} {h : ℕ} (rest : Tokens) → Statement limit u x h → begins_statement (class_of (ahead (u ++ rest))) ≡ true
begins_first rest (st.asserted f) = ap begins_statement (claim_first rest f)
begins_first rest (st.assumed f) = ap begins_statement (claim_first rest f)
begins_first rest (st.assigned l i q j) = ap begins_statement (lefts_first rest l)
begins_first rest (st.called i a r n q j) = ap begins_statement i.same
begins_first rest (st.conditional i j q k b o) = ap begins_statement i.same
begins_first rest (st.loop i j q k b o) = ap begins_statement i.same
begins_first rest (st.broken i j) = ap begins_statement i.same
begins_first rest (st.returned i j) = ap begins_statement i.same

pub begins_none : (x y : TokenClass) → begins_statement x ≡ true → begins_statement y ≡ false → x ≡ y → ⊥
begins_none x y e f g = let z : begins_statement y ≡ true = ap begins_statement (sym g) ∙ e in cc

many_low : (limit d : ℕ) {u : Tokens} {xs : List Stmt} {h : ℕ} → Statements limit u xs h → h ≤ d → Many (Low (Statement limit) d) u xs
many_low limit d st.none low = none
many_low limit d (st.more {h = h} f m) low = more (record { height = h; spelt = f; low = omega arith }) (many_low limit d m (omega arith))

-- ---- the parts of a statement

module _ (d : ℕ) where
  index_reads : (u : Tokens) (e : Expr) (h : ℕ) (rest : Tokens) → Index u e h → h ≤ d → index d (u ++ rest) ≡ Got e rest
  unfolding index
  index_reads w e h rest (st.index {o = o} {c = k} {u = u} i f j) low =
      let split : (u ++ k ∷ []) ++ rest ≡ u ++ k ∷ rest = append_assoc u (k ∷ []) rest in
      let read : expression d (u ++ k ∷ rest) ≡ Got e (k ∷ rest) = expression_complete d u e h (k ∷ rest) f low (stops_at s.CloseBracket (k ∷ rest) j.same (omega arith)) in
      rw (split, read, want_reads s.CloseBracket k rest j) refl

  index_some : (u : Tokens) (e : Expr) (h : ℕ) → Index u e h → 0 < length u
  index_some u e h (st.index i f j) = omega arith

  index_first : (u : Tokens) (e : Expr) (h : ℕ) (rest : Tokens) → Index u e h → is s.OpenBracket (class_of (ahead (u ++ rest))) ≡ true
  index_first u e h rest (st.index {o = o} i f j) = same_classes (class o) s.OpenBracket i.same

  indices_read : (rest : Tokens) → NoIndex rest → {u : Tokens} {es : List Expr} {h : ℕ} → Row Index u es h → h ≤ d → indices d (u ++ rest) ≡ Got es rest
  unfolding indices
  indices_read rest stops m low = row_complete Index d (is s.OpenBracket) (index d) (λ _. Unit {0}) index_some index_first (λ rest e. tt) (λ u x h rest f low e. index_reads u x h rest f low) rest tt stops m low

  left_reads : (t : Token) (x : Text) (u : Tokens) (es : List Expr) (h : ℕ) (rest : Tokens) → IsName x t → Row Index u es h → h ≤ d → NoIndex rest → left d (t ∷ (u ++ rest)) ≡ Got (record { name = x; indices = es }, t.at) rest
  unfolding left
  left_reads t x u es h rest i m low stops =
      let read : indices d (u ++ rest) ≡ Got es rest = indices_read rest stops m low in
      rw (name_reads x t (u ++ rest) i, read) refl

  plain_reads : (u : Tokens) (l : Left) (rest : Tokens) → Low LeftSide d u l → NoIndex rest → plain_left d (u ++ rest) ≡ Got l rest
  unfolding plain_left
  plain_reads u l rest f stops = by_text f.spelt f.low
    where
      by_text : {u : Tokens} {l : Left} {h : ℕ} → LeftSide u l h → h ≤ d → plain_left d (u ++ rest) ≡ Got l rest
      by_text (st.left {t = t} {x = x} {u = v} {es = es} {h = h} i m) low = rw (left_reads t x v es h rest i m low stops) refl

  -- left sides as the first and those that follow
  data FirstLeft : Tokens → List Left → Type 0 where
    first_left : {t : Token} {x : Text} {u v : Tokens} {es : List Expr} {ls : List Left} {h : ℕ} → IsName x t → Row Index u es h → h ≤ d → Many (Next (Low LeftSide d)) v ls → FirstLeft (t ∷ (u ++ v)) (record { name = x; indices = es } ∷ ls)

  split_lefts : {u : Tokens} {ls : List Left} {h : ℕ} → Commas LeftSide u ls h → h ≤ d → FirstLeft u ls
  split_lefts (w.one (st.left {t = t} {x = x} {u = u} {es = es} i m)) low = subst (λ z. FirstLeft (t ∷ z) (record { name = x; indices = es } ∷ [])) (append-nil u) (first_left i m low none)
  split_lefts (w.more (st.left i m) j n) low = first_left i m (omega arith) (of_commas LeftSide d j n (omega arith))

  next_left_stops : (b : Token) (rest : Tokens) → Is s.Becomes b → {v : Tokens} {ls : List Left} → Many (Next (Low LeftSide d)) v ls → NoIndex (v ++ b ∷ rest)
  next_left_stops b rest i none = apart s.Becomes s.OpenBracket (b ∷ rest) i.same (λ e. cc)
  next_left_stops b rest i (more {v = v} (next {c = c} {u = u} j f) m) = apart s.Comma s.OpenBracket (c ∷ ((u ++ v) ++ b ∷ rest)) j.same (λ e. cc)

  values_read : (rest : Tokens) → class_of (ahead rest) ≡ s.Semi → {u : Tokens} {es : List Expr} {h : ℕ} → Commas Expression u es h → h ≤ d → reading.commas (expression d) (u ++ rest) ≡ Got es rest
  values_read rest e m low = commas_complete Expression d (expression d) (Stops Whole) stops_at_comma (expression_complete d) rest (stops_at s.Semi rest e (omega arith)) (apart s.Semi s.Comma rest e (λ e. cc)) m low

  arguments_read : (rest : Tokens) → {u : Tokens} {es : List Expr} {h : ℕ} → Enclosed Expression u es h → h ≤ d → reading.enclosed (expression d) (u ++ rest) ≡ Got es rest
  arguments_read rest m low = enclosed_complete Expression d (expression d) (Stops Whole) stops_at_comma (expression_complete d) (λ rest e. stops_at s.Close rest e (omega arith))
      (λ u x h rest f e. begins_other (class_of (ahead (u ++ rest))) s.Close (expression_first rest f) refl e) rest m low

arguments_first : {u : Tokens} {es : List Expr} {h : ℕ} (rest : Tokens) → Enclosed Expression u es h → class_of (ahead (u ++ rest)) ≡ s.Open
arguments_first rest (w.none i j) = i.same
arguments_first rest (w.some i m j) = i.same

-- ---- invariants

module _ (limit d : ℕ) where
  stated_reads : (f : Bool) {u : Tokens} {k : Place × Expr} {h : ℕ} (rest : Tokens) → Claim limit s.Invariant u k h → h ≤ d → stated_invariant limit d f (u ++ rest) ≡ Got (record { free = f; expr = k.1 }) rest
  unfolding stated_invariant
  stated_reads f {u = u} {k = k} rest m low =
      let read : claim limit d s.Invariant (u ++ rest) ≡ Got k rest = claim_complete limit d s.Invariant rest m low in
      rw read refl

  clause_reads : {u : Tokens} {f : Bool} {e : Expr} {h : ℕ} (rest : Tokens) → Clause limit s.Invariant u f e h → h ≤ d → loop_invariant limit d (u ++ rest) ≡ Got (record { free = f; expr = e }) rest
  unfolding loop_invariant
  clause_reads rest (c.checked {u = u} m) low = ap (λ x. invariant_by limit d x (u ++ rest)) (claim_first rest m) ∙ stated_reads false rest m low
  clause_reads rest (c.free {f = t} {u = u} i m) low = ap (λ x. invariant_by limit d x (t ∷ u ++ rest)) i.same ∙ stated_reads true rest m low

  invariant_reads : (u : Tokens) (x : Invariant) (h : ℕ) (rest : Tokens) → InvariantLine limit u x h → h ≤ d → loop_invariant limit d (u ++ rest) ≡ Got x rest
  invariant_reads u x h rest (st.line m) low = clause_reads rest m low

  invariant_first : (u : Tokens) (x : Invariant) (h : ℕ) (rest : Tokens) → InvariantLine limit u x h → begins_invariant (class_of (ahead (u ++ rest))) ≡ true
  invariant_first u x h rest (st.line (c.checked m)) = ap begins_invariant (claim_first rest m)
  invariant_first u x h rest (st.line (c.free i m)) = ap begins_invariant i.same

  invariant_some : (u : Tokens) (x : Invariant) (h : ℕ) → InvariantLine limit u x h → 0 < length u
  invariant_some u x h (st.line (c.checked m)) = claim_some m
  invariant_some u x h (st.line (c.free i m)) = omega arith

  invariants_read : (rest : Tokens) → class_of (ahead rest) ≡ s.OpenBrace → {u : Tokens} {is : List Invariant} {h : ℕ} → Row (InvariantLine limit) u is h → h ≤ d → invariants limit d (u ++ rest) ≡ Got is rest
  unfolding invariants
  invariants_read rest e m low = row_complete (InvariantLine limit) d begins_invariant (loop_invariant limit d) (λ _. Unit {0}) invariant_some invariant_first (λ rest e. tt) (λ u x h rest f low e. invariant_reads u x h rest f low) rest tt (ap begins_invariant e) m low

-- ---- statements

module _ (limit d : ℕ) (inner : Reader Stmt) (completes : (u : Tokens) (x : Stmt) (h : ℕ) (rest : Tokens) → Statement limit u x h → h ≤ d → NoElse rest → inner (u ++ rest) ≡ Got x rest) where
  asserted_reads : {u : Tokens} {p : Place} {e : Expr} {h : ℕ} (rest : Tokens) → Claim limit s.Assert u (p, e) h → suc h ≤ suc d → statement_layer limit d inner (u ++ rest) ≡ Got (stated p (Assert e)) rest
  unfolding statement_layer asserted
  asserted_reads {u = u} {p = p} {e = e} rest m low =
      ap (λ x. statement_by limit d inner x (u ++ rest)) (claim_first rest m)
      ∙ deeper_reads d (λ ts. and_then (claim limit d s.Assert ts) (λ k ts. Got (stated k.0 (Assert k.1)) ts)) (stated p (Assert e)) (u ++ rest) rest (let z = claim_high m in omega arith)
      (let read : claim limit d s.Assert (u ++ rest) ≡ Got (p, e) rest = claim_complete limit d s.Assert rest m (omega arith) in rw read refl)

  assumed_reads : {u : Tokens} {p : Place} {e : Expr} {h : ℕ} (rest : Tokens) → Claim limit s.Assume u (p, e) h → suc h ≤ suc d → statement_layer limit d inner (u ++ rest) ≡ Got (stated p (Assume e)) rest
  unfolding statement_layer assumed
  assumed_reads {u = u} {p = p} {e = e} rest m low =
      ap (λ x. statement_by limit d inner x (u ++ rest)) (claim_first rest m)
      ∙ deeper_reads d (λ ts. and_then (claim limit d s.Assume ts) (λ k ts. Got (stated k.0 (Assume k.1)) ts)) (stated p (Assume e)) (u ++ rest) rest (let z = claim_high m in omega arith)
      (let read : claim limit d s.Assume (u ++ rest) ≡ Got (p, e) rest = claim_complete limit d s.Assume rest m (omega arith) in rw read refl)

  values_high : {u : Tokens} {es : List Expr} {h : ℕ} → Commas Expression u es h → 1 ≤ h
  values_high (w.one f) = expression_high f
  values_high (w.more f i m) = let z = expression_high f in omega arith

  -- the parts of an assignment, one after another
  assignment : Reader Stmt
  assignment = λ ts. and_then (left d ts) (λ l ts. and_then (reading.more (plain_left d) (l.0 ∷ []) ts) (λ ls ts. and_then (want s.Becomes ts) (λ _ ts. and_then (reading.commas (expression d) ts) (λ es ts. and_then (want s.Semi ts) (λ _ ts. Got (stated l.1 (Assign ls es)) ts)))))

  assignment_reads : {y v : Tokens} {ls : List Left} {es : List Expr} {k : ℕ} (t b c : Token) (rest : Tokens) → FirstLeft d y ls → ahead y ≡ Some t → Is s.Becomes b → Commas Expression v es k → k ≤ d → Is s.Semi c
      → assignment (y ++ (b ∷ (v ++ c ∷ rest))) ≡ Got (stated t.at (Assign ls es)) rest
  unfolding assignment
  assignment_reads {v = q} {es = es} t b c rest (first_left {t = f} {x = x} {u = u} {v = v} {es = is} {ls = ls} {h = h} i m fits n) e j g low k =
      let same : f ≡ t = cc in
      let first : left d (f ∷ (u ++ (v ++ (b ∷ (q ++ c ∷ rest))))) ≡ Got (record { name = x; indices = is }, f.at) (v ++ (b ∷ (q ++ c ∷ rest))) = left_reads d f x u is h (v ++ (b ∷ (q ++ c ∷ rest))) i m fits (next_left_stops d b (q ++ c ∷ rest) j n) in
      let second : reading.more (plain_left d) (record { name = x; indices = is } ∷ []) (v ++ (b ∷ (q ++ c ∷ rest))) ≡ Got (record { name = x; indices = is } ∷ ls) (b ∷ (q ++ c ∷ rest)) =
      more_complete (Low LeftSide d) (plain_left d) NoIndex (λ rest e. apart s.Comma s.OpenBracket rest (same_is (class_of (ahead rest)) s.Comma e) (λ e. cc)) (plain_reads d)
      (b ∷ (q ++ c ∷ rest)) (apart s.Becomes s.OpenBracket (b ∷ (q ++ c ∷ rest)) j.same (λ e. cc)) (apart s.Becomes s.Comma (b ∷ (q ++ c ∷ rest)) j.same (λ e. cc)) n (record { name = x; indices = is } ∷ []) in
      let third : reading.commas (expression d) (q ++ c ∷ rest) ≡ Got es (c ∷ rest) = values_read d (c ∷ rest) k.same g low in
      simp append_assoc (rw (first, second, want_reads s.Becomes b (q ++ c ∷ rest) j, third, want_reads s.Semi c rest k) (ap (λ t. Got (stated t.at (Assign (record { name = x; indices = is } ∷ ls) es)) rest) same))

  assigned_reads : (t b c : Token) (u v : Tokens) (ls : List Left) (es : List Expr) (h k : ℕ) (rest : Tokens) → Commas LeftSide (t ∷ u) ls h → Is s.Becomes b → Commas Expression v es k → Is s.Semi c → suc (max h k) ≤ suc d
      → statement_layer limit d inner ((t ∷ u ++ b ∷ (v ++ c ∷ [])) ++ rest) ≡ Got (stated t.at (Assign ls es)) rest
  unfolding statement_layer assigned assignment
  assigned_reads t b c u v ls es h k rest l i m j low =
      let split : (u ++ b ∷ (v ++ c ∷ [])) ++ rest ≡ u ++ b ∷ (v ++ c ∷ rest) = append_assoc u (b ∷ (v ++ c ∷ [])) rest ∙ ap (λ z. u ++ b ∷ z) (append_assoc v (c ∷ []) rest) in
      ap (λ x. statement_by limit d inner x ((t ∷ u ++ b ∷ (v ++ c ∷ [])) ++ rest)) (lefts_first [] l)
      ∙ ap (λ ts. assigned limit d inner (t ∷ ts)) split
      ∙ deeper_reads d assignment (stated t.at (Assign ls es)) (t ∷ (u ++ b ∷ (v ++ c ∷ rest))) rest (let z = values_high m in omega arith)
      (assignment_reads t b c rest (split_lefts d l (omega arith)) refl i m (omega arith) j)

  applied_reads : (p : Place) (xs : List Text) (n k : Token) (f : Text) {u : Tokens} {es : List Expr} {h : ℕ} (rest : Tokens) → IsName f n → Enclosed Expression u es h → h ≤ d → Is s.Semi k → applied limit d inner p xs (n ∷ (u ++ k ∷ rest)) ≡ Got (stated p (Call xs f es)) rest
  unfolding applied
  applied_reads p xs n k f {u = u} {es = es} rest i m low j =
      let read : reading.enclosed (expression d) (u ++ k ∷ rest) ≡ Got es (k ∷ rest) = arguments_read d (k ∷ rest) m low in
      rw (name_reads f n (u ++ k ∷ rest) i, read, want_reads s.Semi k rest j) refl

  applied_to_reads : (p : Place) (f : Text) (k : Token) {u : Tokens} {es : List Expr} {h : ℕ} (rest : Tokens) → Enclosed Expression u es h → h ≤ d → Is s.Semi k → applied_to limit d inner p f (u ++ k ∷ rest) ≡ Got (stated p (Call [] f es)) rest
  unfolding applied_to
  applied_to_reads p f k {u = u} {es = es} rest m low j =
      let read : reading.enclosed (expression d) (u ++ k ∷ rest) ≡ Got es (k ∷ rest) = arguments_read d (k ∷ rest) m low in
      rw (read, want_reads s.Semi k rest j) refl

  received_reads : (p : Place) (x : Text) (b : Token) {v : Tokens} {xs : List Text} (ts rest : Tokens) (y : Stmt) → NextNames v xs → Is s.Becomes b → applied limit d inner p (x ∷ xs) ts ≡ Got y rest → received limit d inner p x (v ++ b ∷ ts) ≡ Got y rest
  unfolding received
  received_reads p x b {v = v} {xs = xs} ts rest y m i r =
      let read : reading.more plain_name (x ∷ []) (v ++ b ∷ ts) ≡ Got (x ∷ xs) (b ∷ ts) = more_names_complete (b ∷ ts) (apart s.Becomes s.Comma (b ∷ ts) i.same (λ e. cc)) m (x ∷ []) in
      rw (read, want_reads s.Becomes b ts i) r

  -- what follows the first receiver
  call_received : (p : Place) (x : Text) (b : Token) {v : Tokens} {xs : List Text} (ts : Tokens) → NextNames v xs → Is s.Becomes b → call_from limit d inner p x (v ++ b ∷ ts) ≡ received limit d inner p x (v ++ b ∷ ts)
  unfolding call_from
  call_received p x b ts none i = ap (λ y. call_by limit d inner p x y (b ∷ ts)) i.same
  call_received p x b ts (more {v = v} (next {c = c} {u = u} j f) m) i = ap (λ y. call_by limit d inner p x y (c ∷ ((u ++ v) ++ b ∷ ts))) j.same

  call_direct : (p : Place) (x : Text) (ts : Tokens) → class_of (ahead ts) ≡ s.Open → call_from limit d inner p x ts ≡ applied_to limit d inner p x ts
  unfolding call_from
  call_direct p x ts e = ap (λ y. call_by limit d inner p x y ts) e

  -- a call after its attributes
  receiver_reads : (p : Place) (n k : Token) (f : Text) {u v : Tokens} {xs : List Text} {es : List Expr} {h : ℕ} (rest : Tokens) → Receivers u xs → IsName f n → Enclosed Expression v es h → h ≤ d → Is s.Semi k
      → and_then (name (u ++ (n ∷ (v ++ k ∷ rest)))) (λ x. call_from limit d inner p x.0) ≡ Got (stated p (Call xs f es)) rest
  receiver_reads p n k f {v = v} rest st.none i m low j = rw (name_reads f n (v ++ k ∷ rest) i) (call_direct p f (v ++ k ∷ rest) (arguments_first (k ∷ rest) m) ∙ applied_to_reads p f k rest m low j)
  receiver_reads p n k f {v = v} {xs = xs} {es = es} rest (st.some {b = b} {u = u} r l) i m low j = ap (λ ts. and_then (name ts) (λ x. call_from limit d inner p x.0)) (append_assoc u (b ∷ []) (n ∷ (v ++ k ∷ rest))) ∙ by_names (split_names r)
    where
      by_names : {u : Tokens} {xs : List Text} → FirstName u xs → and_then (name (u ++ (b ∷ (n ∷ (v ++ k ∷ rest))))) (λ x. call_from limit d inner p x.0) ≡ Got (stated p (Call xs f es)) rest
      by_names (first_of {t = t} {x = x} {u = q} {xs = ys} o a) = rw (name_reads x t (q ++ (b ∷ (n ∷ (v ++ k ∷ rest)))) o)
          (call_received p x b (n ∷ (v ++ k ∷ rest)) a l ∙ received_reads p x b (n ∷ (v ++ k ∷ rest)) rest (stated p (Call (x ∷ ys) f es)) a l (applied_reads p (x ∷ ys) n k f rest i m low j))

  receivers_first : {u : Tokens} {xs : List Text} (n : Token) (f : Text) (ts : Tokens) → Receivers u xs → IsName f n → class_of (ahead (u ++ n ∷ ts)) ≡ s.Name
  receivers_first n f ts st.none i = name_class f n i
  receivers_first n f ts (st.some {b = b} {u = u} r l) i = ap (λ z. class_of (ahead z)) (append_assoc u (b ∷ []) (n ∷ ts)) ∙ names_first (b ∷ (n ∷ ts)) r

  called_reads : (t n k : Token) (f : Text) (a u v : Tokens) (xs : List Text) (es : List Expr) (h : ℕ) (rest : Tokens) → Is s.Call t → Attributes limit a → Receivers u xs → IsName f n → Enclosed Expression v es h → Is s.Semi k → suc h ≤ suc d
      → statement_layer limit d inner ((t ∷ a ++ (u ++ n ∷ (v ++ k ∷ []))) ++ rest) ≡ Got (stated t.at (Call xs f es)) rest
  unfolding statement_layer called
  called_reads t n k f a u v xs es h rest i l r j m o low =
      let split : (a ++ (u ++ n ∷ (v ++ k ∷ []))) ++ rest ≡ a ++ (u ++ n ∷ (v ++ k ∷ rest)) =
      append_assoc a (u ++ n ∷ (v ++ k ∷ [])) rest ∙ ap (λ z. a ++ z) (append_assoc u (n ∷ (v ++ k ∷ [])) rest ∙ ap (λ z. u ++ n ∷ z) (append_assoc v (k ∷ []) rest)) in
      let first : attributes limit (a ++ (u ++ n ∷ (v ++ k ∷ rest))) ≡ Got tt (u ++ n ∷ (v ++ k ∷ rest)) = attributes_complete limit (u ++ n ∷ (v ++ k ∷ rest)) (apart s.Name s.OpenAttribute (u ++ n ∷ (v ++ k ∷ rest)) (receivers_first n f (v ++ k ∷ rest) r j) (λ e. cc)) l in
      ap (λ x. statement_by limit d inner x ((t ∷ a ++ (u ++ n ∷ (v ++ k ∷ []))) ++ rest)) i.same
      ∙ rw (split, first) (receiver_reads t.at n k f rest r j m (omega arith) o)

  -- ---- blocks

  pub statements_read : {u : Tokens} {xs : List Stmt} {h : ℕ} (rest : Tokens) → Statements limit u xs h → h ≤ d → class_of (ahead rest) ≡ s.CloseBrace → statements limit d inner (u ++ rest) ≡ Got xs rest
  unfolding statements
  statements_read rest m low e = all_complete (Low (Statement limit) d) begins_statement inner push NoElse
      (λ u x f. some_tokens f.spelt) (λ u x rest f. begins_first rest f.spelt) (λ rest e. record { other = begins_none (class_of (ahead rest)) s.Else e refl }) (λ u x rest f e. completes u x f.height rest f.spelt f.low e)
      rest (record { other = λ f. let z : s.CloseBrace ≡ s.Else = sym e ∙ f in cc }) (ap begins_statement e) (push_all (Low (Statement limit) d) begins_statement (many_low limit d m low) [])

  block_reads : {v : Tokens} {xs : List Stmt} {h : ℕ} (rest : Tokens) → Block limit v xs h → h ≤ d → block limit d inner (v ++ rest) ≡ Got xs rest
  unfolding block
  block_reads rest (st.braces {o = o} {c = c} {u = u} {xs = xs} i m j) low =
      let r : statements limit d inner (u ++ c ∷ rest) ≡ Got xs (c ∷ rest) = statements_read (c ∷ rest) m low j.same in
      simp append_assoc (rw (want_reads s.OpenBrace o (u ++ c ∷ rest) i, r, want_reads s.CloseBrace c rest j) refl)

  block_first : {v : Tokens} {xs : List Stmt} {h : ℕ} (rest : Tokens) → Block limit v xs h → class_of (ahead (v ++ rest)) ≡ s.OpenBrace
  block_first rest (st.braces i m j) = i.same

  no_otherwise : (x : TokenClass) (ts : Tokens) → (x ≡ s.Else → ⊥) → otherwise_by limit d inner x ts ≡ Got [] ts
  no_otherwise s.Else ts f = absurd (f refl)
  no_otherwise _ ts f = refl

  else_reads : (l : Token) (ts rest : Tokens) (xs : List Stmt) → Is s.Else l → branch limit d inner ts ≡ Got xs rest → otherwise limit d inner (l ∷ ts) ≡ Got xs rest
  unfolding otherwise
  else_reads l ts rest xs i r = ap (λ x. otherwise_by limit d inner x (l ∷ ts)) i.same ∙ r

  block_branch : (ts rest : Tokens) (xs : List Stmt) → class_of (ahead ts) ≡ s.OpenBrace → block limit d inner ts ≡ Got xs rest → branch limit d inner ts ≡ Got xs rest
  unfolding branch
  block_branch ts rest xs e r = ap (λ x. branch_by limit d inner x ts) e ∙ r

  if_branch : (ts rest : Tokens) (x : Stmt) → class_of (ahead ts) ≡ s.If → inner ts ≡ Got x rest → branch limit d inner ts ≡ Got (x ∷ []) rest
  unfolding branch
  if_branch ts rest x e r = ap (λ x. branch_by limit d inner x ts) e ∙ ap (λ s. and_then s (λ x ts. Got (x ∷ []) ts)) r

  otherwise_reads : {w : Tokens} {xs : List Stmt} {h : ℕ} (rest : Tokens) → Otherwise limit w xs h → h ≤ d → NoElse rest → otherwise limit d inner (w ++ rest) ≡ Got xs rest
  unfolding otherwise
  otherwise_reads rest st.nothing low e = no_otherwise (class_of (ahead rest)) rest e.other
  otherwise_reads rest (st.block {l = l} {u = u} {xs = xs} i b) low e = else_reads l (u ++ rest) rest xs i (block_branch (u ++ rest) rest xs (block_first rest b) (block_reads rest b low))
  otherwise_reads rest (st.chained {l = l} {i = t} {u = u} {x = x} {h = h} i j f) low e = else_reads l (t ∷ u ++ rest) rest (x ∷ []) i (if_branch (t ∷ u ++ rest) rest x j.same (completes (t ∷ u) x h rest f low e))

  guard_reads : (t o c : Token) (u : Tokens) (e : Expr) (h : ℕ) (rest : Tokens) → Is s.Open o → Expression u e h → h ≤ d → Is s.Close c → guard limit d inner (t ∷ o ∷ (u ++ c ∷ rest)) ≡ Got (t.at, e) rest
  unfolding guard
  guard_reads t o c u e h rest i f low j =
      let read : expression d (u ++ c ∷ rest) ≡ Got e (c ∷ rest) = expression_complete d u e h (c ∷ rest) f low (stops_at s.Close (c ∷ rest) j.same (omega arith)) in
      rw (want_reads s.Open o (u ++ c ∷ rest) i, read, want_reads s.Close c rest j) refl

  conditional_reads : (t o c : Token) (u v w : Tokens) (e : Expr) (a b : List Stmt) (h k m : ℕ) (rest : Tokens) → Is s.If t → Is s.Open o → Expression u e h → Is s.Close c → Block limit v a k → Otherwise limit w b m
      → suc (max h (max k m)) ≤ suc d → NoElse rest → statement_layer limit d inner ((t ∷ o ∷ u ++ c ∷ (v ++ w)) ++ rest) ≡ Got (stated t.at (If e a b)) rest
  unfolding statement_layer conditional
  conditional_reads t o c u v w e a b h k m rest i j q l x y low stops =
      ap (λ x. statement_by limit d inner x ((t ∷ o ∷ u ++ c ∷ (v ++ w)) ++ rest)) i.same
      ∙ ap (λ ts. conditional limit d inner (t ∷ o ∷ ts)) (append_assoc u (c ∷ (v ++ w)) rest ∙ ap (λ z. u ++ c ∷ z) (append_assoc v w rest))
      ∙ deeper_reads d (λ ts. and_then (guard limit d inner ts) (λ g ts. and_then (block limit d inner ts) (λ a ts. and_then (otherwise limit d inner ts) (λ b ts. Got (stated g.0 (If g.1 a b)) ts))))
      (stated t.at (If e a b)) (t ∷ o ∷ (u ++ c ∷ (v ++ (w ++ rest)))) rest (let z = expression_high q in omega arith)
      (let first : guard limit d inner (t ∷ o ∷ (u ++ c ∷ (v ++ (w ++ rest)))) ≡ Got (t.at, e) (v ++ (w ++ rest)) = guard_reads t o c u e h (v ++ (w ++ rest)) j q (omega arith) l in
      let second : block limit d inner (v ++ (w ++ rest)) ≡ Got a (w ++ rest) = block_reads (w ++ rest) x (omega arith) in
      let third : otherwise limit d inner (w ++ rest) ≡ Got b rest = otherwise_reads rest y (omega arith) stops in
      rw (first, second, third) refl)

  loop_reads : (t o c : Token) (u v w : Tokens) (e : Expr) (a : List Invariant) (b : List Stmt) (h k m : ℕ) (rest : Tokens) → Is s.While t → Is s.Open o → Expression u e h → Is s.Close c → Row (InvariantLine limit) v a k → Block limit w b m
      → suc (max h (max k m)) ≤ suc d → statement_layer limit d inner ((t ∷ o ∷ u ++ c ∷ (v ++ w)) ++ rest) ≡ Got (stated t.at (While e a b)) rest
  unfolding statement_layer looped
  loop_reads t o c u v w e a b h k m rest i j q l x y low =
      ap (λ x. statement_by limit d inner x ((t ∷ o ∷ u ++ c ∷ (v ++ w)) ++ rest)) i.same
      ∙ ap (λ ts. looped limit d inner (t ∷ o ∷ ts)) (append_assoc u (c ∷ (v ++ w)) rest ∙ ap (λ z. u ++ c ∷ z) (append_assoc v w rest))
      ∙ deeper_reads d (λ ts. and_then (guard limit d inner ts) (λ g ts. and_then (invariants limit d ts) (λ a ts. and_then (block limit d inner ts) (λ b ts. Got (stated g.0 (While g.1 a b)) ts))))
      (stated t.at (While e a b)) (t ∷ o ∷ (u ++ c ∷ (v ++ (w ++ rest)))) rest (let z = expression_high q in omega arith)
      (let first : guard limit d inner (t ∷ o ∷ (u ++ c ∷ (v ++ (w ++ rest)))) ≡ Got (t.at, e) (v ++ (w ++ rest)) = guard_reads t o c u e h (v ++ (w ++ rest)) j q (omega arith) l in
      let second : invariants limit d (v ++ (w ++ rest)) ≡ Got a (w ++ rest) = invariants_read limit d (w ++ rest) (block_first rest y) x (omega arith) in
      let third : block limit d inner (w ++ rest) ≡ Got b rest = block_reads rest y (omega arith) in
      rw (first, second, third) refl)

  broken_reads : (t c : Token) (rest : Tokens) → Is s.Break t → Is s.Semi c → statement_layer limit d inner (t ∷ c ∷ rest) ≡ Got (stated t.at Break) rest
  unfolding statement_layer broken
  broken_reads t c rest i j = ap (λ x. statement_by limit d inner x (t ∷ c ∷ rest)) i.same ∙ rw (want_reads s.Semi c rest j) refl

  returned_reads : (t c : Token) (rest : Tokens) → Is s.Return t → Is s.Semi c → statement_layer limit d inner (t ∷ c ∷ rest) ≡ Got (stated t.at Return) rest
  unfolding statement_layer returned
  returned_reads t c rest i j = ap (λ x. statement_by limit d inner x (t ∷ c ∷ rest)) i.same ∙ rw (want_reads s.Semi c rest j) refl

  layer_complete : {u : Tokens} {x : Stmt} {h : ℕ} (rest : Tokens) → Statement limit u x h → h ≤ suc d → NoElse rest → statement_layer limit d inner (u ++ rest) ≡ Got x rest
  layer_complete rest (st.asserted m) low stops = asserted_reads rest m low
  layer_complete rest (st.assumed m) low stops = assumed_reads rest m low
  layer_complete rest (st.assigned {t = t} {b = b} {c = c} {u = u} {v = v} {ls = ls} {es = es} {h = h} {k = k} l i m j) low stops = assigned_reads t b c u v ls es h k rest l i m j low
  layer_complete rest (st.called {t = t} {n = n} {c = c} {f = f} {a = a} {u = u} {v = v} {xs = xs} {es = es} {h = h} i l r j m o) low stops = called_reads t n c f a u v xs es h rest i l r j m o low
  layer_complete rest (st.conditional {t = t} {o = o} {c = c} {u = u} {v = v} {w = w} {e = e} {a = a} {b = b} {h = h} {k = k} {m = m} i j q l x y) low stops = conditional_reads t o c u v w e a b h k m rest i j q l x y low stops
  layer_complete rest (st.loop {t = t} {o = o} {c = c} {u = u} {v = v} {w = w} {e = e} {is = a} {ss = b} {h = h} {k = k} {m = m} i j q l x y) low stops = loop_reads t o c u v w e a b h k m rest i j q l x y low
  layer_complete rest (st.broken {t = t} {c = c} i j) low stops = broken_reads t c rest i j
  layer_complete rest (st.returned {t = t} {c = c} i j) low stops = returned_reads t c rest i j

high : {limit : ℕ} {u : Tokens} {x : Stmt} {h : ℕ} → Statement limit u x h → 1 ≤ h
high (st.asserted f) = omega arith
high (st.assumed f) = omega arith
high (st.assigned l i q j) = omega arith
high (st.called i a r n q j) = omega arith
high (st.conditional i j q k b o) = omega arith
high (st.loop i j q k b o) = omega arith
high (st.broken i j) = omega arith
high (st.returned i j) = omega arith

-- What is spelled is read.
pub statement_complete : (limit d : ℕ) (u : Tokens) (x : Stmt) (h : ℕ) (rest : Tokens) → Statement limit u x h → h ≤ d → NoElse rest → statement limit d (u ++ rest) ≡ Got x rest
unfolding statement
statement_complete limit zero u x h rest f low stops = absurd (let z = high f in omega arith)
statement_complete limit (suc d) u x h rest f low stops = layer_complete limit d (statement limit d) (statement_complete limit d) rest f low stops
