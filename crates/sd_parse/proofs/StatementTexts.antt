-- What the parts of a statement make, each as its reader reads it.
use Rattle.std.proofs.Common.{◌≡◌, ℕ, zero, suc, ◌<◌, max, true, false, cond, List, [], ◌∷◌, ◌++◌, length, refl, ap, sym, ◌∙◌, subst, arith, append_assoc}
use Rattle.std.specs.Prelude.{Bool}
use Rattle.std.proofs.lemmas.List.{append-nil}
use Rattle.sd_base.specs.declared.Place.{Place}
use Rattle.sd_base.specs.Value.{Text}
use Rattle.sd_lex.specs.declared.Token.{Token}
use Rattle.sd_ast.specs.declared.Expr.{Expr}
use Rattle.sd_ast.specs.declared.Left.{Left}
use Rattle.sd_ast.specs.declared.Invariant.{Invariant}
use Rattle.sd_ast.specs.declared.Stmt.{Stmt}
use Rattle.sd_ast.specs.declared.StmtKind.{Assert, Assume, Assign, Call, If, While, Break, Return}
use Rattle.sd_parse.specs.declared.class.TokenClass.{TokenClass}
use Rattle.sd_parse.specs.declared.class.TokenClass.TheVariants as s
use Rattle.sd_parse.specs.Grammar.{Tokens, Is, IsName}
use Rattle.sd_parse.specs.Rows.{Row, Commas, Enclosed}
use Rattle.sd_parse.specs.Clauses as c
use Rattle.sd_parse.specs.Clauses.{Expression, Attributes, Claim}
use Rattle.sd_parse.specs.Statements as st
use Rattle.sd_parse.specs.Statements.{Index, LeftSide, InvariantLine, Statement, Otherwise, Block, Statements, stated}
use Rattle.sd_parse.specs.Reading.{Syntax, Deep, Step, Got, Bad, Reader, and_then, ahead, class_of, want}
use Rattle.sd_parse.specs.ReadingRows.{is, push, plain_name}
use Rattle.sd_parse.specs.ReadingRows as reading
use Rattle.sd_parse.specs.ReadingClauses.{expression, claim}
use Rattle.sd_parse.specs.ReadingStatements.{index, indices, left, plain_left, begins_invariant, stated_invariant, invariant_by, loop_invariant, invariants, begins_statement, asserted, assumed, assigned, applied, applied_to, received, call_by, call_from, called, statements, block, branch_by, branch, otherwise_by, otherwise, guard, conditional, looped, broken, returned, statement_by, statement_layer, statement}
use Rattle.sd_parse.proofs.Texts.{Wanted, wanted, Named, named, Nothing, settle, Both, both}
use Rattle.sd_parse.proofs.Lists.{Many, Behind, none, more}
use Rattle.sd_parse.proofs.Rows.{Low, Next, commas_of}
use Rattle.sd_parse.proofs.NameLaws.{NextNames, first_name}
use Rattle.sd_parse.proofs.ClauseLaws.{AttributesText, claim_some}

pub low_statements : (limit d : ℕ) {u : Tokens} {xs : List Stmt} → Many (Low (Statement limit) d) u xs → Low (Statements limit) d u xs
low_statements limit d none = record { height = 0; spelt = st.none; low = omega arith }
low_statements limit d (more f m) = let w = low_statements limit d m in record { height = max f.height w.height; spelt = st.more f.spelt w.spelt; low = let y = f.low in let z = w.low in omega arith }

pub some_tokens : {limit : ℕ} {u : Tokens} {x : Stmt} {h : ℕ} → Statement limit u x h → 0 < length u
some_tokens (st.asserted f) = claim_some f
some_tokens (st.assumed f) = claim_some f
some_tokens _ = omega arith

-- a statement that begins with `if`
pub data IfStatement (limit d : ℕ) : Tokens → Stmt → Type 0 where
  if_statement : {i : Token} {u : Tokens} {x : Stmt} → Is s.If i → Low (Statement limit) d (i ∷ u) x → IfStatement limit d (i ∷ u) x

-- what stands after `else`
pub data Branch (limit d : ℕ) : Tokens → List Stmt → Type 0 where
  of_block : {u : Tokens} {xs : List Stmt} → Low (Block limit) d u xs → Branch limit d u xs
  of_if : {u : Tokens} {x : Stmt} → IfStatement limit d u x → Branch limit d u (x ∷ [])

chained : {limit d : ℕ} {l : Token} {u : Tokens} {x : Stmt} → Is s.Else l → IfStatement limit d u x → Low (Otherwise limit) d (l ∷ u) (x ∷ [])
chained i (if_statement j w) = record { height = w.height; spelt = st.chained i j w.spelt; low = w.low }

pub after_else : {limit d : ℕ} {l : Token} {u : Tokens} {xs : List Stmt} → Is s.Else l → Branch limit d u xs → Low (Otherwise limit) d (l ∷ u) xs
after_else i (of_block w) = record { height = w.height; spelt = st.block i w.spelt; low = w.low }
after_else i (of_if w) = chained i w

-- ---- the parts of a statement

-- a left side, with the place where it begins
pub data PlacedLeft (d : ℕ) : Tokens → Left × Place → Type 0 where
  placed_left : {t : Token} {u : Tokens} {l : Left} → Low LeftSide d (t ∷ u) l → PlacedLeft d (t ∷ u) (l, t.at)

module _ (d : ℕ) where
  pub to_index : (u : Tokens) (x : Expr) → Both (Wanted s.OpenBracket) (λ _. Both (Low Expression d) (λ e. Both (Wanted s.CloseBracket) (λ _. Nothing e))) u x → Low Index d u x
  to_index u x (both (wanted {t = o} i) (both {u = v} w (both (wanted {t = c} j) n))) = settle n (λ z x. Low Index d (o ∷ (v ++ c ∷ z)) x) (record { height = w.height; spelt = st.index i w.spelt j; low = w.low })

  pub to_left : (u : Tokens) (x : Left × Place) → Both Named (λ y. Both (Low (Row Index) d) (λ es. Nothing (record { name = y.0; indices = es }, y.1))) u x → PlacedLeft d u x
  to_left u x (both (named {t = t} {x = y} i) (both {u = v} {x = es} w n)) =
      settle n (λ z x. PlacedLeft d (t ∷ (v ++ z)) x) (subst (λ z. PlacedLeft d (t ∷ z) (record { name = y; indices = es }, t.at)) (sym (append-nil v)) (placed_left (record { height = w.height; spelt = st.left i w.spelt; low = w.low })))

  pub to_plain : (u : Tokens) (x : Left) → Both (PlacedLeft d) (λ l. Nothing l.0) u x → Low LeftSide d u x
  to_plain u x (both (placed_left {t = t} {u = v} {l = l} w) n) = settle n (λ z x. Low LeftSide d (t ∷ (v ++ z)) x) (subst (λ z. Low LeftSide d (t ∷ z) l) (sym (append-nil v)) w)

  -- an expression in parentheses after a word
  pub data Guarded (word : TokenClass) : Tokens → Place × Expr → Type 0 where
    guarded : {t o k : Token} {u : Tokens} {e : Expr} → Is word t → Is s.Open o → Low Expression d u e → Is s.Close k → Guarded word (t ∷ o ∷ u ++ k ∷ []) (t.at, e)

  pub to_guard : (word : TokenClass) (u : Tokens) (x : Place × Expr) → Both (Wanted word) (λ p. Both (Wanted s.Open) (λ _. Both (Low Expression d) (λ e. Both (Wanted s.Close) (λ _. Nothing (p, e))))) u x → Guarded word u x
  to_guard word u x (both (wanted {t = t} i) (both (wanted {t = o} j) (both {u = v} w (both (wanted {t = k} l) n)))) = settle n (λ z x. Guarded word (t ∷ o ∷ (v ++ k ∷ z)) x) (guarded i j w l)

  -- a call from its procedure's name on
  pub data Applied (p : Place) (xs : List Text) : Tokens → Stmt → Type 0 where
    applied_text : {n k : Token} {f : Text} {u : Tokens} {es : List Expr} → IsName f n → Low (Enclosed Expression) d u es → Is s.Semi k → Applied p xs (n ∷ u ++ k ∷ []) (stated p (Call xs f es))

  -- a call after its first name
  pub data CallFrom (p : Place) (x : Text) : Tokens → Stmt → Type 0 where
    through : {b : Token} {u v : Tokens} {xs : List Text} {y : Stmt} → NextNames u xs → Is s.Becomes b → Applied p (x ∷ xs) v y → CallFrom p x (u ++ b ∷ v) y
    direct : {k : Token} {u : Tokens} {es : List Expr} → Low (Enclosed Expression) d u es → Is s.Semi k → CallFrom p x (u ++ k ∷ []) (stated p (Call [] x es))

-- ---- invariants

module _ (limit d : ℕ) where
  pub data StatedInvariant (f : Bool) : Tokens → Invariant → Type 0 where
    stated_line : {u : Tokens} {k : Place × Expr} → Low (Claim limit s.Invariant) d u k → StatedInvariant f u (record { free = f; expr = k.1 })

  pub to_stated : (f : Bool) (u : Tokens) (x : Invariant) → Both (Low (Claim limit s.Invariant) d) (λ k. Nothing (record { free = f; expr = k.1 })) u x → StatedInvariant f u x
  to_stated f u x (both {u = v} {x = k} w n) = settle n (λ z x. StatedInvariant f (v ++ z) x) (subst (λ z. StatedInvariant f z (record { free = f; expr = k.1 })) (sym (append-nil v)) (stated_line w))

  pub to_free : (u : Tokens) (x : Invariant) → Both (Wanted s.Free) (λ _. StatedInvariant true) u x → Low (InvariantLine limit) d u x
  to_free u x (both (wanted i) (stated_line w)) = record { height = w.height; spelt = st.line (c.free i w.spelt); low = w.low }

  pub to_checked : (u : Tokens) (x : Invariant) → StatedInvariant false u x → Low (InvariantLine limit) d u x
  to_checked u x (stated_line w) = record { height = w.height; spelt = st.line (c.checked w.spelt); low = w.low }

-- ---- statements

-- what the parts of a statement make
module _ (limit d : ℕ) where
  pub to_asserted : (u : Tokens) (x : Stmt) → Both (Low (Claim limit s.Assert) d) (λ k. Nothing (stated k.0 (Assert k.1))) u x → Low (Statement limit) (suc d) u x
  to_asserted u x (both {u = v} {x = k} w n) = settle n (λ z x. Low (Statement limit) (suc d) (v ++ z) x)
      (subst (λ z. Low (Statement limit) (suc d) z (stated k.0 (Assert k.1))) (sym (append-nil v)) (record { height = suc w.height; spelt = st.asserted w.spelt; low = let z = w.low in omega arith }))

  pub to_assumed : (u : Tokens) (x : Stmt) → Both (Low (Claim limit s.Assume) d) (λ k. Nothing (stated k.0 (Assume k.1))) u x → Low (Statement limit) (suc d) u x
  to_assumed u x (both {u = v} {x = k} w n) = settle n (λ z x. Low (Statement limit) (suc d) (v ++ z) x)
      (subst (λ z. Low (Statement limit) (suc d) z (stated k.0 (Assume k.1))) (sym (append-nil v)) (record { height = suc w.height; spelt = st.assumed w.spelt; low = let z = w.low in omega arith }))

  assigned_of : {t b k : Token} {u v q : Tokens} {l : Left} {ls : List Left} {es : List Expr} → Low LeftSide d (t ∷ u) l → Behind (Many (Next (Low LeftSide d))) (l ∷ []) v ls → Is s.Becomes b → Low (Commas Expression) d q es → Is s.Semi k
      → Low (Statement limit) (suc d) (t ∷ (u ++ (v ++ b ∷ (q ++ k ∷ [])))) (stated t.at (Assign ls es))
  assigned_of {t = t} {b = b} {k = k} {u = u} {v = v} {q = q} {l = l} {es = es} f m i w j =
      let lefts = commas_of LeftSide d f m.list in
      let made : Low (Statement limit) (suc d) (t ∷ (u ++ v) ++ b ∷ (q ++ k ∷ [])) (stated t.at (Assign (l ∷ m.items) es)) =
      record { height = suc (max lefts.height w.height); spelt = st.assigned lefts.spelt i w.spelt j; low = let y = lefts.low in let z = w.low in omega arith } in
      subst (λ ls. Low (Statement limit) (suc d) (t ∷ (u ++ (v ++ b ∷ (q ++ k ∷ [])))) (stated t.at (Assign ls es))) (sym m.same)
      (subst (λ z. Low (Statement limit) (suc d) (t ∷ z) (stated t.at (Assign (l ∷ m.items) es))) (append_assoc u v (b ∷ (q ++ k ∷ []))) made)

  pub to_assigned : (u : Tokens) (x : Stmt)
      → Both (PlacedLeft d) (λ l. Both (Behind (Many (Next (Low LeftSide d))) (l.0 ∷ [])) (λ ls. Both (Wanted s.Becomes) (λ _. Both (Low (Commas Expression) d) (λ es. Both (Wanted s.Semi) (λ _. Nothing (stated l.1 (Assign ls es))))))) u x
      → Low (Statement limit) (suc d) u x
  to_assigned u x (both (placed_left {t = t} {u = y} f) (both {u = v} m (both (wanted {t = b} i) (both {u = q} w (both (wanted {t = k} j) n))))) =
      settle n (λ z x. Low (Statement limit) (suc d) (t ∷ (y ++ (v ++ b ∷ (q ++ k ∷ z)))) x) (assigned_of f m i w j)

  pub to_applied : (p : Place) (xs : List Text) (u : Tokens) (x : Stmt) → Both Named (λ f. Both (Low (Enclosed Expression) d) (λ es. Both (Wanted s.Semi) (λ _. Nothing (stated p (Call xs f.0 es))))) u x → Applied d p xs u x
  to_applied p xs u x (both (named {t = m} i) (both {u = v} w (both (wanted {t = k} j) n))) = settle n (λ z x. Applied d p xs (m ∷ (v ++ k ∷ z)) x) (applied_text i w j)

  through_of : {p : Place} {x : Text} {b : Token} {u v : Tokens} {ys : List Text} {y : Stmt} → Behind NextNames (x ∷ []) u ys → Is s.Becomes b → Applied d p ys v y → CallFrom d p x (u ++ b ∷ v) y
  through_of {p = p} {v = v} {y = y} m i a = through m.list i (subst (λ ys. Applied d p ys v y) m.same a)

  pub to_received : (p : Place) (x : Text) (u : Tokens) (y : Stmt) → Both (Behind NextNames (x ∷ [])) (λ ys. Both (Wanted s.Becomes) (λ _. Applied d p ys)) u y → CallFrom d p x u y
  to_received p x u y (both m (both (wanted i) a)) = through_of m i a

  pub to_direct : (p : Place) (x : Text) (u : Tokens) (y : Stmt) → Both (Low (Enclosed Expression) d) (λ es. Both (Wanted s.Semi) (λ _. Nothing (stated p (Call [] x es)))) u y → CallFrom d p x u y
  to_direct p x u y (both {u = v} w (both (wanted {t = k} j) n)) = settle n (λ z y. CallFrom d p x (v ++ k ∷ z) y) (direct w j)

  through_text : {t n b : Token} {x : Text} {a u v : Tokens} {ys : List Text} {y : Stmt} → Is s.Call t → Attributes limit a → IsName x n → NextNames u ys → Is s.Becomes b → Applied d t.at (x ∷ ys) v y → Low (Statement limit) (suc d) (t ∷ a ++ (n ∷ (u ++ b ∷ v))) y
  through_text {t = t} {n = n} {b = b} {x = x} {a = a} {u = u} {ys = ys} i l j m k (applied_text {n = f} {k = e} {f = y} {u = v} {es = es} o w z) =
      subst (λ q. Low (Statement limit) (suc d) (t ∷ a ++ (n ∷ q)) (stated t.at (Call (x ∷ ys) y es))) (append_assoc u (b ∷ []) (f ∷ (v ++ e ∷ [])))
      (record { height = suc w.height; spelt = st.called i l (st.some (first_name j m) k) o w.spelt z; low = let y = w.low in omega arith })

  called_of : {t n : Token} {x : Text} {a u : Tokens} {y : Stmt} → Is s.Call t → Attributes limit a → IsName x n → CallFrom d t.at x u y → Low (Statement limit) (suc d) (t ∷ a ++ (n ∷ u)) y
  called_of i l j (through m k a) = through_text i l j m k a
  called_of i l j (direct w k) = record { height = suc w.height; spelt = st.called i l st.none j w.spelt k; low = let y = w.low in omega arith }

  pub to_called : (u : Tokens) (x : Stmt) → Both (Wanted s.Call) (λ p. Both (AttributesText limit) (λ _. Both Named (λ y. CallFrom d p y.0))) u x → Low (Statement limit) (suc d) u x
  to_called u x (both (wanted i) (both l (both (named j) w))) = called_of i l j w

  pub to_block : (u : Tokens) (xs : List Stmt) → Both (Wanted s.OpenBrace) (λ _. Both (Low (Statements limit) d) (λ ys. Both (Wanted s.CloseBrace) (λ _. Nothing ys))) u xs → Low (Block limit) d u xs
  to_block u xs (both (wanted {t = o} i) (both {u = v} w (both (wanted {t = k} j) n))) = settle n (λ z xs. Low (Block limit) d (o ∷ (v ++ k ∷ z)) xs) (record { height = w.height; spelt = st.braces i w.spelt j; low = w.low })

  pub to_if : (u : Tokens) (xs : List Stmt) → Both (IfStatement limit d) (λ x. Nothing (x ∷ [])) u xs → Branch limit d u xs
  to_if u xs (both {u = v} {x = x} w n) = settle n (λ z xs. Branch limit d (v ++ z) xs) (subst (λ z. Branch limit d z (x ∷ [])) (sym (append-nil v)) (of_if w))

  pub to_otherwise : (u : Tokens) (xs : List Stmt) → Both (Wanted s.Else) (λ _. Branch limit d) u xs → Low (Otherwise limit) d u xs
  to_otherwise u xs (both (wanted i) b) = after_else i b

  conditional_of : {u v w : Tokens} {g : Place × Expr} {a b : List Stmt} → Guarded d s.If u g → Low (Block limit) d v a → Low (Otherwise limit) d w b → Low (Statement limit) (suc d) (u ++ (v ++ w)) (stated g.0 (If g.1 a b))
  conditional_of {v = v} {w = w} {a = a} {b = b} (guarded {t = t} {o = o} {k = k} {u = u} {e = e} i j f l) y z =
      subst (λ q. Low (Statement limit) (suc d) (t ∷ o ∷ q) (stated t.at (If e a b))) (sym (append_assoc u (k ∷ []) (v ++ w)))
      (record { height = suc (max f.height (max y.height z.height)); spelt = st.conditional i j f.spelt l y.spelt z.spelt; low = let l = f.low in let m = y.low in let n = z.low in omega arith })

  pub to_conditional : (u : Tokens) (x : Stmt) → Both (Guarded d s.If) (λ g. Both (Low (Block limit) d) (λ a. Both (Low (Otherwise limit) d) (λ b. Nothing (stated g.0 (If g.1 a b))))) u x → Low (Statement limit) (suc d) u x
  to_conditional u x (both {u = v} {x = g} f (both {u = p} {x = a} y (both {u = q} {x = b} z n))) =
      settle n (λ r x. Low (Statement limit) (suc d) (v ++ (p ++ (q ++ r))) x)
      (subst (λ r. Low (Statement limit) (suc d) (v ++ (p ++ r)) (stated g.0 (If g.1 a b))) (sym (append-nil q)) (conditional_of f y z))

  loop_of : {u v w : Tokens} {g : Place × Expr} {a : List Invariant} {b : List Stmt} → Guarded d s.While u g → Low (Row (InvariantLine limit)) d v a → Low (Block limit) d w b → Low (Statement limit) (suc d) (u ++ (v ++ w)) (stated g.0 (While g.1 a b))
  loop_of {v = v} {w = w} {a = a} {b = b} (guarded {t = t} {o = o} {k = k} {u = u} {e = e} i j f l) y z =
      subst (λ q. Low (Statement limit) (suc d) (t ∷ o ∷ q) (stated t.at (While e a b))) (sym (append_assoc u (k ∷ []) (v ++ w)))
      (record { height = suc (max f.height (max y.height z.height)); spelt = st.loop i j f.spelt l y.spelt z.spelt; low = let l = f.low in let m = y.low in let n = z.low in omega arith })

  pub to_loop : (u : Tokens) (x : Stmt) → Both (Guarded d s.While) (λ g. Both (Low (Row (InvariantLine limit)) d) (λ a. Both (Low (Block limit) d) (λ b. Nothing (stated g.0 (While g.1 a b))))) u x → Low (Statement limit) (suc d) u x
  to_loop u x (both {u = v} {x = g} f (both {u = p} {x = a} y (both {u = q} {x = b} z n))) =
      settle n (λ r x. Low (Statement limit) (suc d) (v ++ (p ++ (q ++ r))) x)
      (subst (λ r. Low (Statement limit) (suc d) (v ++ (p ++ r)) (stated g.0 (While g.1 a b))) (sym (append-nil q)) (loop_of f y z))

  pub to_broken : (u : Tokens) (x : Stmt) → Both (Wanted s.Break) (λ p. Both (Wanted s.Semi) (λ _. Nothing (stated p Break))) u x → Low (Statement limit) (suc d) u x
  to_broken u x (both (wanted {t = t} i) (both (wanted {t = k} j) n)) = settle n (λ z x. Low (Statement limit) (suc d) (t ∷ k ∷ z) x) (record { height = 1; spelt = st.broken i j; low = omega arith })

  pub to_returned : (u : Tokens) (x : Stmt) → Both (Wanted s.Return) (λ p. Both (Wanted s.Semi) (λ _. Nothing (stated p Return))) u x → Low (Statement limit) (suc d) u x
  to_returned u x (both (wanted {t = t} i) (both (wanted {t = k} j) n)) = settle n (λ z x. Low (Statement limit) (suc d) (t ∷ k ∷ z) x) (record { height = 1; spelt = st.returned i j; low = omega arith })
