-- Rows of expressions and of statements as lists.
use Rattle.std.proofs.Common.{◌≡◌, ℕ, List, [], ◌∷◌, Option, refl, sym, ap, ◌∙◌, subst}
use Rattle.std.specs.Prelude.{◌↔◌, IsTrue, Bool, true, false}
use Rattle.std.specs.List.{AllZip}
use Rattle.sd_base.specs.Value.{Text}
use Rattle.sd_core.specs.declared.tree.CoreOp.{CoreOp}
use Rattle.sd_core.specs.declared.tree.CoreExpr.{CoreExpr, Apply, Apply', Op, Op', Row_of-CoreExpr, end_of-CoreExpr, more_of-CoreExpr, items-the_row-CoreExpr, items_shown-the_row-CoreExpr-0, items_hidden-the_row-CoreExpr-0}
use Rattle.sd_core.specs.declared.tree.CoreExpr.TheBlock.{hidden-the_row-CoreExpr-0, backs-CoreExpr}
use Rattle.sd_core.specs.declared.tree.CoreStmt.{CoreStmt, If, If', Row_of-CoreStmt, end_of-CoreStmt, more_of-CoreStmt, items-the_row-CoreStmt, items_shown-the_row-CoreStmt-0, items_hidden-the_row-CoreStmt-0}
use Rattle.sd_core.specs.declared.tree.CoreStmt.TheBlock.{hidden-the_row-CoreStmt-0, backs-CoreStmt}
use Rattle.sd_core.specs.Same.{Partners}
use Rattle.sd_core.specs.Becomes.{BecomesExpr, BecomeExprs, BecomesStmt, BecomeStmts}

-- ---- trees over rows are trees over lists

pub apply_is : (f : Text) (n : _) (es : Row_of-CoreExpr _) → Apply' f n es ≡ Apply f (items-the_row-CoreExpr _ es)
apply_is f n es = sym (backs-CoreExpr (Apply' f n es)) ∙ ap (Apply f) (items_shown-the_row-CoreExpr-0 n es)

pub op_is : (o : CoreOp) (n : _) (es : Row_of-CoreExpr _) → Op' o n es ≡ Op o (items-the_row-CoreExpr _ es)
op_is o n es = sym (backs-CoreExpr (Op' o n es)) ∙ ap (Op o) (items_shown-the_row-CoreExpr-0 n es)

pub if_is : (c : CoreExpr) (n : _) (x : Row_of-CoreStmt _) (m : _) (y : Row_of-CoreStmt _) → If' c n x m y ≡ If c (items-the_row-CoreStmt _ x) (items-the_row-CoreStmt _ y)
if_is c n x m y =
    sym (backs-CoreStmt (If' c n x m y)) ∙ (λ i. If c (items_shown-the_row-CoreStmt-0 n x i) (items_shown-the_row-CoreStmt-0 m y i))

-- ---- what becomes what

exprs_row : (g : List (Option ℕ)) {n : _} (es : Row_of-CoreExpr n) (fs : List CoreExpr) → BecomeExprs g es fs ≡ AllZip (BecomesExpr g) (items-the_row-CoreExpr n es) fs
exprs_row g end_of-CoreExpr [] = refl
exprs_row g end_of-CoreExpr (f ∷ fs) = refl
exprs_row g (more_of-CoreExpr e es) [] = refl
exprs_row g (more_of-CoreExpr e es) (f ∷ fs) = ap (λ (T : Type 0). BecomesExpr g e f × T) (exprs_row g es fs)

exprs_hidden : (g : List (Option ℕ)) (es fs : List CoreExpr) → BecomeExprs g (hidden-the_row-CoreExpr-0 es) (items-the_row-CoreExpr _ (hidden-the_row-CoreExpr-0 fs)) ≡ AllZip (BecomesExpr g) es fs
exprs_hidden g es fs =
    exprs_row g (hidden-the_row-CoreExpr-0 es) (items-the_row-CoreExpr _ (hidden-the_row-CoreExpr-0 fs))
    ∙ (λ i. AllZip (BecomesExpr g) (items_hidden-the_row-CoreExpr-0 es i) (items_hidden-the_row-CoreExpr-0 fs i))

stmts_row : (r : Partners) {n : _} (ks : Row_of-CoreStmt n) (js : List CoreStmt) → BecomeStmts r ks js ≡ AllZip (BecomesStmt r) (items-the_row-CoreStmt n ks) js
stmts_row r end_of-CoreStmt [] = refl
stmts_row r end_of-CoreStmt (j ∷ js) = refl
stmts_row r (more_of-CoreStmt k ks) [] = refl
stmts_row r (more_of-CoreStmt k ks) (j ∷ js) = ap (λ (T : Type 0). BecomesStmt r k j × T) (stmts_row r ks js)

stmts_hidden : (r : Partners) (ks js : List CoreStmt) → BecomeStmts r (hidden-the_row-CoreStmt-0 ks) (items-the_row-CoreStmt _ (hidden-the_row-CoreStmt-0 js)) ≡ AllZip (BecomesStmt r) ks js
stmts_hidden r ks js =
    stmts_row r (hidden-the_row-CoreStmt-0 ks) (items-the_row-CoreStmt _ (hidden-the_row-CoreStmt-0 js))
    ∙ (λ i. AllZip (BecomesStmt r) (items_hidden-the_row-CoreStmt-0 ks i) (items_hidden-the_row-CoreStmt-0 js i))

-- ---- the answers of code

same_claim : (t : Bool) (P Q : Type 0) → P ≡ Q → (IsTrue t ↔ P) → IsTrue t ↔ Q
same_claim t P Q e h = subst (λ (X : Type 0). IsTrue t ↔ X) e h

second : (t : Bool) {P Q : Type 0} → P → (IsTrue t ↔ Q) → IsTrue t ↔ (P × Q)
second t p h = (λ s. (p, h.0 s), λ w. h.1 w.1)

module _ (g : List (Option ℕ)) (a b : CoreExpr) (es fs us vs : List CoreExpr) (eu : us ≡ es) (ev : vs ≡ fs) (t : Bool) (h : IsTrue t ↔ AllZip (BecomesExpr g) us vs) where
  rows : AllZip (BecomesExpr g) us vs ≡ BecomeExprs g (hidden-the_row-CoreExpr-0 es) (items-the_row-CoreExpr _ (hidden-the_row-CoreExpr-0 fs))
  rows = (λ i. AllZip (BecomesExpr g) (eu i) (ev i)) ∙ sym (exprs_hidden g es fs)

  pub apply_becomes : (f k : Text) → a ≡ Apply f es → b ≡ Apply k fs → f ≡ k → IsTrue t ↔ BecomesExpr g a b
  apply_becomes f k ea eb e =
      same_claim t _ _ (λ i. BecomesExpr g (sym ea i) (sym eb i)) (second t e (same_claim t _ _ rows h))

  pub op_becomes : (o p : CoreOp) → a ≡ Op o es → b ≡ Op p fs → o ≡ p → IsTrue t ↔ BecomesExpr g a b
  op_becomes o p ea eb e =
      same_claim t _ _ (λ i. BecomesExpr g (sym ea i) (sym eb i)) (second t e (same_claim t _ _ rows h))

-- what a test says where it fails
fails : (t : Bool) {P : Type 0} → (IsTrue t ↔ P) → t ≡ false → P → ⊥
fails t h off p = let on : t ≡ true = h.1 p in cc

pub refuted : (t : Bool) {P : Type 0} → t ≡ false → (P → ⊥) → IsTrue t ↔ P
refuted t off never = (λ on. absurd (let clash : false ≡ true = sym off ∙ on in cc), λ p. absurd (never p))

module _ (r : Partners) (a b : CoreStmt) (c d : CoreExpr) (x y u v : List CoreStmt) (ea : a ≡ If c x y) (eb : b ≡ If d u v) where
  branches : BecomesStmt r a b ≡ (BecomesExpr r.globals c d × AllZip (BecomesStmt r) x u × AllZip (BecomesStmt r) y v)
  branches = (λ i. BecomesStmt r (ea i) (eb i)) ∙ (λ i. BecomesExpr r.globals c d × stmts_hidden r x u i × stmts_hidden r y v i)

  parts : BecomesStmt r a b → BecomesExpr r.globals c d × AllZip (BecomesStmt r) x u × AllZip (BecomesStmt r) y v
  parts w = subst (λ (X : Type 0). X) branches w

  at_lists : (xs ys us vs : List CoreStmt) → us ≡ xs → vs ≡ ys → (t : Bool) → (IsTrue t ↔ AllZip (BecomesStmt r) us vs) → IsTrue t ↔ AllZip (BecomesStmt r) xs ys
  at_lists xs ys us vs eu ev t h = same_claim t _ _ (λ i. AllZip (BecomesStmt r) (eu i) (ev i)) h

  pub test_fails : (t : Bool) → (IsTrue t ↔ BecomesExpr r.globals c d) → t ≡ false → BecomesStmt r a b → ⊥
  test_fails t h off w = fails t h off (parts w).0

  module _ (xs us : List CoreStmt) (ex : xs ≡ x) (eu : us ≡ u) (q : Bool) (then : IsTrue q ↔ AllZip (BecomesStmt r) xs us) where
    pub then_fails : q ≡ false → BecomesStmt r a b → ⊥
    then_fails off w = fails q (at_lists x u xs us ex eu q then) off (parts w).1

    pub branches_become : (s t : Bool) → (IsTrue s ↔ BecomesExpr r.globals c d) → s ≡ true → q ≡ true → (ys vs : List CoreStmt) → ys ≡ y → vs ≡ v → (IsTrue t ↔ AllZip (BecomesStmt r) ys vs) → IsTrue t ↔ BecomesStmt r a b
    branches_become s t test on also ys vs ey ev other =
        let last = at_lists y v ys vs ey ev t other in
        let first : AllZip (BecomesStmt r) x u = (at_lists x u xs us ex eu q then).0 also in
        same_claim t _ _ (sym branches) (λ z. (test.0 on, first, last.0 z), λ w. last.1 w.2)
