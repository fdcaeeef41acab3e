-- What becomes another tree is that tree renamed, and each of its numbers has a partner.
use Rattle.std.proofs.Common.{◌≡◌, ℕ, List, [], ◌∷◌, Option, Some, None, refl, sym, ap, ◌∙◌, subst}
use Rattle.std.specs.Prelude.{◌↔◌, ◌⊎◌, IsTrue, Bool, map, unwrap_or}
use Rattle.std.specs.List.{AllZip, AllByRecursion}
use Rattle.sd_core.specs.declared.tree.Spot.{Spot}
use Rattle.sd_core.specs.declared.tree.Spot.TheVariants.{Slot, Global}
use Rattle.sd_core.specs.declared.tree.CoreExpr.{CoreExpr, Num, At, Const, Apply, Apply', Op, Op', Row_of-CoreExpr, end_of-CoreExpr, more_of-CoreExpr, items-the_row-CoreExpr}
use Rattle.sd_core.specs.declared.tree.CoreExpr.{Truth as Literal}
use Rattle.sd_core.specs.declared.tree.CoreStmt.{CoreStmt, Assign, If, If', Call, Assume, Fail, Return, Row_of-CoreStmt, end_of-CoreStmt, more_of-CoreStmt, items-the_row-CoreStmt}
use Rattle.sd_core.specs.declared.tree.CoreProc.{CoreProc}
use Rattle.sd_core.specs.Formed.{sorts_of}
use Rattle.sd_core.specs.Same.{SameNames, IsSameBody, Partners, partner_in, HasPartner, IsSharedSpot, Reads, ReadRow, Speaks, SpeakRow, replaced, rename_spot, rename_expr, rename_exprs, rename, rename_row}
use Rattle.sd_core.specs.Becomes.{BecomesSpot, BecomesExpr, BecomeExprs, BecomesStmt, BecomeStmts}
use Rattle.sd_core.proofs.Rows.{apply_is, op_is, if_is}

-- ---- lists

-- two lists side by side, where the second is made of the first
pub zip_split : {A B : Type 0} (R : A → B → Type 0) (P : A → Type 0) (f : A → B) → ((a : A) (b : B) → R a b → P a) → ((a : A) (b : B) → R a b → f a ≡ b) → (us : List A) (vs : List B) → AllZip R us vs → AllByRecursion P us × (map f us ≡ vs)
zip_split R P f has is [] [] z = (tt, refl)
zip_split R P f has is [] (v ∷ vs) z = absurd z
zip_split R P f has is (u ∷ us) [] z = absurd z
zip_split R P f has is (u ∷ us) (v ∷ vs) z =
    let rest = zip_split R P f has is us vs z.1 in
    let first = is u v z.0 in
    let tail = rest.1 in
    ((has u v z.0, rest.0), λ i. first i ∷ tail i)

pub zip_made : {A B : Type 0} (R : A → B → Type 0) (P : A → Type 0) (f : A → B) → ((a : A) → P a → R a (f a)) → (us : List A) → AllByRecursion P us → AllZip R us (map f us)
zip_made R P f made [] w = tt
zip_made R P f made (u ∷ us) w = (made u w.0, zip_made R P f made us w.1)

-- ---- numbers

partner_is : (ns : List (Option ℕ)) (i j : ℕ) → partner_in ns i ≡ Some j → replaced ns i ≡ j
partner_is ns i j e = ap (λ (o : Option ℕ). unwrap_or o 0) e

partner_replaced : (ns : List (Option ℕ)) (i : ℕ) → HasPartner ns i → partner_in ns i ≡ Some (replaced ns i)
partner_replaced ns i h = h.1 ∙ ap Some (sym (partner_is ns i h.0 h.1))

module _ (r : Partners) where
  spot_shared : (p q : Spot) → BecomesSpot r.globals p q → IsSharedSpot r p
  spot_shared (Slot i) (Slot j) h = tt
  spot_shared (Global i) (Global j) h = (j, h)
  spot_shared _ _ h = absurd h

  spot_renamed : (p q : Spot) → BecomesSpot r.globals p q → rename_spot r p ≡ q
  spot_renamed (Slot i) (Slot j) h = ap Slot h
  spot_renamed (Global i) (Global j) h = ap Global (partner_is r.globals i j h)
  spot_renamed _ _ h = absurd h

  spot_made : (p : Spot) → IsSharedSpot r p → BecomesSpot r.globals p (rename_spot r p)
  spot_made (Slot i) w = refl
  spot_made (Global i) w = partner_replaced r.globals i w

  -- ---- expressions

  mutual
    expr_reads : (e f : CoreExpr) → BecomesExpr r.globals e f → Reads r e
    expr_reads (Num m) (Num n) h = tt
    expr_reads (Literal a) (Literal b) h = tt
    expr_reads (At p) (At q) h = spot_shared p q h
    expr_reads (Const c) (Const d) h = tt
    expr_reads (Apply' f n es) (Apply' g m fs) h = row_reads es (items-the_row-CoreExpr _ fs) h.1
    expr_reads (Op' o n es) (Op' p m fs) h = row_reads es (items-the_row-CoreExpr _ fs) h.1
    expr_reads _ _ h = absurd h

    row_reads : {n : _} (es : Row_of-CoreExpr n) (fs : List CoreExpr) → BecomeExprs r.globals es fs → ReadRow r es
    row_reads end_of-CoreExpr [] h = tt
    row_reads (more_of-CoreExpr e es) (f ∷ fs) h = (expr_reads e f h.0, row_reads es fs h.1)
    row_reads _ _ h = absurd h

  mutual
    expr_renamed : (e f : CoreExpr) → BecomesExpr r.globals e f → rename_expr r e ≡ f
    expr_renamed (Num m) (Num n) h = ap Num h
    expr_renamed (Literal a) (Literal b) h = ap Literal h
    expr_renamed (At p) (At q) h = ap At (spot_renamed p q h)
    expr_renamed (Const c) (Const d) h = ap Const h
    expr_renamed (Apply' f n es) (Apply' g m fs) h =
        let args = row_renamed es (items-the_row-CoreExpr _ fs) h.1 in
        let name = h.0 in
        apply_is f n (rename_exprs r es) ∙ (λ i. Apply (name i) (args i)) ∙ sym (apply_is g m fs)
    expr_renamed (Op' o n es) (Op' p m fs) h =
        let args = row_renamed es (items-the_row-CoreExpr _ fs) h.1 in
        let same = h.0 in
        op_is o n (rename_exprs r es) ∙ (λ i. Op (same i) (args i)) ∙ sym (op_is p m fs)
    expr_renamed _ _ h = absurd h

    row_renamed : {n : _} (es : Row_of-CoreExpr n) (fs : List CoreExpr) → BecomeExprs r.globals es fs → items-the_row-CoreExpr n (rename_exprs r es) ≡ fs
    row_renamed end_of-CoreExpr [] h = refl
    row_renamed (more_of-CoreExpr e es) (f ∷ fs) h =
        let first = expr_renamed e f h.0 in
        let rest = row_renamed es fs h.1 in
        λ i. first i ∷ rest i
    row_renamed _ _ h = absurd h

  mutual
    expr_made : (e : CoreExpr) → Reads r e → BecomesExpr r.globals e (rename_expr r e)
    expr_made (At p) w = spot_made p w
    expr_made (Apply' f n es) w = (refl, row_made es w)
    expr_made (Op' o n es) w = (refl, row_made es w)
    expr_made _ w = refl

    row_made : {n : _} (es : Row_of-CoreExpr n) → ReadRow r es → BecomeExprs r.globals es (items-the_row-CoreExpr n (rename_exprs r es))
    row_made end_of-CoreExpr w = tt
    row_made (more_of-CoreExpr e es) w = (expr_made e w.0, row_made es w.1)

  spots_split : (ps qs : List Spot) → AllZip (BecomesSpot r.globals) ps qs → AllByRecursion (IsSharedSpot r) ps × (map (rename_spot r) ps ≡ qs)
  spots_split = zip_split (BecomesSpot r.globals) (IsSharedSpot r) (rename_spot r) spot_shared spot_renamed

  exprs_split : (es fs : List CoreExpr) → AllZip (BecomesExpr r.globals) es fs → AllByRecursion (Reads r) es × (map (rename_expr r) es ≡ fs)
  exprs_split = zip_split (BecomesExpr r.globals) (Reads r) (rename_expr r) expr_reads expr_renamed

  spots_made : (ps : List Spot) → AllByRecursion (IsSharedSpot r) ps → AllZip (BecomesSpot r.globals) ps (map (rename_spot r) ps)
  spots_made = zip_made (BecomesSpot r.globals) (IsSharedSpot r) (rename_spot r) spot_made

  exprs_made : (es : List CoreExpr) → AllByRecursion (Reads r) es → AllZip (BecomesExpr r.globals) es (map (rename_expr r) es)
  exprs_made = zip_made (BecomesExpr r.globals) (Reads r) (rename_expr r) expr_made

  -- ---- statements

  mutual
    stmt_speaks : (k j : CoreStmt) → BecomesStmt r k j → Speaks r k
    stmt_speaks (Assign ps es) (Assign qs fs) h = ((spots_split ps qs h.0).0, (exprs_split es fs h.1).0)
    stmt_speaks (If' c n x m y) (If' d k u l v) h =
        (expr_reads c d h.0, row_speaks x (items-the_row-CoreStmt _ u) h.1, row_speaks y (items-the_row-CoreStmt _ v) h.2)
    stmt_speaks (Call ps q es) (Call qs p fs) h = ((p, h.1), (spots_split ps qs h.0).0, (exprs_split es fs h.2).0)
    stmt_speaks (Assume c) (Assume d) h = expr_reads c d h
    stmt_speaks Fail Fail h = tt
    stmt_speaks Return Return h = tt
    stmt_speaks _ _ h = absurd h

    row_speaks : {n : _} (ks : Row_of-CoreStmt n) (js : List CoreStmt) → BecomeStmts r ks js → SpeakRow r ks
    row_speaks end_of-CoreStmt [] h = tt
    row_speaks (more_of-CoreStmt k ks) (j ∷ js) h = (stmt_speaks k j h.0, row_speaks ks js h.1)
    row_speaks _ _ h = absurd h

  mutual
    stmt_renamed : (k j : CoreStmt) → BecomesStmt r k j → rename r k ≡ j
    stmt_renamed (Assign ps es) (Assign qs fs) h =
        let spots = (spots_split ps qs h.0).1 in
        let args = (exprs_split es fs h.1).1 in
        λ i. Assign (spots i) (args i)
    stmt_renamed (If' c n x m y) (If' d k u l v) h =
        let test = expr_renamed c d h.0 in
        let then = stmts_renamed x (items-the_row-CoreStmt _ u) h.1 in
        let other = stmts_renamed y (items-the_row-CoreStmt _ v) h.2 in
        if_is (rename_expr r c) n (rename_row r x) m (rename_row r y) ∙ (λ i. If (test i) (then i) (other i)) ∙ sym (if_is d k u l v)
    stmt_renamed (Call ps q es) (Call qs p fs) h =
        let spots = (spots_split ps qs h.0).1 in
        let callee = partner_is r.procs q p h.1 in
        let args = (exprs_split es fs h.2).1 in
        λ i. Call (spots i) (callee i) (args i)
    stmt_renamed (Assume c) (Assume d) h = ap Assume (expr_renamed c d h)
    stmt_renamed Fail Fail h = refl
    stmt_renamed Return Return h = refl
    stmt_renamed _ _ h = absurd h

    stmts_renamed : {n : _} (ks : Row_of-CoreStmt n) (js : List CoreStmt) → BecomeStmts r ks js → items-the_row-CoreStmt n (rename_row r ks) ≡ js
    stmts_renamed end_of-CoreStmt [] h = refl
    stmts_renamed (more_of-CoreStmt k ks) (j ∷ js) h =
        let first = stmt_renamed k j h.0 in
        let rest = stmts_renamed ks js h.1 in
        λ i. first i ∷ rest i
    stmts_renamed _ _ h = absurd h

  mutual
    stmt_made : (k : CoreStmt) → Speaks r k → BecomesStmt r k (rename r k)
    stmt_made (Assign ps es) w = (spots_made ps w.0, exprs_made es w.1)
    stmt_made (If' c n x m y) w = (expr_made c w.0, stmts_made x w.1, stmts_made y w.2)
    stmt_made (Call ps q es) w = (spots_made ps w.1, partner_replaced r.procs q w.0, exprs_made es w.2)
    stmt_made (Assume c) w = expr_made c w
    stmt_made _ w = tt

    stmts_made : {n : _} (ks : Row_of-CoreStmt n) → SpeakRow r ks → BecomeStmts r ks (items-the_row-CoreStmt n (rename_row r ks))
    stmts_made end_of-CoreStmt w = tt
    stmts_made (more_of-CoreStmt k ks) w = (stmt_made k w.0, stmts_made ks w.1)

  -- a body becomes another exactly if it is the other once renamed
  pub body_becomes : (ks js : List CoreStmt) → AllZip (BecomesStmt r) ks js ↔ (AllByRecursion (Speaks r) ks × (map (rename r) ks ≡ js))
  body_becomes ks js = (
    zip_split (BecomesStmt r) (Speaks r) (rename r) stmt_speaks stmt_renamed ks js,
    λ w. subst (AllZip (BecomesStmt r) ks) w.1 (zip_made (BecomesStmt r) (Speaks r) (rename r) stmt_made ks w.0),
  )

  -- procedures of the same variables have the same body exactly if the one's statements become the other's
  pub bodies_are_same : (a b : CoreProc) (ks js : List CoreStmt) → ks ≡ a.body → js ≡ b.body → (t : Bool) → (IsTrue t ↔ AllZip (BecomesStmt r) ks js)
      → ((sorts_of a.ins ≡ sorts_of b.ins) × (sorts_of a.outs ≡ sorts_of b.outs) × (sorts_of a.locals ≡ sorts_of b.locals) × (((a.parent ≡ None) × (b.parent ≡ None)) ⊎ SameNames a b)) → IsTrue t ↔ IsSameBody r a b
  bodies_are_same a b ks js ek ej t h v = (
    λ z. let w = subst (λ (l : List CoreStmt). AllByRecursion (Speaks r) l × (map (rename r) l ≡ b.body)) ek (subst (λ (l : List CoreStmt). AllByRecursion (Speaks r) ks × (map (rename r) ks ≡ l)) ej ((body_becomes ks js).0 (h.0 z))) in
        record { ins = v.0; outs = v.1; locals = v.2; names = v.3; speaks = w.0; body = w.1 },
    λ w. h.1 ((body_becomes ks js).1 (subst (AllByRecursion (Speaks r)) (sym ek) w.speaks, ap (map (rename r)) ek ∙ w.body ∙ sym ej)),
  )
