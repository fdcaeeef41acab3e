-- Two trees side by side: one becomes the other when its numbers are replaced.
use Rattle.std.specs.Prelude.{◌≡◌, ℕ, List, [], ◌∷◌, Option, Some}
use Rattle.std.specs.List.{AllZip}
use Rattle.sd_core.specs.declared.tree.Spot.{Spot}
use Rattle.sd_core.specs.declared.tree.Spot.TheVariants.{Slot, Global}
use Rattle.sd_core.specs.declared.tree.CoreExpr.{CoreExpr, Num, At, Const, Apply', Op', Row_of-CoreExpr, end_of-CoreExpr, more_of-CoreExpr, items-the_row-CoreExpr}
use Rattle.sd_core.specs.declared.tree.CoreExpr.{Truth as Literal}
use Rattle.sd_core.specs.declared.tree.CoreStmt.{CoreStmt, Assign, If', Call, Assume, Fail, Return, Row_of-CoreStmt, end_of-CoreStmt, more_of-CoreStmt, items-the_row-CoreStmt}
use Rattle.sd_core.specs.Same.{Partners, partner_in}

abbrev pub BecomesSpot : (globals : List (Option ℕ)) → Spot → Spot → Type 0
BecomesSpot globals (Slot i) (Slot j) = i ≡ j
BecomesSpot globals (Global i) (Global j) = partner_in globals i ≡ Some j
BecomesSpot globals _ _ = ⊥

abbrev mutual
  pub BecomesExpr : (globals : List (Option ℕ)) → CoreExpr → CoreExpr → Type 0
  BecomesExpr globals (Num m) (Num n) = m ≡ n
  BecomesExpr globals (Literal a) (Literal b) = a ≡ b
  BecomesExpr globals (At p) (At q) = BecomesSpot globals p q
  BecomesExpr globals (Const c) (Const d) = c ≡ d
  BecomesExpr globals (Apply' f n es) (Apply' g m fs) = (f ≡ g) × BecomeExprs globals es (items-the_row-CoreExpr _ fs)
  BecomesExpr globals (Op' o n es) (Op' p m fs) = (o ≡ p) × BecomeExprs globals es (items-the_row-CoreExpr _ fs)
  BecomesExpr globals _ _ = ⊥

  pub BecomeExprs : (globals : List (Option ℕ)) → {n : _} → Row_of-CoreExpr n → List CoreExpr → Type 0
  BecomeExprs globals end_of-CoreExpr [] = Unit {0}
  BecomeExprs globals (more_of-CoreExpr e es) (f ∷ fs) = BecomesExpr globals e f × BecomeExprs globals es fs
  BecomeExprs globals _ _ = ⊥

abbrev mutual
  pub BecomesStmt : Partners → CoreStmt → CoreStmt → Type 0
  BecomesStmt r (Assign ps es) (Assign qs fs) =
      AllZip (BecomesSpot r.globals) ps qs × AllZip (BecomesExpr r.globals) es fs
  BecomesStmt r (If' c n a m b) (If' d k x l y) =
      BecomesExpr r.globals c d
      × BecomeStmts r a (items-the_row-CoreStmt _ x)
      × BecomeStmts r b (items-the_row-CoreStmt _ y)
  BecomesStmt r (Call ps q es) (Call qs p fs) =
      AllZip (BecomesSpot r.globals) ps qs × (partner_in r.procs q ≡ Some p) × AllZip (BecomesExpr r.globals) es fs
  BecomesStmt r (Assume c) (Assume d) = BecomesExpr r.globals c d
  BecomesStmt r Fail Fail = Unit {0}
  BecomesStmt r Return Return = Unit {0}
  BecomesStmt r _ _ = ⊥

  pub BecomeStmts : Partners → {n : _} → Row_of-CoreStmt n → List CoreStmt → Type 0
  BecomeStmts r end_of-CoreStmt [] = Unit {0}
  BecomeStmts r (more_of-CoreStmt k ks) (j ∷ js) = BecomesStmt r k j × BecomeStmts r ks js
  BecomeStmts r _ _ = ⊥
