-- Bodies that are equal once the numbers of procedures and globals are replaced.
use Rattle.std.specs.Prelude.{◌≡◌, ℕ, ◌⊎◌, List, map, Option, Some, None, unwrap_or, get_or}
use Rattle.std.specs.List.{AllByRecursion}
use Rattle.sd_core.specs.declared.tree.Spot.{Spot}
use Rattle.sd_core.specs.declared.tree.Spot.TheVariants.{Slot, Global}
use Rattle.sd_core.specs.declared.tree.CoreExpr.{CoreExpr, Num, At, Const, Apply', Op', Row_of-CoreExpr, end_of-CoreExpr, more_of-CoreExpr}
use Rattle.sd_core.specs.declared.tree.CoreExpr.{Truth as Literal}
use Rattle.sd_core.specs.declared.tree.CoreStmt.{CoreStmt, Assign, If', Call, Assume, Fail, Return, Row_of-CoreStmt, end_of-CoreStmt, more_of-CoreStmt}
use Rattle.sd_core.specs.declared.tree.CoreProc.{CoreProc}
use Rattle.sd_core.specs.Formed.{sorts_of, names_of}

-- the numbers of the partners of procedures and globals, where they have one
pub record Partners : Type 0 where
  pub procs : List (Option ℕ)
  pub globals : List (Option ℕ)

abbrev pub partner_in : List (Option ℕ) → ℕ → Option ℕ
partner_in partners i = get_or partners i None

-- ---- each number has a partner

abbrev pub HasPartner : List (Option ℕ) → ℕ → Type 0
HasPartner partners i = (j : ℕ) × (partner_in partners i ≡ Some j)

abbrev pub IsSharedSpot : Partners → Spot → Type 0
IsSharedSpot r (Slot i) = Unit {0}
IsSharedSpot r (Global i) = HasPartner r.globals i

abbrev mutual
  pub Reads : Partners → CoreExpr → Type 0
  Reads r (At p) = IsSharedSpot r p
  Reads r (Apply' f n es) = ReadRow r es
  Reads r (Op' o n es) = ReadRow r es
  Reads r _ = Unit {0}

  pub ReadRow : Partners → {n : _} → Row_of-CoreExpr n → Type 0
  ReadRow r end_of-CoreExpr = Unit {0}
  ReadRow r (more_of-CoreExpr e es) = Reads r e × ReadRow r es

abbrev mutual
  pub Speaks : Partners → CoreStmt → Type 0
  Speaks r (Assign ps es) = AllByRecursion (IsSharedSpot r) ps × AllByRecursion (Reads r) es
  Speaks r (If' c n a m b) = Reads r c × SpeakRow r a × SpeakRow r b
  Speaks r (Call ps q es) = HasPartner r.procs q × AllByRecursion (IsSharedSpot r) ps × AllByRecursion (Reads r) es
  Speaks r (Assume c) = Reads r c
  Speaks r Fail = Unit {0}
  Speaks r Return = Unit {0}

  pub SpeakRow : Partners → {n : _} → Row_of-CoreStmt n → Type 0
  SpeakRow r end_of-CoreStmt = Unit {0}
  SpeakRow r (more_of-CoreStmt k ks) = Speaks r k × SpeakRow r ks

-- ---- each number is replaced by its partner

abbrev pub replaced : List (Option ℕ) → ℕ → ℕ
replaced partners i = unwrap_or (partner_in partners i) 0

abbrev pub rename_spot : Partners → Spot → Spot
rename_spot r (Slot i) = Slot i
rename_spot r (Global i) = Global (replaced r.globals i)

abbrev mutual
  pub rename_expr : Partners → CoreExpr → CoreExpr
  rename_expr r (Num n) = Num n
  rename_expr r (Literal b) = Literal b
  rename_expr r (At p) = At (rename_spot r p)
  rename_expr r (Const c) = Const c
  rename_expr r (Apply' f n es) = Apply' f n (rename_exprs r es)
  rename_expr r (Op' o n es) = Op' o n (rename_exprs r es)

  pub rename_exprs : Partners → {n : _} → Row_of-CoreExpr n → Row_of-CoreExpr n
  rename_exprs r end_of-CoreExpr = end_of-CoreExpr
  rename_exprs r (more_of-CoreExpr e es) = more_of-CoreExpr (rename_expr r e) (rename_exprs r es)

abbrev mutual
  pub rename : Partners → CoreStmt → CoreStmt
  rename r (Assign ps es) = Assign (map (rename_spot r) ps) (map (rename_expr r) es)
  rename r (If' c n a m b) = If' (rename_expr r c) n (rename_row r a) m (rename_row r b)
  rename r (Call ps q es) = Call (map (rename_spot r) ps) (replaced r.procs q) (map (rename_expr r) es)
  rename r (Assume c) = Assume (rename_expr r c)
  rename r Fail = Fail
  rename r Return = Return

  pub rename_row : Partners → {n : _} → Row_of-CoreStmt n → Row_of-CoreStmt n
  rename_row r end_of-CoreStmt = end_of-CoreStmt
  rename_row r (more_of-CoreStmt k ks) = more_of-CoreStmt (rename r k) (rename_row r ks)

-- ---- procedures

-- the procedures of loops have variables of the same names too
abbrev pub SameNames : CoreProc → CoreProc → Type 0
SameNames a b =
    (names_of a.ins ≡ names_of b.ins) × (names_of a.outs ≡ names_of b.outs) × (names_of a.locals ≡ names_of b.locals)

-- `a` becomes `b` when its numbers are replaced. Names of procedures and their parents aren't compared.
pub record IsSameBody (r : Partners) (a b : CoreProc) : Type 0 where
  pub ins : sorts_of a.ins ≡ sorts_of b.ins
  pub outs : sorts_of a.outs ≡ sorts_of b.outs
  pub locals : sorts_of a.locals ≡ sorts_of b.locals
  pub names : ((a.parent ≡ None) × (b.parent ≡ None)) ⊎ SameNames a b
  pub speaks : AllByRecursion (Speaks r) a.body
  pub body : map (rename r) a.body ≡ b.body
