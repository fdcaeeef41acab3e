-- Core programs over truth values, without calls.
use Rattle.std.specs.Prelude.{◌≡◌, None, List, []}
use Rattle.std.specs.List.{AllByRecursion}
use Rattle.sd_base.specs.declared.sort.Sort.{Bool as BoolSort}
use Rattle.sd_base.specs.declared.sort.Var.{Var}
use Rattle.sd_core.specs.declared.tree.CoreExpr.{CoreExpr, Num, Apply', Op', Row_of-CoreExpr, end_of-CoreExpr, more_of-CoreExpr}
use Rattle.sd_core.specs.declared.tree.CoreStmt.{CoreStmt, Assign, If', Call, Assume, Fail, Return, Row_of-CoreStmt, end_of-CoreStmt, more_of-CoreStmt}
use Rattle.sd_core.specs.declared.tree.CoreProc.{CoreProc}
use Rattle.sd_core.specs.declared.tree.CoreProgram.{CoreProgram}

abbrev pub AreTruths : List Var → Type 0
AreTruths = AllByRecursion (λ x. x.sort ≡ BoolSort)

-- no number stands in the expression
abbrev mutual
  pub HasNoNumber : CoreExpr → Type 0
  HasNoNumber (Num n) = ⊥
  HasNoNumber (Apply' f n es) = HaveNoNumber es
  HasNoNumber (Op' o n es) = HaveNoNumber es
  HasNoNumber _ = Unit {0}

  pub HaveNoNumber : {n : _} → Row_of-CoreExpr n → Type 0
  HaveNoNumber end_of-CoreExpr = Unit {0}
  HaveNoNumber (more_of-CoreExpr e es) = HasNoNumber e × HaveNoNumber es

-- no call and no number stands in the statement
abbrev mutual
  pub IsPropositional : CoreStmt → Type 0
  IsPropositional (Assign ps es) = AllByRecursion HasNoNumber es
  IsPropositional (If' c n a m b) = HasNoNumber c × ArePropositional a × ArePropositional b
  IsPropositional (Call ps q es) = ⊥
  IsPropositional (Assume c) = HasNoNumber c
  IsPropositional Fail = Unit {0}
  IsPropositional Return = Unit {0}

  pub ArePropositional : {n : _} → Row_of-CoreStmt n → Type 0
  ArePropositional end_of-CoreStmt = Unit {0}
  ArePropositional (more_of-CoreStmt k ks) = IsPropositional k × ArePropositional ks

-- it belongs to no loop
pub record IsPropositionalProc (p : CoreProc) : Type 0 where
  pub root : p.parent ≡ None
  pub ins : AreTruths p.ins
  pub outs : AreTruths p.outs
  pub locals : AreTruths p.locals
  pub body : AllByRecursion IsPropositional p.body

pub record IsPropositionalCore (P : CoreProgram) : Type 0 where
  pub globals : AreTruths P.globals
  pub functions : P.functions ≡ []
  pub axioms : P.axioms ≡ []
  pub uniques : P.uniques ≡ []
  pub procs : AllByRecursion IsPropositionalProc P.procs
