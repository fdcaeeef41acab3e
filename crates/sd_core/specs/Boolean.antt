-- Core programs over truth values.
use Rattle.std.specs.Prelude.{◌≡◌, List, []}
use Rattle.std.specs.List.{AllByRecursion}
use Rattle.sd_core.specs.declared.tree.CoreStmt.{CoreStmt, Assign, If', Call, Assume, Fail, Return, Row_of-CoreStmt, end_of-CoreStmt, more_of-CoreStmt}
use Rattle.sd_core.specs.declared.tree.CoreProc.{CoreProc}
use Rattle.sd_core.specs.declared.tree.CoreProgram.{CoreProgram}
use Rattle.sd_core.specs.Propositional.{AreTruths, HasNoNumber}

-- no number stands in the statement
abbrev mutual
  pub IsBoolean : CoreStmt → Type 0
  IsBoolean (Assign ps es) = AllByRecursion HasNoNumber es
  IsBoolean (If' c n a m b) = HasNoNumber c × AreBoolean a × AreBoolean b
  IsBoolean (Call ps q es) = AllByRecursion HasNoNumber es
  IsBoolean (Assume c) = HasNoNumber c
  IsBoolean Fail = Unit {0}
  IsBoolean Return = Unit {0}

  pub AreBoolean : {n : _} → Row_of-CoreStmt n → Type 0
  AreBoolean end_of-CoreStmt = Unit {0}
  AreBoolean (more_of-CoreStmt k ks) = IsBoolean k × AreBoolean ks

pub record IsBooleanProc (p : CoreProc) : Type 0 where
  pub ins : AreTruths p.ins
  pub outs : AreTruths p.outs
  pub locals : AreTruths p.locals
  pub body : AllByRecursion IsBoolean p.body

pub record IsBooleanCore (P : CoreProgram) : Type 0 where
  pub globals : AreTruths P.globals
  pub functions : P.functions ≡ []
  pub axioms : P.axioms ≡ []
  pub uniques : P.uniques ≡ []
  pub procs : AllByRecursion IsBooleanProc P.procs
