-- The names of a body as code keeps them.
use Rattle.std.specs.Prelude.{ℕ, zero, suc, Bool, true, ◌||◌, if◌then◌else◌, List, [], ◌∷◌, ◌++◌, map, Option, Some}
use Rattle.std.specs.Prelude.{None, codes}
use Rattle.std.specs.Fmt.{decimal}
use Rattle.sd_base.specs.declared.Sort as sort
use Rattle.sd_base.specs.declared.Var.{Var}
use Rattle.sd_base.specs.Value.{Text}
use Rattle.sd_ast.specs.declared.Expr.{Expr}
use Rattle.sd_ast.specs.declared.Proc.{Proc}
use Rattle.sd_meaning.specs.Routine.{Clause, requires_of, ensures_of}
use Rattle.sd_core.specs.declared.Spot.{Spot}
use Rattle.sd_core.specs.declared.Spot.TheVariants.{Slot}
use Rattle.sd_core.specs.declared.CoreExpr.{CoreExpr, At}
use Rattle.sd_core.specs.declared.CoreExpr.{Truth as Literal}
use Rattle.sd_core.specs.declared.CoreOp.TheVariants as op
use Rattle.sd_core.specs.declared.CoreStmt.{CoreStmt}
use Rattle.sd_core.specs.declared.CoreStmt as core
use Rattle.sd_extract.specs.declared.scope.Scope.{Scope}
use Rattle.sd_extract.specs.declared.frame.Leave.{Leave}
use Rattle.sd_extract.specs.declared.frame.Leave.TheVariants.{Procedure, Loop}
use Rattle.sd_extract.specs.declared.frame.Frame.{Frame as Kept}
use Rattle.sd_extract.specs.Names.{Names, both, core_of}
use Rattle.sd_extract.specs.Extract.{Counts, Frame, put, checked, check, cores, spot_of, on_args, loop_call, leave_if}

abbrev pub names_in : Scope → Names
names_in s = record {
  local_names = s.local_names.now;
  locals = s.locals.now;
  global_names = s.global_names.now;
  globals = s.globals.now;
  entry = s.entry.now;
}

-- a clause, which is only assumed where it is free or where all are
abbrev pub clause_stmt : Names → Bool → Clause → CoreStmt
clause_stmt N assumed c = checked (assumed || c.free) (core_of N c.holds.kind)

-- what `return` becomes
abbrev pub leave_in : Leave → List CoreStmt
leave_in (Procedure s specs) = map (check (names_in s)) (ensures_of specs.now) ++ (core.Return ∷ [])
leave_in (Loop p) = core.Assign (p ∷ []) (Literal true ∷ []) ∷ core.Return ∷ []

abbrev pub frame_in : Kept → Frame
frame_in F = record {
  names = names_in F.scope;
  ins = F.ins.now;
  state = F.state.now;
  copies = F.copies.now;
  leave = leave_in F.leave;
}

-- slots from one on
abbrev pub slots_upto : ℕ → ℕ → List Spot
slots_upto first zero = []
slots_upto first (suc n) = Slot first ∷ slots_upto (suc first) n

abbrev pub spots_of : Option Spot → List Spot
spots_of None = []
spots_of (Some p) = p ∷ []

-- what a loop is where it stands, and whether a return stands in it
abbrev pub left_at : Counts → Bool → List Spot
left_at at returns = if returns then Slot at.lefts ∷ [] else []

abbrev pub reached : Frame → Counts → Bool → List CoreStmt
reached F at returns = loop_call F at.loops (left_at at returns) ∷ leave_if (left_at at returns) F.leave

-- what stands in a map at some indices
abbrev pub reads : CoreExpr → List CoreExpr → CoreExpr
reads m [] = m
reads m (i ∷ is) = reads (both op.Read m i) is

-- a call of a procedure with this number
abbrev pub call_with : Names → ℕ → List Spot → List Text → List Expr → Proc → List CoreStmt
call_with N number spots xs es p =
    put spots (cores N es)
    ++ (map (check (on_args N p spots)) (requires_of p.specs)
    ++ (core.Call (map (spot_of N) xs) number (map At spots) ∷ []))

-- the hidden local of a loop that a `return` may leave
abbrev pub left_var : Counts → Bool → List Var
left_var at returns =
    if returns then record { name = decimal (suc at.loops) ++ codes "@left"; sort = sort.Bool } ∷ [] else []
