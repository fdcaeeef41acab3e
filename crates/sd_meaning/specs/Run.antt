-- What a run of a procedure does, in a number of steps.
use Rattle.std.specs.Prelude.{ℕ, zero, suc, Bool, true, false, List, [], ◌∷◌, ◌++◌, map, Option, Some, None, if◌then◌else◌}
use Rattle.sd_base.specs.declared.Var.{Var}
use Rattle.sd_base.specs.Value.{Text, same_text, Index, Value, read, write}
use Rattle.sd_ast.specs.declared.Program.{Program}
use Rattle.sd_ast.specs.declared.Proc.{Proc}
use Rattle.sd_ast.specs.declared.Expr.{Expr}
use Rattle.sd_ast.specs.declared.Left.{Left}
use Rattle.sd_ast.specs.declared.Stmt.{Stmt}
use Rattle.sd_ast.specs.declared.StmtKind.{StmtKind, Assert, Assume, Assign, Call, If', While', Break, Return, Row_of-Stmt, end_of-Stmt, more_of-Stmt}
use Rattle.sd_base.specs.Meaning.{Meaning, Interpretation, truth_of, index_of}
use Rattle.sd_meaning.specs.Evaluate.{Store, State, variable, value}
use Rattle.sd_meaning.specs.Interpretation.{interpretation_of}
use Rattle.sd_meaning.specs.Routine.{Routine, procedure_in, routine_named, Clause, requires_of, ensures_of, clauses_of}
use Rattle.sd_ast.specs.Tree.{names_of}

-- how a run of a procedure ends: with its out-parameters and the globals, or without them
pub data Outcome : Type 0 where
  Ended : (outs : List Value) (globals : Store) → Outcome
  Failed : Outcome
  Blocked : Outcome
  Unfinished : Outcome

-- where statements lead: to the next statement, out of the innermost loop, out of the procedure, or to no end
pub data Flow : Type 0 where
  Next : State → Flow
  Breaks : State → Flow
  Returns : State → Flow
  Failed : Flow
  Blocked : Flow
  Unfinished : Flow

abbrev pub and_then : Flow → (State → Flow) → Flow
and_then (Next s) go = go s
and_then (Breaks s) go = Breaks s
and_then (Returns s) go = Returns s
and_then Failed go = Failed
and_then Blocked go = Blocked
and_then Unfinished go = Unfinished

-- statements one after another
abbrev pub each : (StmtKind → State → Flow) → List StmtKind → State → Flow
each run [] s = Next s
each run (k ∷ ks) s = and_then (run k s) (each run ks)

abbrev pub kinds_of : List Stmt → List StmtKind
kinds_of = map (λ s. s.kind)

abbrev pub kinds_in : {m : _} → Row_of-Stmt m → List StmtKind
kinds_in end_of-Stmt = []
kinds_in (more_of-Stmt p k ks) = k ∷ kinds_in ks

-- ---- clauses

pub data Verdict : Type 0 where
  Holds : Verdict
  Fails : Verdict
  Blocks : Verdict

-- The first clause that is false fails, or blocks where it is free.
abbrev pub verdict : Interpretation → State → List Clause → Verdict
verdict I s [] = Holds
verdict I s (c ∷ cs) =
    if truth_of (value I s c.holds.kind) then verdict I s cs else (if c.free then Blocks else Fails)

abbrev pub if_holds : Verdict → Flow → Flow
if_holds Holds go = go
if_holds Fails go = Failed
if_holds Blocks go = Blocked

-- ---- assignments

abbrev pub assigned : Store → Text → Value → Store
assigned [] x v = []
assigned (w ∷ ws) x v = if same_text x w.0 then (w.0, v) ∷ ws else w ∷ assigned ws x v

abbrev pub is_in : Store → Text → Bool
is_in [] x = false
is_in (w ∷ ws) x = if same_text x w.0 then true else is_in ws x

-- A local hides a global of its name.
abbrev pub set : State → Text → Value → State
set s x v =
    if is_in s.locals x then record s {
      locals =
          assigned s.locals x v;
    } else record s { globals = assigned s.globals x v }

abbrev pub set_all : State → List Text → List Value → State
set_all s (x ∷ xs) (v ∷ vs) = set_all (set s x v) xs vs
set_all s _ _ = s

-- the map m with v at the place that the indices lead to
abbrev pub written : Value → List Index → Value → Value
written m [] v = v
written m (i ∷ is) v = write m i (written (read m i) is v)

abbrev pub values_of : Interpretation → State → List Expr → List Value
values_of I s = map (λ e. value I s e.kind)

-- what each left side is to hold, from the values of the right sides
abbrev pub new_values : Interpretation → State → List Left → List Value → List Value
new_values I s (l ∷ ls) (v ∷ vs) =
    written (variable I s l.name) (map index_of (values_of I s l.indices)) v ∷ new_values I s ls vs
new_values I s _ _ = []

abbrev pub assign : Interpretation → State → List Left → List Expr → State
assign I s ls es = set_all s (map (λ l. l.name) ls) (new_values I s ls (values_of I s es))

-- ---- procedures

abbrev pub named : List Text → List Value → Store
named (x ∷ xs) (v ∷ vs) = (x, v) ∷ named xs vs
named _ _ = []

abbrev pub starting : Interpretation → List Var → Store
starting I = map (λ v. (v.name, I.start v.sort))

-- what the clauses of a procedure see, before the body and after it
abbrev pub before : Proc → List Value → Store → State
before p ins globals = record { globals = globals; entry = globals; locals = named (names_of p.head.ins) ins }

abbrev pub after : Proc → List Value → List Value → Store → Store → State
after p ins outs entry globals =
    record {
      globals = globals;
      entry = entry;
      locals = named (names_of p.head.ins) ins
          ++ named (names_of p.head.outs) outs;
    }

-- where a body begins
abbrev pub entered : Interpretation → Routine → List Value → Store → State
entered I r ins globals = record {
  globals = globals;
  entry = globals;
  locals = named (names_of r.head.ins) ins ++ (starting I r.head.outs ++ starting I r.body.locals);
}

abbrev pub if_ensured : Verdict → Outcome → Outcome
if_ensured Holds o = o
if_ensured Fails o = Failed
if_ensured Blocks o = Blocked

-- a return, where the `ensures` are checked
abbrev pub returned : Interpretation → Routine → List Value → State → Outcome
returned I r ins s =
    let outs : List Value = map (λ v. variable I s v.name) r.head.outs in
    if_ensured (verdict I (after r.declared ins outs s.entry s.globals) (ensures_of r.declared.specs))
    (Ended outs s.globals)

abbrev pub outcome_of : Interpretation → Routine → List Value → Flow → Outcome
outcome_of I r ins (Next s) = returned I r ins s
outcome_of I r ins (Breaks s) = returned I r ins s
outcome_of I r ins (Returns s) = returned I r ins s
outcome_of I r ins Failed = Failed
outcome_of I r ins Blocked = Blocked
outcome_of I r ins Unfinished = Unfinished

-- the body of a procedure, where `run` says what a statement does
abbrev pub body_run : Interpretation → (StmtKind → State → Flow) → Option Routine → List Value → Store → Outcome
body_run I run None ins globals = Blocked
body_run I run (Some r) ins globals = outcome_of I r ins (each run (kinds_of r.body.stmts) (entered I r ins globals))

-- ---- statements

-- what statements and calls do with some number of steps
pub record Level : Type 0 where
  pub stmt : StmtKind → State → Flow
  pub call : Text → List Value → Store → Outcome

-- The globals are taken over, and then the out-parameters are received.
abbrev pub received : State → List Text → Outcome → Flow
received s xs (Ended outs globals) = Next (set_all (record s { globals = globals }) xs outs)
received s xs Failed = Failed
received s xs Blocked = Blocked
received s xs Unfinished = Unfinished

-- a call, given what is done with one step less, or none where no step is left
abbrev pub called : Option Level → State → List Text → Text → List Value → Flow
called None s xs f ins = Unfinished
called (Some lower) s xs f ins = received s xs (lower.call f ins s.globals)

-- The callee's `requires` are checked before the steps are looked at.
abbrev pub call : Interpretation → Option Level → State → List Text → Text → List Value → Option Proc → Flow
call I lower s xs f ins None = Blocked
call I lower s xs f ins (Some p) =
    if_holds (verdict I (before p ins s.globals) (requires_of p.specs)) (called lower s xs f ins)

-- a turn of a loop is over
abbrev pub after_turn : Flow → (State → Flow) → Flow
after_turn (Next s) again = again s
after_turn (Breaks s) again = Next s
after_turn (Returns s) again = Returns s
after_turn Failed again = Failed
after_turn Blocked again = Blocked
after_turn Unfinished again = Unfinished

-- Reaching a loop: its invariants and its guard, a turn, and the same loop again, each with one step less.
abbrev pub reach : Interpretation → Option Level → Expr → List Clause → List StmtKind → StmtKind → State → Flow
reach I None guard invs body loop s = Unfinished
reach I (Some lower) guard invs body loop s =
    if_holds (verdict I s invs)
    (if truth_of (value I s guard.kind) then after_turn (each lower.stmt body s) (lower.stmt loop) else Next s)

abbrev mutual
  pub step : Program → Interpretation → Option Level → StmtKind → State → Flow
  step P I lower (Assert e) s = if truth_of (value I s e.kind) then Next s else Failed
  step P I lower (Assume e) s = if truth_of (value I s e.kind) then Next s else Blocked
  step P I lower (Assign ls es) s = Next (assign I s ls es)
  step P I lower (Call xs f es) s = call I lower s xs f (values_of I s es) (procedure_in P.decls f)
  step P I lower (If' e shape a shape' b) s =
      if truth_of (value I s e.kind) then steps P I lower a s else steps P I lower b s
  step P I lower (While' e invs shape body) s =
      reach I lower e (clauses_of invs) (kinds_in body) (While' e invs shape body) s
  step P I lower Break s = Breaks s
  step P I lower Return s = Returns s

  pub steps : Program → Interpretation → Option Level → {m : _} → Row_of-Stmt m → State → Flow
  steps P I lower end_of-Stmt s = Next s
  steps P I lower (more_of-Stmt p k ks) s = and_then (step P I lower k s) (steps P I lower ks)

abbrev pub level_by : Program → Interpretation → (StmtKind → State → Flow) → Level
level_by P I run = record { stmt = run; call = λ f ins globals. body_run I run (routine_named P f) ins globals }

-- what is done with n steps
abbrev pub level : Program → Interpretation → ℕ → Level
level P I zero = level_by P I (step P I None)
level P I (suc n) = level_by P I (step P I (Some (level P I n)))

-- all `requires` are assumed at a run that no call began
abbrev pub if_assumed : Verdict → Outcome → Outcome
if_assumed Holds o = o
if_assumed Fails o = Blocked
if_assumed Blocks o = Blocked

abbrev pub root_run : Interpretation → Level → Text → List Value → Store → Option Proc → Outcome
root_run I with f ins globals None = Blocked
root_run I with f ins globals (Some p) =
    if_assumed (verdict I (before p ins globals) (requires_of p.specs)) (with.call f ins globals)

-- a run of the procedure f that no call began, with n steps
abbrev pub run : Program → Meaning → ℕ → Text → List Value → Store → Outcome
run P M n f ins globals =
    root_run (interpretation_of P M) (level P (interpretation_of P M) n) f ins globals (procedure_in P.decls f)
