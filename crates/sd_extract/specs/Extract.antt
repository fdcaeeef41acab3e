-- The core procedures of a source procedure: its body, and one for each of its loops.
use Rattle.std.specs.Prelude.{ℕ, suc, ◌+◌, ◌-◌, Bool, true, false, ◌||◌, List, [], ◌∷◌, ◌++◌, map, length}
use Rattle.std.specs.Prelude.{Option, Some, None, option_map, unwrap_or, codes, if◌then◌else◌}
use Rattle.std.specs.Fmt.{decimal}
use Rattle.std.specs.List.{filter_map, list_any}
use Rattle.sd_base.specs.declared.Sort as sort
use Rattle.sd_base.specs.declared.Var.{Var}
use Rattle.sd_base.specs.Value.{Text, same_text}
use Rattle.sd_ast.specs.declared.Decl.{Decl}
use Rattle.sd_ast.specs.declared.Decl.TheVariants.{Procedure}
use Rattle.sd_ast.specs.declared.Spec.{Spec}
use Rattle.sd_ast.specs.declared.Spec.TheVariants.{Modifies}
use Rattle.sd_meaning.specs.Run.{kinds_of, kinds_in}
use Rattle.sd_ast.specs.Tree.{names_of}
use Rattle.sd_meaning.specs.Inputs.{globals_in}
use Rattle.sd_ast.specs.declared.Program.{Program}
use Rattle.sd_ast.specs.declared.Proc.{Proc}
use Rattle.sd_ast.specs.declared.Expr.{Expr}
use Rattle.sd_ast.specs.declared.Left.{Left}
use Rattle.sd_ast.specs.declared.StmtKind.{StmtKind, Assert, Assume, Assign, Call, If', While', Break, Return}
use Rattle.sd_ast.specs.declared.StmtKind.{Row_of-Stmt, end_of-Stmt, more_of-Stmt}
use Rattle.sd_meaning.specs.Routine.{Routine, procedure_in, routine_named, Clause, requires_of, ensures_of, clauses_of}
use Rattle.sd_core.specs.declared.Spot.{Spot}
use Rattle.sd_core.specs.declared.Spot.TheVariants.{Slot, Global}
use Rattle.sd_core.specs.declared.CoreOp.TheVariants as op
use Rattle.sd_core.specs.declared.CoreExpr.{CoreExpr, At, Op}
use Rattle.sd_core.specs.declared.CoreExpr.{Truth as Literal}
use Rattle.sd_core.specs.declared.CoreStmt.{CoreStmt}
use Rattle.sd_core.specs.declared.CoreStmt as core
use Rattle.sd_core.specs.declared.CoreProc.{CoreProc}
use Rattle.sd_core.specs.Store.{set_all}
use Rattle.sd_core.specs.Run.{slots_from}
use Rattle.sd_extract.specs.Names.{Names, place_of, at_place, negated, both, core_of}

-- ---- what a body counts

-- whether a return stands among the statements, or in a loop inside them
abbrev mutual
  pub has_return : StmtKind → Bool
  has_return Return = true
  has_return (If' e shape a shape' b) = has_returns a || has_returns b
  has_return (While' e invs shape body) = has_returns body
  has_return _ = false

  pub has_returns : {m : _} → Row_of-Stmt m → Bool
  has_returns end_of-Stmt = false
  has_returns (more_of-Stmt p k ks) = has_return k || has_returns ks

-- how many hidden locals and loops statements take
pub record Counts : Type 0 where
  pub calls : ℕ
  pub args : ℕ
  pub lefts : ℕ
  pub loops : ℕ

abbrev pub none : Counts
none = record { calls = 0; args = 0; lefts = 0; loops = 0 }

abbrev pub plus : Counts → Counts → Counts
plus a b = record {
  calls = a.calls + b.calls;
  args = a.args + b.args;
  lefts = a.lefts + b.lefts;
  loops = a.loops + b.loops;
}

-- a loop, whose own statements take loops alone
abbrev pub of_loop : Bool → Counts → Counts
of_loop returns inner = record { calls = 0; args = 0; lefts = if returns then 1 else 0; loops = suc inner.loops }

abbrev mutual
  pub counts : StmtKind → Counts
  counts (Call xs f es) = record { calls = 1; args = length es; lefts = 0; loops = 0 }
  counts (If' e shape a shape' b) = plus (counts_all a) (counts_all b)
  counts (While' e invs shape body) = of_loop (has_returns body) (counts_all body)
  counts _ = none

  pub counts_all : {m : _} → Row_of-Stmt m → Counts
  counts_all end_of-Stmt = none
  counts_all (more_of-Stmt p k ks) = plus (counts k) (counts_all ks)

abbrev pub counts_each : List StmtKind → Counts
counts_each [] = none
counts_each (k ∷ ks) = plus (counts k) (counts_each ks)

-- ---- statements

-- What the statements of a body are turned by. The `state` is its outs and locals.
pub record Frame : Type 0 where
  pub names : Names
  pub ins : List Spot
  pub state : List Spot
  pub copies : List Spot
  -- what `return` becomes
  pub leave : List CoreStmt

-- a group of assignments
abbrev pub put : List Spot → List CoreExpr → List CoreStmt
put [] es = []
put (p ∷ ps) es = core.Assign (p ∷ ps) es ∷ []

abbrev pub checked : Bool → CoreExpr → CoreStmt
checked true e = core.Assume e
checked false e = core.If (negated e) (core.Fail ∷ []) []

abbrev pub check : Names → Clause → CoreStmt
check N c = checked c.free (core_of N c.holds.kind)

abbrev pub assume : Names → Clause → CoreStmt
assume N c = core.Assume (core_of N c.holds.kind)

-- the spot of an assigned variable
abbrev pub spot_of : Names → Text → Spot
spot_of N x = unwrap_or (place_of N x) (Slot 0)

-- the map m with e at the place that the indices lead to
abbrev pub stored : CoreExpr → List CoreExpr → CoreExpr → CoreExpr
stored m [] e = e
stored m (i ∷ is) e = Op op.Write (m ∷ i ∷ stored (both op.Read m i) is e ∷ [])

abbrev pub cores : Names → List Expr → List CoreExpr
cores N = map (λ e. core_of N e.kind)

abbrev pub all_stored : Names → List Left → List Expr → List CoreExpr
all_stored N (l ∷ ls) (e ∷ es) =
    stored (at_place (place_of N l.name) l.name) (cores N l.indices) (core_of N e.kind) ∷ all_stored N ls es
all_stored N _ _ = []

-- the callee's parameters in the hidden locals that hold the arguments
abbrev pub on_args : Names → Proc → List Spot → Names
on_args N p spots = record {
  local_names = names_of p.head.ins;
  locals = spots;
  global_names = N.global_names;
  globals = N.globals;
  entry = N.globals;
}

abbrev pub call_of : Names → (Text → ℕ) → List Spot → List Text → Text → List Expr → Option Proc → List CoreStmt
call_of N number spots xs f es None = []
call_of N number spots xs f es (Some p) =
    put spots (cores N es)
    ++ (map (check (on_args N p spots)) (requires_of p.specs)
    ++ (core.Call (map (spot_of N) xs) (number f) (map At spots) ∷ []))

-- a loop with this number. The spot `left`, where there is one, receives whether it returned.
abbrev pub loop_call : Frame → ℕ → (left : List Spot) → CoreStmt
loop_call F k left = core.Call (F.state ++ left) k (map (λ p. At p) (F.ins ++ (F.state ++ F.copies)))

-- what follows a loop that may have returned
abbrev pub leave_if : List Spot → List CoreStmt → List CoreStmt
leave_if [] leave = []
leave_if (p ∷ ps) leave = core.If (At p) leave [] ∷ []

-- The counts say how many hidden locals and procedures were given out before.
abbrev mutual
  pub extracted : Program → (Text → ℕ) → Frame → Counts → StmtKind → List CoreStmt
  extracted P number F at (Assert e) = checked false (core_of F.names e.kind) ∷ []
  extracted P number F at (Assume e) = checked true (core_of F.names e.kind) ∷ []
  extracted P number F at (Assign ls es) =
      core.Assign (map (λ l. spot_of F.names l.name) ls) (all_stored F.names ls es) ∷ []
  extracted P number F at (Call xs f es) =
      call_of F.names number (slots_from at.args es) xs f es (procedure_in P.decls f)
  extracted P number F at (If' e shape a shape' b) =
      core.If (core_of F.names e.kind)
      (all_extracted P number F at a)
      (all_extracted P number F (plus at (counts_all a)) b) ∷ []
  extracted P number F at (While' e invs shape body) =
      let left = if has_returns body then Slot at.lefts ∷ [] else [] in
      loop_call F at.loops left ∷ leave_if left F.leave
  extracted P number F at Break = core.Return ∷ []
  extracted P number F at Return = F.leave

  pub all_extracted : Program → (Text → ℕ) → Frame → Counts → {m : _} → Row_of-Stmt m → List CoreStmt
  all_extracted P number F at end_of-Stmt = []
  all_extracted P number F at (more_of-Stmt p k ks) =
      extracted P number F at k ++ all_extracted P number F (plus at (counts k)) ks

abbrev pub each_extracted : Program → (Text → ℕ) → Frame → Counts → List StmtKind → List CoreStmt
each_extracted P number F at [] = []
each_extracted P number F at (k ∷ ks) = extracted P number F at k ++ each_extracted P number F (plus at (counts k)) ks

-- ---- hidden locals

abbrev pub arg_vars : ℕ → ℕ → List Var → List Var
arg_vars call i [] = []
arg_vars call i (v ∷ vs) =
    record { name = decimal call ++ (codes "@arg@" ++ decimal i); sort = v.sort } ∷ arg_vars call (suc i) vs

abbrev pub ins_of : Option Proc → List Var
ins_of None = []
ins_of (Some p) = p.head.ins

-- the arguments of the calls among statements
abbrev mutual
  pub args_in : Program → Counts → StmtKind → List Var
  args_in P at (Call xs f es) = arg_vars (suc at.calls) 1 (ins_of (procedure_in P.decls f))
  args_in P at (If' e shape a shape' b) = all_args_in P at a ++ all_args_in P (plus at (counts_all a)) b
  args_in P at _ = []

  pub all_args_in : Program → Counts → {m : _} → Row_of-Stmt m → List Var
  all_args_in P at end_of-Stmt = []
  all_args_in P at (more_of-Stmt p k ks) = args_in P at k ++ all_args_in P (plus at (counts k)) ks

-- a truth value for each loop among statements that a `return` may leave
abbrev mutual
  pub lefts_in : Counts → StmtKind → List Var
  lefts_in at (While' e invs shape body) =
      if has_returns body then record { name = decimal (suc at.loops) ++ codes "@left"; sort = sort.Bool } ∷ [] else []
  lefts_in at (If' e shape a shape' b) = all_lefts_in at a ++ all_lefts_in (plus at (counts_all a)) b
  lefts_in at _ = []

  pub all_lefts_in : Counts → {m : _} → Row_of-Stmt m → List Var
  all_lefts_in at end_of-Stmt = []
  all_lefts_in at (more_of-Stmt p k ks) = lefts_in at k ++ all_lefts_in (plus at (counts k)) ks

abbrev pub each_args_in : Program → Counts → List StmtKind → List Var
each_args_in P at [] = []
each_args_in P at (k ∷ ks) = args_in P at k ++ each_args_in P (plus at (counts k)) ks

abbrev pub each_left_in : Counts → List StmtKind → List Var
each_left_in at [] = []
each_left_in at (k ∷ ks) = lefts_in at k ++ each_left_in (plus at (counts k)) ks

abbrev pub hidden : Program → Counts → List StmtKind → List Var
hidden P at ks = each_args_in P at ks ++ each_left_in at ks

-- ---- procedures

-- a procedure with a body, its number, and the globals of its program, some of which it modifies
pub record Source : Type 0 where
  pub routine : Routine
  pub number : ℕ
  pub globals : List Var
  pub modifies : List ℕ
  -- the modified globals
  pub copied : List Var

abbrev pub state_of : Source → List Var
state_of S = S.routine.head.outs ++ S.routine.body.locals

abbrev pub copies_of : Source → List Var
copies_of S = map (λ v. record { name = v.name ++ codes "@copy"; sort = v.sort }) S.copied

abbrev pub globals_from : {A : Type 0} → ℕ → List A → List Spot
globals_from k [] = []
globals_from k (x ∷ xs) = Global k ∷ globals_from (suc k) xs

-- names, where the state and the copies begin at these slots
abbrev pub names_at : Source → (state copies : ℕ) → Names
names_at S state copies =
    let globals = globals_from 0 S.globals in
    record {
      local_names = names_of S.routine.head.ins ++ names_of (state_of S);
      locals = slots_from 0 S.routine.head.ins ++ slots_from state (state_of S);
      global_names = names_of S.globals;
      globals = globals;
      entry = set_all globals S.modifies (slots_from copies S.copied);
    }

abbrev pub frame_at : Source → (state copies : ℕ) → List CoreStmt → Frame
frame_at S state copies leave = record {
  names = names_at S state copies;
  ins = slots_from 0 S.routine.head.ins;
  state = slots_from state (state_of S);
  copies = slots_from copies S.copied;
  leave = leave;
}

-- a body's slots: ins, outs, locals, copies, hidden ones
abbrev pub body_copies : Source → ℕ
body_copies S = length S.routine.head.ins + length (state_of S)

-- the names of `ensures`, which are those of the declaration
abbrev pub contract : Source → Names
contract S = record {
  local_names = names_of S.routine.declared.head.ins ++ names_of S.routine.declared.head.outs;
  locals = slots_from 0 S.routine.head.ins ++ slots_from (length S.routine.head.ins) S.routine.head.outs;
  global_names = names_of S.globals;
  globals = globals_from 0 S.globals;
  entry = (names_at S (length S.routine.head.ins) (body_copies S)).entry;
}

-- the body's end, and each `return` outside loops
abbrev pub leave : Source → List CoreStmt
leave S = map (check (contract S)) (ensures_of S.routine.declared.specs) ++ (core.Return ∷ [])

abbrev pub kinds : Source → List StmtKind
kinds S = map (λ s. s.kind) S.routine.body.stmts

abbrev pub body_frame : Source → Frame
body_frame S = frame_at S (length S.routine.head.ins) (body_copies S) (leave S)

abbrev pub body_start : Source → Counts
body_start S =
    let first = body_copies S + length S.copied in
    record { calls = 0; args = first; lefts = first + (counts_each (kinds S)).args; loops = suc S.number }

abbrev pub body_proc : Program → (Text → ℕ) → Source → CoreProc
body_proc P number S = record {
  name = S.routine.head.name;
  parent = None;
  ins = S.routine.head.ins;
  outs = S.routine.head.outs;
  locals = S.routine.body.locals ++ (copies_of S ++ hidden P none (kinds S));
  modifies = S.modifies;
  body = put (body_frame S).copies (map (λ i. At (Global i)) S.modifies)
      ++ (map (assume (on_args (body_frame S).names S.routine.declared (body_frame S).ins))
      (requires_of S.routine.declared.specs)
      ++ (each_extracted P number (body_frame S) (body_start S) (kinds S) ++ leave S));
}

-- a loop's slots: ins, the state and the copies as it gets them, its own state, `left` where it has one, hidden ones
abbrev pub loop_state : Source → ℕ
loop_state S = body_copies S + length S.copied

abbrev pub loop_hidden : Source → Bool → ℕ
loop_hidden S returns = loop_state S + (length (state_of S) + (if returns then 1 else 0))

abbrev pub left_slot : Source → Spot
left_slot S = Slot (loop_state S + length (state_of S))

abbrev pub left_of : Source → Bool → List Spot
left_of S returns = if returns then left_slot S ∷ [] else []

abbrev pub loop_frame : Source → Frame
loop_frame S =
    frame_at S (loop_state S) (body_copies S) (core.Assign (left_slot S ∷ []) (Literal true ∷ []) ∷ core.Return ∷ [])

abbrev pub loop_start : Source → ℕ → Bool → List StmtKind → Counts
loop_start S k returns turn =
    let first = loop_hidden S returns in
    record { calls = 0; args = first; lefts = first + (counts_each turn).args; loops = suc k }

-- a turn, and the loop again
abbrev pub turn_of : Program → (Text → ℕ) → Source → ℕ → Bool → List StmtKind → List CoreStmt
turn_of P number S k returns turn =
    each_extracted P number (loop_frame S) (loop_start S k returns turn) turn
    ++ (loop_call (loop_frame S) k (left_of S returns) ∷ [])

abbrev pub loop_body : Program → (Text → ℕ) → Source → ℕ → Expr → List Clause → Bool → List StmtKind → List CoreStmt
loop_body P number S k guard invs returns turn =
    let F = loop_frame S in
    put F.state (map At (slots_from (length S.routine.head.ins) (state_of S)))
    ++ (put (left_of S returns) (map (λ p. Literal false) (left_of S returns))
    ++ (map (check F.names) invs
    ++ (core.If (core_of F.names guard.kind) (turn_of P number S k returns turn) [] ∷ [])))

abbrev pub loop_proc : Program → (Text → ℕ) → Source → ℕ → Expr → List Clause → Bool → List StmtKind → CoreProc
loop_proc P number S k guard invs returns turn = record {
  name = S.routine.head.name ++ (codes "@loop@" ++ decimal (k - S.number));
  parent = Some (S.number, k - S.number);
  ins = S.routine.head.ins ++ (state_of S ++ copies_of S);
  outs = state_of S ++ (if returns then record { name = codes "left"; sort = sort.Bool } ∷ [] else []);
  locals = hidden P (record none { loops = k - S.number }) turn;
  modifies = S.modifies;
  body = loop_body P number S k guard invs returns turn;
}

-- the loops among statements, in text order, each before those inside it
abbrev mutual
  pub loops_in : Program → (Text → ℕ) → Source → ℕ → StmtKind → List CoreProc
  loops_in P number S k (While' e invs shape body) =
      loop_proc P number S k e (clauses_of invs) (has_returns body) (kinds_in body)
      ∷ all_loops_in P number S (suc k) body
  loops_in P number S k (If' e shape a shape' b) =
      all_loops_in P number S k a ++ all_loops_in P number S (k + (counts_all a).loops) b
  loops_in P number S k _ = []

  pub all_loops_in : Program → (Text → ℕ) → Source → ℕ → {m : _} → Row_of-Stmt m → List CoreProc
  all_loops_in P number S k end_of-Stmt = []
  all_loops_in P number S k (more_of-Stmt p s ss) =
      loops_in P number S k s ++ all_loops_in P number S (k + (counts s).loops) ss

abbrev pub each_loop_in : Program → (Text → ℕ) → Source → ℕ → List StmtKind → List CoreProc
each_loop_in P number S k [] = []
each_loop_in P number S k (s ∷ ss) = loops_in P number S k s ++ each_loop_in P number S (k + (counts s).loops) ss

abbrev pub procs_of : Program → (Text → ℕ) → Source → List CoreProc
procs_of P number S = body_proc P number S ∷ each_loop_in P number S (suc S.number) (kinds S)

-- ---- programs

abbrev pub index_in : List Var → Text → Option ℕ
index_in [] x = None
index_in (v ∷ vs) x = if same_text x v.name then Some 0 else option_map (λ n. suc n) (index_in vs x)

abbrev pub is_among : Text → List Text → Bool
is_among x names = list_any (same_text x) names

abbrev pub new_names : List Text → List Text → List Text
new_names [] seen = []
new_names (x ∷ xs) seen = if is_among x seen then new_names xs seen else x ∷ new_names xs (seen ++ (x ∷ []))

-- the globals that the `modifies` clauses name, in the order of their first mention
abbrev pub modified_names : List Spec → List Text → List Text
modified_names [] seen = []
modified_names (Modifies xs ∷ specs) seen = new_names xs seen ++ modified_names specs (seen ++ xs)
modified_names (_ ∷ specs) seen = modified_names specs seen

abbrev pub var_in : List Var → Text → Option Var
var_in [] x = None
var_in (v ∷ vs) x = if same_text x v.name then Some v else var_in vs x

abbrev pub source_of : List Var → ℕ → Routine → Source
source_of globals n r =
    let names = modified_names r.declared.specs [] in
    record {
      routine = r;
      number = n;
      globals = globals;
      modifies = filter_map (index_in globals) names;
      copied = filter_map (var_in globals) names;
    }

-- how many procedures a source procedure becomes
abbrev pub size_of : Option Routine → ℕ
size_of None = 0
size_of (Some r) = suc (counts_each (kinds_of r.body.stmts)).loops

-- the number of a procedure: how many stand before it
abbrev pub number_from : Program → ℕ → List Decl → Text → ℕ
number_from P n [] f = n
number_from P n (Procedure p ∷ ds) f =
    if same_text f p.head.name then n else number_from P (n + size_of (routine_named P p.head.name)) ds f
number_from P n (_ ∷ ds) f = number_from P n ds f

abbrev pub routine_procs : Program → ℕ → Option Routine → List CoreProc
routine_procs P n None = []
routine_procs P n (Some r) = procs_of P (number_from P 0 P.decls) (source_of (globals_in P.decls) n r)

abbrev pub procs_from : Program → ℕ → List Decl → List CoreProc
procs_from P n [] = []
procs_from P n (Procedure p ∷ ds) =
    routine_procs P n (routine_named P p.head.name) ++ procs_from P (n + size_of (routine_named P p.head.name)) ds
procs_from P n (_ ∷ ds) = procs_from P n ds

-- the core procedures of a program
abbrev pub core_procs : Program → List CoreProc
core_procs P = procs_from P 0 P.decls
