-- What a procedure of the core does, with a bound on calls inside each other.
use Rattle.std.specs.Prelude.{ℕ, zero, suc, Bool, true, false, not, ◌&&◌, ◌||◌, List, [], ◌∷◌, ◌++◌, map, length, get_or, pos, ◌+ℤ◌, ◌-ℤ◌, ◌*ℤ◌, neg_ℤ, int_le, Option, Some, None, slice_get, if◌then◌else◌}
use Rattle.sd_base.specs.declared.sort.Sort.{Sort}
use Rattle.sd_base.specs.Value.{Value, Number, Truth, same_value, read as read_map, write as write_map}
use Rattle.sd_core.specs.declared.tree.CoreOp.{CoreOp}
use Rattle.sd_core.specs.declared.tree.CoreOp.TheVariants as op
use Rattle.sd_core.specs.declared.tree.Spot.{Spot}
use Rattle.sd_core.specs.declared.tree.Spot.TheVariants.{Slot}
use Rattle.sd_core.specs.declared.tree.CoreExpr.{CoreExpr, Num, At, Const, Apply', Op', Row_of-CoreExpr, end_of-CoreExpr, more_of-CoreExpr}
use Rattle.sd_core.specs.declared.tree.CoreExpr.{Truth as Literal}
use Rattle.sd_core.specs.declared.tree.CoreStmt.{CoreStmt, Assign, If', Call, Assume, Fail, Return, Row_of-CoreStmt, end_of-CoreStmt, more_of-CoreStmt}
use Rattle.sd_core.specs.declared.tree.CoreProc.{CoreProc}
use Rattle.sd_core.specs.Store.{Store, read, write_all}
use Rattle.sd_base.specs.Meaning.{Interpretation, number_of, truth_of, index_of}

abbrev pub nothing : Value
nothing = Truth false

abbrev pub part : List Value → ℕ → Value
part xs n = get_or xs n nothing

-- every operator is total
abbrev pub apply : CoreOp → List Value → Value
apply op.Not xs = Truth (not (truth_of (part xs 0)))
apply op.And xs = Truth (truth_of (part xs 0) && truth_of (part xs 1))
apply op.Or xs = Truth (truth_of (part xs 0) || truth_of (part xs 1))
apply op.Eq xs = Truth (same_value (part xs 0) (part xs 1))
apply op.Le xs = Truth (int_le (number_of (part xs 0)) (number_of (part xs 1)))
apply op.Add xs = Number (number_of (part xs 0) +ℤ number_of (part xs 1))
apply op.Sub xs = Number (number_of (part xs 0) -ℤ number_of (part xs 1))
apply op.Mul xs = Number (number_of (part xs 0) *ℤ number_of (part xs 1))
apply op.Neg xs = Number (neg_ℤ (number_of (part xs 0)))
apply op.Read xs = read_map (part xs 0) (index_of (part xs 1))
apply op.Write xs = write_map (part xs 0) (index_of (part xs 1)) (part xs 2)

-- the value of an expression
abbrev mutual
  pub value_in : Interpretation → Store Value → CoreExpr → Value
  value_in I st (Num n) = Number (pos n)
  value_in I st (Literal b) = Truth b
  value_in I st (At s) = read nothing st s
  value_in I st (Const c) = I.constant c
  value_in I st (Apply' f n es) = I.apply f (values_in I st es)
  value_in I st (Op' o n es) = apply o (values_in I st es)

  pub values_in : Interpretation → Store Value → {n : _} → Row_of-CoreExpr n → List Value
  values_in I st end_of-CoreExpr = []
  values_in I st (more_of-CoreExpr e es) = value_in I st e ∷ values_in I st es

-- how a run of a procedure is over
pub data End : Type 0 where
  Ended : (outs globals : List Value) (flag : Bool) → End
  Blocked : End
  Unfinished : End

-- where a run stands after a statement: it goes on, it ended its procedure, it is blocked, or it lacks calls to go on
pub data Step : Type 0 where
  Goes : Store Value → Step
  Stops : Store Value → (flag : Bool) → Step
  Blocks : Step
  Lacks : Step

-- what a call of a procedure by number comes to
abbrev pub Calls : Type 0
Calls = ℕ → (ins globals : List Value) → End

-- after a call: the callee's globals are taken over, then its outs are stored, and a raised flag ends the caller too
abbrev pub receive : Store Value → List Spot → End → Step
receive st spots (Ended outs globals true) =
    Stops (write_all (record { slots = st.slots; globals = globals }) spots outs) true
receive st spots (Ended outs globals false) =
    Goes (write_all (record { slots = st.slots; globals = globals }) spots outs)
receive st spots Blocked = Blocks
receive st spots Unfinished = Lacks

abbrev pub then_run : Step → (Store Value → Step) → Step
then_run (Goes st) go = go st
then_run (Stops st flag) go = Stops st flag
then_run Blocks go = Blocks
then_run Lacks go = Lacks

abbrev mutual
  pub run : Interpretation → Calls → CoreStmt → Store Value → Step
  run I calls (Assign spots es) st = Goes (write_all st spots (map (value_in I st) es))
  run I calls (If' c n a m b) st = if truth_of (value_in I st c) then run_row I calls a st else run_row I calls b st
  run I calls (Call spots q args) st = receive st spots (calls q (map (value_in I st) args) st.globals)
  run I calls (Assume c) st = if truth_of (value_in I st c) then Goes st else Blocks
  run I calls Fail st = Stops st true
  run I calls Return st = Stops st false

  pub run_row : Interpretation → Calls → {n : _} → Row_of-CoreStmt n → Store Value → Step
  run_row I calls end_of-CoreStmt st = Goes st
  run_row I calls (more_of-CoreStmt s ss) st = then_run (run I calls s st) (run_row I calls ss)

abbrev pub run_all : Interpretation → Calls → List CoreStmt → Store Value → Step
run_all I calls [] st = Goes st
run_all I calls (s ∷ ss) st = then_run (run I calls s st) (run_all I calls ss)

-- the state at the entry of a procedure: outs and locals have the starting values of their types
abbrev pub enter : {A : Type 0} → (Sort → A) → CoreProc → (ins globals : List A) → Store A
enter start p ins globals = record {
  slots = ins ++ (map (λ v. start v.sort) p.outs ++ map (λ v. start v.sort) p.locals);
  globals = globals;
}

-- slots from one on, one for each of some things
abbrev pub slots_from : {A : Type 0} → ℕ → List A → List Spot
slots_from k [] = []
slots_from k (s ∷ ss) = Slot k ∷ slots_from (suc k) ss

abbrev pub out_spots : CoreProc → List Spot
out_spots p = slots_from (length p.ins) p.outs

abbrev pub outs_of : CoreProc → Store Value → List Value
outs_of p st = map (read nothing st) (out_spots p)

abbrev pub end_of : CoreProc → Step → End
end_of p (Goes st) = Ended (outs_of p st) st.globals false
end_of p (Stops st flag) = Ended (outs_of p st) st.globals flag
end_of p Blocks = Blocked
end_of p Lacks = Unfinished

abbrev pub run_proc : Interpretation → Calls → CoreProc → (ins globals : List Value) → End
run_proc I calls p ins globals = end_of p (run_all I calls p.body (enter I.start p ins globals))

abbrev pub run_number : Interpretation → Calls → Option CoreProc → (ins globals : List Value) → End
run_number I calls (Some p) ins globals = run_proc I calls p ins globals
run_number I calls None ins globals = Blocked

-- the calls that a run with this bound can make
abbrev pub calls_within : Interpretation → List CoreProc → ℕ → Calls
calls_within I procs zero q ins globals = Unfinished
calls_within I procs (suc n) q ins globals = run_number I (calls_within I procs n) (slice_get procs q) ins globals

-- the flagged run of procedure q with bound n
abbrev pub flag_run : Interpretation → List CoreProc → ℕ → Calls
flag_run I procs n = calls_within I procs (suc n)

-- axioms speak of no slot and no global
abbrev pub nowhere : Store Value
nowhere = record { slots = []; globals = [] }

abbrev pub is_true : Interpretation → CoreExpr → Bool
is_true I e = truth_of (value_in I nowhere e)
