-- A run that ends in some steps ends in the same way in more steps.
use Rattle.std.proofs.Common.{◌≡◌, ◌≢◌, ℕ, zero, suc, ◌≤◌, List, [], ◌∷◌, Option, Some, None, Bool, true, false, refl, sym, ap, subst, arith, ⊎_elim}
use Rattle.std.specs.Prelude.{if◌then◌else◌, ◌⊎◌}
use Rattle.sd_base.specs.Value.{Text, Value}
use Rattle.sd_ast.specs.declared.Program.{Program}
use Rattle.sd_ast.specs.declared.Proc.{Proc}
use Rattle.sd_ast.specs.declared.Expr.{Expr}
use Rattle.sd_ast.specs.declared.StmtKind.{StmtKind, Assert, Assume, Assign, Call, If', While', Break, Return, Row_of-Stmt, end_of-Stmt, more_of-Stmt}
use Rattle.sd_base.specs.Meaning.{Meaning, Interpretation, interpretation, truth_of}
use Rattle.sd_meaning.specs.Evaluate.{Store, State, value}
use Rattle.sd_meaning.specs.Routine.{Routine, procedure_in, routine_named, Clause, clauses_of, requires_of}
use Rattle.sd_meaning.specs.Run.{Outcome, Flow, Next, Breaks, Returns, Failed, Blocked, Unfinished, and_then, each, kinds_of, kinds_in, Verdict, Holds, Fails, Blocks, verdict, if_holds, values_of, before, entered, outcome_of, body_run, Level, received, called, call, after_turn, reach, step, steps, level_by, level, if_assumed, root_run, run}

-- b is a, unless a is unfinished
abbrev pub Extends : Flow → Flow → Type 0
Extends Unfinished b = Unit {0}
Extends a b = b ≡ a

-- the same of outcomes
abbrev pub SameEnd : Outcome → Outcome → Type 0
SameEnd Unfinished b = Unit {0}
SameEnd a b = b ≡ a

extends_refl : (a : Flow) → Extends a a
extends_refl Unfinished = tt
extends_refl _ = refl

same_end_refl : (a : Outcome) → SameEnd a a
same_end_refl Unfinished = tt
same_end_refl _ = refl

and_then_extends : (a b : Flow) (f g : State → Flow) → Extends a b → ((s : State) → Extends (f s) (g s)) → Extends (and_then a f) (and_then b g)
and_then_extends (Next s) b f g e h = subst (λ c. Extends (f s) (and_then c g)) (sym e) (h s)
and_then_extends Unfinished b f g e h = tt
and_then_extends _ b f g e h = ap (λ c. and_then c g) e

after_turn_extends : (a b : Flow) (f g : State → Flow) → Extends a b → ((s : State) → Extends (f s) (g s)) → Extends (after_turn a f) (after_turn b g)
after_turn_extends (Next s) b f g e h = subst (λ c. Extends (f s) (after_turn c g)) (sym e) (h s)
after_turn_extends Unfinished b f g e h = tt
after_turn_extends _ b f g e h = ap (λ c. after_turn c g) e

each_extends : (r q : StmtKind → State → Flow) → ((k : StmtKind) (s : State) → Extends (r k s) (q k s)) → (ks : List StmtKind) (s : State) → Extends (each r ks s) (each q ks s)
each_extends r q h [] s = refl
each_extends r q h (k ∷ ks) s = and_then_extends (r k s) (q k s) (each r ks) (each q ks) (h k s) (each_extends r q h ks)

if_extends : (c : Bool) (a a' b b' : Flow) → Extends a a' → Extends b b' → Extends (if c then a else b) (if c then a' else b')
if_extends true a a' b b' h k = h
if_extends false a a' b b' h k = k

if_holds_extends : (v : Verdict) (a b : Flow) → Extends a b → Extends (if_holds v a) (if_holds v b)
if_holds_extends Holds a b h = h
if_holds_extends Fails a b h = refl
if_holds_extends Blocks a b h = refl

received_extends : (s : State) (xs : List Text) (a b : Outcome) → SameEnd a b → Extends (received s xs a) (received s xs b)
received_extends s xs Unfinished b e = tt
received_extends s xs _ b e = ap (received s xs) e

outcome_same_as : (I : Interpretation) (r : Routine) (ins : List Value) (a b : Flow) → b ≡ a → SameEnd (outcome_of I r ins a) (outcome_of I r ins b)
outcome_same_as I r ins a b e = subst (λ c. SameEnd (outcome_of I r ins a) (outcome_of I r ins c)) (sym e) (same_end_refl (outcome_of I r ins a))

outcome_same : (I : Interpretation) (r : Routine) (ins : List Value) (a b : Flow) → Extends a b → SameEnd (outcome_of I r ins a) (outcome_of I r ins b)
outcome_same I r ins Unfinished b e = tt
outcome_same I r ins Failed b e = ap (outcome_of I r ins) e
outcome_same I r ins Blocked b e = ap (outcome_of I r ins) e
outcome_same I r ins (Next s) b e = outcome_same_as I r ins (Next s) b e
outcome_same I r ins (Breaks s) b e = outcome_same_as I r ins (Breaks s) b e
outcome_same I r ins (Returns s) b e = outcome_same_as I r ins (Returns s) b e

body_same : (I : Interpretation) (p q : StmtKind → State → Flow) → ((k : StmtKind) (s : State) → Extends (p k s) (q k s)) → (r : Option Routine) (ins : List Value) (globals : Store) → SameEnd (body_run I p r ins globals) (body_run I q r ins globals)
body_same I p q h None ins globals = refl
body_same I p q h (Some r) ins globals = outcome_same I r ins _ _ (each_extends p q h (kinds_of r.body.stmts) (entered I r ins globals))

if_assumed_same : (v : Verdict) (a b : Outcome) → SameEnd a b → SameEnd (if_assumed v a) (if_assumed v b)
if_assumed_same Holds a b h = h
if_assumed_same Fails a b h = refl
if_assumed_same Blocks a b h = refl

same_end_is : (a b : Outcome) → SameEnd a b → a ≢ Unfinished → b ≡ a
same_end_is Unfinished b e h = absurd (h refl)
same_end_is _ b e h = e

-- what q does extends what p does
pub record LevelExtends (p q : Level) : Type 0 where
  pub stmt : (k : StmtKind) (s : State) → Extends (p.stmt k s) (q.stmt k s)
  pub call : (f : Text) (ins : List Value) (globals : Store) → SameEnd (p.call f ins globals) (q.call f ins globals)

abbrev pub LowerExtends : Option Level → Option Level → Type 0
LowerExtends None q = Unit {0}
LowerExtends (Some p) None = ⊥
LowerExtends (Some p) (Some q) = LevelExtends p q

called_extends : (p q : Option Level) → LowerExtends p q → (s : State) (xs : List Text) (f : Text) (ins : List Value) → Extends (called p s xs f ins) (called q s xs f ins)
called_extends None q h s xs f ins = tt
called_extends (Some p) None h s xs f ins = absurd h
called_extends (Some p) (Some q) h s xs f ins = received_extends s xs _ _ (h.call f ins s.globals)

call_extends : (I : Interpretation) (p q : Option Level) → LowerExtends p q → (s : State) (xs : List Text) (f : Text) (ins : List Value) (r : Option Proc) → Extends (call I p s xs f ins r) (call I q s xs f ins r)
call_extends I p q h s xs f ins None = refl
call_extends I p q h s xs f ins (Some r) =
    if_holds_extends (verdict I (before r ins s.globals) (requires_of r.specs)) _ _ (called_extends p q h s xs f ins)

reach_extends : (I : Interpretation) (p q : Option Level) → LowerExtends p q → (guard : Expr) (invs : List Clause) (body : List StmtKind) (loop : StmtKind) (s : State) → Extends (reach I p guard invs body loop s) (reach I q guard invs body loop s)
reach_extends I None q h guard invs body loop s = tt
reach_extends I (Some p) None h guard invs body loop s = absurd h
reach_extends I (Some p) (Some q) h guard invs body loop s =
    if_holds_extends (verdict I s invs) _ _ (if_extends (truth_of (value I s guard.kind)) _ _ _ _ (after_turn_extends (each p.stmt body s) (each q.stmt body s) (p.stmt loop) (q.stmt loop) (each_extends p.stmt q.stmt h.stmt body s) (h.stmt loop)) refl)

module _ (P : Program) (I : Interpretation) where
  mutual
    pub step_extends : (p q : Option Level) → LowerExtends p q → (k : StmtKind) (s : State) → Extends (step P I p k s) (step P I q k s)
    step_extends p q h (Assert e) s = extends_refl (step P I p (Assert e) s)
    step_extends p q h (Assume e) s = extends_refl (step P I p (Assume e) s)
    step_extends p q h (Call xs f es) s = call_extends I p q h s xs f (values_of I s es) (procedure_in P.decls f)
    step_extends p q h (If' e shape a shape' b) s =
        if_extends (truth_of (value I s e.kind)) _ _ _ _ (steps_extend p q h a s) (steps_extend p q h b s)
    step_extends p q h (While' e invs shape body) s =
        reach_extends I p q h e (clauses_of invs) (kinds_in body) (While' e invs shape body) s
    step_extends p q h _ s = refl

    pub steps_extend : (p q : Option Level) → LowerExtends p q → {m : _} → (ks : Row_of-Stmt m) (s : State) → Extends (steps P I p ks s) (steps P I q ks s)
    steps_extend p q h end_of-Stmt s = refl
    steps_extend p q h (more_of-Stmt at k ks) s =
        and_then_extends _ _ (steps P I p ks) (steps P I q ks) (step_extends p q h k s) (steps_extend p q h ks)

  level_by_extends : (p q : Option Level) → LowerExtends p q → LevelExtends (level_by P I (step P I p)) (level_by P I (step P I q))
  level_by_extends p q h = record {
    stmt = step_extends p q h;
    call = λ f. body_same I (step P I p) (step P I q) (step_extends p q h) (routine_named P f);
  }

  pub level_extends : (m n : ℕ) → m ≤ n → LevelExtends (level P I m) (level P I n)
  level_extends zero zero h = level_by_extends None None tt
  level_extends zero (suc n) h = level_by_extends None (Some (level P I n)) tt
  level_extends (suc m) zero h = absurd (omega arith)
  level_extends (suc m) (suc n) h =
      level_by_extends (Some (level P I m)) (Some (level P I n)) (level_extends m n (omega arith))

root_same : (I : Interpretation) (p q : Level) → LevelExtends p q → (f : Text) (ins : List Value) (globals : Store) (r : Option Proc) → SameEnd (root_run I p f ins globals r) (root_run I q f ins globals r)
root_same I p q h f ins globals None = refl
root_same I p q h f ins globals (Some r) =
    if_assumed_same (verdict I (before r ins globals) (requires_of r.specs)) _ _ (h.call f ins globals)

-- an end in m steps is the end in n steps or more
pub run_extends : (P : Program) (M : Meaning) (m n : ℕ) (f : Text) (ins : List Value) (globals : Store) → m ≤ n → run P M m f ins globals ≢ Unfinished → run P M n f ins globals ≡ run P M m f ins globals
run_extends P M m n f ins globals h finished =
    same_end_is _ _ (root_same (interpretation M) _ _ (level_extends P (interpretation M) m n h) f ins globals (procedure_in P.decls f)) finished

either_way : (m n : ℕ) → (m ≤ n) ⊎ (n ≤ m)
either_way m n = grind arith

-- two ends are one
pub run_once : (P : Program) (M : Meaning) (m n : ℕ) (f : Text) (ins : List Value) (globals : Store) → run P M m f ins globals ≢ Unfinished → run P M n f ins globals ≢ Unfinished → run P M m f ins globals ≡ run P M n f ins globals
run_once P M m n f ins globals h k =
    ⊎_elim (λ le. sym (run_extends P M m n f ins globals le h)) (λ le. run_extends P M n m f ins globals le k) (either_way m n)
