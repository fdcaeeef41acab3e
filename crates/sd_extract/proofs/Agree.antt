-- A statement and what it becomes do the same, from states that agree.
use Rattle.std.proofs.Common.{◌≡◌, ℕ, List, [], ◌∷◌, Option, refl, sym, ◌∙◌, ap, subst}
use Rattle.std.specs.Prelude.{Bool, true, false, map, if◌then◌else◌}
use Rattle.std.proofs.lemmas.Simd.{map-map}
use Rattle.sd_extract.proofs.SourceWords.{Text, Value, Program, Expr, Left, StmtKind, Assert, Assume, Assign, Call, If', While', Break, Return, Row_of-Stmt, end_of-Stmt, more_of-Stmt, Interpretation, State, value, truth_of, Flow, Next, Breaks, Returns, Failed, Blocked, Unfinished, each, Verdict, Holds, Fails, FreeFails, if_holds, set_variable, values_of, new_values, Level, step}
use Rattle.sd_extract.proofs.CoreWords.{Spot, CoreExpr, CoreStmt, If, Store, write, write_all, value_in, Step, Goes, Stops, Blocks, Lacks, Calls, then_run, run_all, Names, core_of, Counts, plus, counts, counts_all, Frame, spot_of, all_stored, extracted, all_extracted, each_extracted}
use Rattle.sd_meaning.specs.Run.{and_then, set_all, steps}
use Rattle.sd_extract.proofs.Expressions.{value_kept}
use Rattle.sd_extract.proofs.Writes.{SetsAt, IsLaidOut, Tied, tied_set}
use Rattle.sd_extract.proofs.Statements.{run-If, run-one, run-append, run-checked, after_verdict, stored_values}

-- where a body is kept: how many slots and globals there are, and which spots hold what at all times
pub record Room : Type 0 where
  pub size : ℕ
  pub width : ℕ
  pub fixed : List Spot
  pub values : List Value
  -- whether its statements may return, and break out
  pub returns : Bool
  pub breaks : Bool

abbrev pub TiedIn : Room → Frame → State → Store Value → Type 0
TiedIn R F s st = Tied R.size R.width F.names R.fixed R.values s st

-- these variables may be assigned
abbrev pub CanSet : Room → Names → List Text → Type 0
CanSet R N [] = Unit {0}
CanSet R N (x ∷ xs) = SetsAt R.size R.width N R.fixed x (spot_of N x) × CanSet R N xs

pub tied_set_all : (R : Room) (F : Frame) → IsLaidOut F.names → (xs : List Text) (vs : List Value) (s : State) (st : Store Value) → CanSet R F.names xs → TiedIn R F s st → TiedIn R F (set_all s xs vs) (write_all st (map (spot_of F.names) xs) vs)
tied_set_all R F laid [] vs s st c t = t
tied_set_all R F laid (x ∷ xs) [] s st c t = t
tied_set_all R F laid (x ∷ xs) (v ∷ vs) s st c t =
    tied_set_all R F laid xs vs (set_variable s x v) (write st (spot_of F.names x) v) c.1 (tied_set R.size R.width F.names R.fixed R.values laid s st x (spot_of F.names x) v c.0 t)

-- What a statement needs: its assigned variables may be assigned, a `break` and a `return` may stand there, and its calls and loops are as they should be.
module _ (R : Room) (F : Frame) (CallReady : Counts → List Text → Text → List Expr → Type 0) (LoopReady : Counts → StmtKind → Type 0) where
  abbrev mutual
    pub Ready : Counts → StmtKind → Type 0
    Ready at (Assign ls es) = CanSet R F.names (map (λ l. l.name) ls)
    Ready at (Call xs f es) = CallReady at xs f es
    Ready at (If' e shape a shape' b) = AllReady at a × AllReady (plus at (counts_all a)) b
    Ready at (While' e invs shape body) = LoopReady at (While' e invs shape body)
    Ready at Break = R.breaks ≡ true
    Ready at Return = R.returns ≡ true
    Ready at _ = Unit {0}

    pub AllReady : Counts → {m : _} → Row_of-Stmt m → Type 0
    AllReady at end_of-Stmt = Unit {0}
    AllReady at (more_of-Stmt p k ks) = Ready at k × AllReady (plus at (counts k)) ks

  abbrev pub EachReady : Counts → List StmtKind → Type 0
  EachReady at [] = Unit {0}
  EachReady at (k ∷ ks) = Ready at k × EachReady (plus at (counts k)) ks

module _ (I : Interpretation) (calls : Calls) (R : Room) (F : Frame) where
  -- What a run of statements comes to, and where the core run stands.
  abbrev pub Agrees : Flow → Step → Type 0
  Agrees (Next s) a = (st : Store Value) × (a ≡ Goes st) × TiedIn R F s st
  Agrees (Breaks s) a = (st : Store Value) × (a ≡ Stops st false) × TiedIn R F s st × (R.breaks ≡ true)
  Agrees (Returns s) a = (st : Store Value) × (a ≡ run_all I calls F.leave st) × TiedIn R F s st × (R.returns ≡ true)
  Agrees Failed a = (st : Store Value) × (a ≡ Stops st true)
  Agrees Blocked a = a ≡ Blocks
  Agrees Unfinished a = a ≡ Lacks

  -- nothing runs after what `return` becomes
  abbrev pub Leaves : Type 0
  Leaves = (st : Store Value) (go : Store Value → Step) → then_run (run_all I calls F.leave st) go ≡ run_all I calls F.leave st

  pub agree_then : Leaves → (a : Flow) (b : Step) (f : State → Flow) (g : Store Value → Step) → Agrees a b → ((s : State) (st : Store Value) → TiedIn R F s st → Agrees (f s) (g st)) → Agrees (and_then a f) (then_run b g)
  agree_then leaves (Next s) b f g h k = subst (λ c. Agrees (f s) (then_run c g)) (sym h.1) (k s h.0 h.2)
  agree_then leaves (Breaks s) b f g h k = (h.0, ap (λ c. then_run c g) h.1, h.2, h.3)
  agree_then leaves (Returns s) b f g h k = (h.0, ap (λ c. then_run c g) h.1 ∙ leaves h.0 g, h.2, h.3)
  agree_then leaves Failed b f g h k = (h.0, ap (λ c. then_run c g) h.1)
  agree_then leaves Blocked b f g h k = ap (λ c. then_run c g) h
  agree_then leaves Unfinished b f g h k = ap (λ c. then_run c g) h

  pub agree_if : (c d : Bool) (a a' : Flow) (b b' : Step) → c ≡ d → Agrees a b → Agrees a' b' → Agrees (if c then a else a') (if d then b else b')
  agree_if c true a a' b b' e h k = subst (λ x. Agrees (if x then a else a') b) (sym e) h
  agree_if c false a a' b b' e h k = subst (λ x. Agrees (if x then a else a') b') (sym e) k

  pub if_agrees : (c : CoreExpr) (xs ys : List CoreStmt) (st : Store Value) (b : Bool) (f g : Flow) → b ≡ truth_of (value_in I st c) → Agrees f (run_all I calls xs st) → Agrees g (run_all I calls ys st) → Agrees (if b then f else g) (run_all I calls (If c xs ys ∷ []) st)
  if_agrees c xs ys st b f g e h k =
      subst (Agrees (if b then f else g)) (sym (run-one I calls (If c xs ys) st ∙ run-If I calls c xs ys st)) (agree_if b (truth_of (value_in I st c)) f g (run_all I calls xs st) (run_all I calls ys st) e h k)

  agree_checked : (free c d : Bool) (s : State) (st : Store Value) → c ≡ d → TiedIn R F s st → Agrees (if c then Next s else (if free then Blocked else Failed)) (if d then Goes st else (if free then Blocks else Stops st true))
  agree_checked free c true s st e t = subst (λ x. Agrees (if x then Next s else (if free then Blocked else Failed)) (Goes st)) (sym e) (st, refl, t)
  agree_checked true c false s st e t = subst (λ x. Agrees (if x then Next s else Blocked) Blocks) (sym e) refl
  agree_checked false c false s st e t = subst (λ x. Agrees (if x then Next s else Failed) (Stops st true)) (sym e) (st, refl)

  module _ (P : Program) (number : Text → ℕ) (lower : Option Level) (laid : IsLaidOut F.names) (leaves : Leaves) where
    module _ (CallReady : Counts → List Text → Text → List Expr → Type 0) (LoopReady : Counts → StmtKind → Type 0) where
      abbrev pub StmtAgrees : Counts → StmtKind → Type 0
      StmtAgrees at k = (s : State) (st : Store Value) → TiedIn R F s st → Agrees (step P I lower k s) (run_all I calls (extracted P number F at k) st)

      module _ (of_call : (at : Counts) (xs : List Text) (f : Text) (es : List Expr) → CallReady at xs f es → StmtAgrees at (Call xs f es)) (of_loop : (at : Counts) (k : StmtKind) → LoopReady at k → StmtAgrees at k) where
        mutual
          pub step_agrees : (at : Counts) (k : StmtKind) → Ready R F CallReady LoopReady at k → StmtAgrees at k
          step_agrees at (Assert e) r s st t =
              subst (Agrees _) (sym (run-checked I calls false (core_of F.names e.kind) [] st)) (agree_checked false _ _ s st (ap truth_of (value_kept I st F.names s t.kept e.kind)) t)
          step_agrees at (Assume e) r s st t =
              subst (Agrees _) (sym (run-checked I calls true (core_of F.names e.kind) [] st)) (agree_checked true _ _ s st (ap truth_of (value_kept I st F.names s t.kept e.kind)) t)
          step_agrees at (Assign ls es) r s st t =
              let vs = new_values I s ls (values_of I s es) in
              let e = stored_values I F.names s st t.kept ls es in
              let spots = map-map (spot_of F.names) (λ (l : Left). l.name) ls in
              let same : write_all st (map (spot_of F.names) (map (λ (l : Left). l.name) ls)) vs ≡ write_all st (map (λ (l : Left). spot_of F.names l.name) ls) (map (value_in I st) (all_stored F.names ls es)) = λ i. write_all st (spots i) (e i) in
              (write_all st (map (spot_of F.names) (map (λ (l : Left). l.name) ls)) vs, sym (ap (λ u. Goes u) same), tied_set_all R F laid (map (λ (l : Left). l.name) ls) vs s st r t)
          step_agrees at (Call xs f es) r s st t = of_call at xs f es r s st t
          step_agrees at (If' e shape a shape' b) r s st t =
              let xs = all_extracted P number F at a in let ys = all_extracted P number F (plus at (counts_all a)) b in
              if_agrees (core_of F.names e.kind) xs ys st (truth_of (value I s e.kind)) (steps P I lower a s) (steps P I lower b s) (ap truth_of (value_kept I st F.names s t.kept e.kind)) (steps_agree at a r.0 s st t) (steps_agree (plus at (counts_all a)) b r.1 s st t)
          step_agrees at (While' e invs shape body) r s st t = of_loop at (While' e invs shape body) r s st t
          step_agrees at _ r s st t = (st, refl, t, r)

          pub steps_agree : (at : Counts) {m : _} (ks : Row_of-Stmt m) → AllReady R F CallReady LoopReady at ks → (s : State) (st : Store Value) → TiedIn R F s st → Agrees (steps P I lower ks s) (run_all I calls (all_extracted P number F at ks) st)
          steps_agree at end_of-Stmt r s st t = (st, refl, t)
          steps_agree at (more_of-Stmt p k ks) r s st t =
              subst (Agrees _) (sym (run-append I calls (extracted P number F at k) (all_extracted P number F (plus at (counts k)) ks) st)) (agree_then leaves (step P I lower k s) _ (steps P I lower ks) _ (step_agrees at k r.0 s st t) (steps_agree (plus at (counts k)) ks r.1))

        pub each_agrees : (at : Counts) (ks : List StmtKind) → EachReady R F CallReady LoopReady at ks → (s : State) (st : Store Value) → TiedIn R F s st → Agrees (each (step P I lower) ks s) (run_all I calls (each_extracted P number F at ks) st)
        each_agrees at [] r s st t = (st, refl, t)
        each_agrees at (k ∷ ks) r s st t =
            subst (Agrees _) (sym (run-append I calls (extracted P number F at k) (each_extracted P number F (plus at (counts k)) ks) st)) (agree_then leaves (step P I lower k s) _ (each (step P I lower) ks) _ (step_agrees at k r.0 s st t) (each_agrees (plus at (counts k)) ks r.1))
