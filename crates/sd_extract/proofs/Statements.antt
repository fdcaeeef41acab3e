-- The core run of extracted statements is their run.
use Rattle.std.proofs.Common.{◌≡◌, List, [], ◌∷◌, ◌++◌, refl, sym, ◌∙◌, ap}
use Rattle.std.specs.Prelude.{Bool, true, false, not, map, if◌then◌else◌}
use Rattle.sd_extract.proofs.SourceWords.{Value, write_map, Expr, Left, Interpretation, State, value, truth_of, index_of, Clause, Verdict, Holds, Fails, FreeFails, verdict, values_of, new_values}
use Rattle.sd_extract.proofs.CoreWords.{Spot, CoreExpr, CoreStmt, If, Row_of-CoreStmt, end_of-CoreStmt, more_of-CoreStmt, items-the_row-CoreStmt, items_hidden-the_row-CoreStmt-0, hidden-the_row-CoreStmt-0, Store, write_all, value_in, Step, Goes, Stops, Blocks, Lacks, Calls, then_run, run, run_all, Names, place_of, at_place, negated, both, core_of, put, checked, check, stored, cores, all_stored}
use Rattle.sd_meaning.specs.Run.{written}
use Rattle.sd_core.specs.declared.CoreOp.TheVariants as op
use Rattle.sd_core.specs.declared.CoreStmt as core
use Rattle.sd_core.specs.Run.{run_row}
use Rattle.sd_extract.proofs.Expressions.{Kept, variable_kept, value-Op, value-negated, value_kept}

-- ---- core runs

module _ (I : Interpretation) (calls : Calls) where
  run-row : {n : _} (ss : Row_of-CoreStmt n) (st : Store Value) → run_row I calls ss st ≡ run_all I calls (items-the_row-CoreStmt n ss) st
  run-row end_of-CoreStmt st = refl
  run-row (more_of-CoreStmt s ss) st = λ i. then_run (run I calls s st) (λ t. run-row ss t i)

  run-list : (ss : List CoreStmt) (st : Store Value) → run_row I calls (hidden-the_row-CoreStmt-0 ss) st ≡ run_all I calls ss st
  run-list ss st = run-row (hidden-the_row-CoreStmt-0 ss) st ∙ ap (λ ts. run_all I calls ts st) (items_hidden-the_row-CoreStmt-0 ss)

  pub run-If : (c : CoreExpr) (xs ys : List CoreStmt) (st : Store Value) → run I calls (If c xs ys) st ≡ (if truth_of (value_in I st c) then run_all I calls xs st else run_all I calls ys st)
  run-If c xs ys st = λ i. if truth_of (value_in I st c) then run-list xs st i else run-list ys st i

  then_run-then : (a : Step) (f g : Store Value → Step) → then_run (then_run a f) g ≡ then_run a (λ st. then_run (f st) g)
  then_run-then (Goes st) f g = refl
  then_run-then (Stops st flag) f g = refl
  then_run-then Blocks f g = refl
  then_run-then Lacks f g = refl

  then_run-end : (a : Step) → then_run a (run_all I calls []) ≡ a
  then_run-end (Goes st) = refl
  then_run-end (Stops st flag) = refl
  then_run-end Blocks = refl
  then_run-end Lacks = refl

  pub run-one : (s : CoreStmt) (st : Store Value) → run_all I calls (s ∷ []) st ≡ run I calls s st
  run-one s st = then_run-end (run I calls s st)

  pub run-append : (xs ys : List CoreStmt) (st : Store Value) → run_all I calls (xs ++ ys) st ≡ then_run (run_all I calls xs st) (run_all I calls ys)
  run-append [] ys st = refl
  run-append (x ∷ xs) ys st =
      (λ i. then_run (run I calls x st) (λ t. run-append xs ys t i)) ∙ sym (then_run-then (run I calls x st) (run_all I calls xs) (run_all I calls ys))

  -- a group of assignments
  pub run-put : (ps : List Spot) (es : List CoreExpr) (rest : List CoreStmt) (st : Store Value) → run_all I calls (put ps es ++ rest) st ≡ run_all I calls rest (write_all st ps (map (value_in I st) es))
  run-put [] es rest st = refl
  run-put (p ∷ ps) es rest st = refl

  -- a check, and what comes after it
  pub run-checked : (free : Bool) (c : CoreExpr) (rest : List CoreStmt) (st : Store Value) → run_all I calls (checked free c ∷ rest) st ≡ (if truth_of (value_in I st c) then run_all I calls rest st else (if free then Blocks else Stops st true))
  run-checked true c rest st = elim (truth_of (value_in I st c)) as (λ b. then_run (if b then Goes st else Blocks) (run_all I calls rest) ≡ (if b then run_all I calls rest st else Blocks)) [ true ↦ refl | false ↦ refl ]
  run-checked false c rest st =
      ap (λ a. then_run a (run_all I calls rest)) (run-If (negated c) (core.Fail ∷ []) [] st ∙ ap (λ v. if truth_of v then Stops st true else Goes st) (value-negated I st c))
      ∙ elim (truth_of (value_in I st c)) as (λ b. then_run (if not b then Stops st true else Goes st) (run_all I calls rest) ≡ (if b then run_all I calls rest st else Stops st true)) [ true ↦ refl | false ↦ refl ]

-- after the clauses of a contract or a loop
abbrev pub after_verdict : Verdict → Store Value → Step → Step
after_verdict Holds st go = go
after_verdict Fails st go = Stops st true
after_verdict FreeFails st go = Blocks

pub run-clauses : (I : Interpretation) (calls : Calls) (N : Names) (s : State) (st : Store Value) → Kept N s st → (cs : List Clause) (rest : List CoreStmt) → run_all I calls (map (check N) cs ++ rest) st ≡ after_verdict (verdict I s cs) st (run_all I calls rest st)
run-clauses I calls N s st k [] rest = refl
run-clauses I calls N s st k (c ∷ cs) rest =
    run-checked I calls c.free (core_of N c.holds.kind) (map (check N) cs ++ rest) st ∙ ap (λ v. if truth_of v then run_all I calls (map (check N) cs ++ rest) st else (if c.free then Blocks else Stops st true)) (sym (value_kept I st N s k c.holds.kind)) ∙ go (truth_of (value I s c.holds.kind)) c.free (run-clauses I calls N s st k cs rest)
  where
    go : (b f : Bool) → run_all I calls (map (check N) cs ++ rest) st ≡ after_verdict (verdict I s cs) st (run_all I calls rest st) → (if b then run_all I calls (map (check N) cs ++ rest) st else (if f then Blocks else Stops st true)) ≡ after_verdict (if b then verdict I s cs else (if f then FreeFails else Fails)) st (run_all I calls rest st)
    go true f e = e
    go false true e = refl
    go false false e = refl

-- ---- assigned values

module _ (I : Interpretation) (N : Names) (s : State) (st : Store Value) (k : Kept N s st) where
  pub cores_values : (es : List Expr) → values_of I s es ≡ map (value_in I st) (cores N es)
  cores_values [] = refl
  cores_values (e ∷ es) = let f = value_kept I st N s k e.kind in let g = cores_values es in λ i. f i ∷ g i

  stored_value : (m : CoreExpr) (is : List CoreExpr) (e : CoreExpr) → written (value_in I st m) (map index_of (map (value_in I st) is)) (value_in I st e) ≡ value_in I st (stored m is e)
  stored_value m [] e = refl
  stored_value m (j ∷ is) e =
      let inner = ap (λ v. written v (map index_of (map (value_in I st) is)) (value_in I st e)) (sym (value-Op I st op.Read (m ∷ j ∷ []))) ∙ stored_value (both op.Read m j) is e in
      ap (write_map (value_in I st m) (index_of (value_in I st j))) inner ∙ sym (value-Op I st op.Write (m ∷ j ∷ stored (both op.Read m j) is e ∷ []))

  pub stored_values : (ls : List Left) (es : List Expr) → new_values I s ls (values_of I s es) ≡ map (value_in I st) (all_stored N ls es)
  stored_values [] es = refl
  stored_values (l ∷ ls) [] = refl
  stored_values (l ∷ ls) (e ∷ es) =
      let m = variable_kept I N s st k l.name in
      let is = cores_values l.indices in
      let v = value_kept I st N s k e.kind in
      let here = (λ i. written (m i) (map index_of (is i)) (v i)) ∙ stored_value (at_place (place_of N l.name) l.name) (cores N l.indices) (core_of N e.kind) in
      let rest = stored_values ls es in
      λ i. here i ∷ rest i
