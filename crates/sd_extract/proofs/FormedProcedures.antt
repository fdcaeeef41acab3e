-- The procedures of a body and of its loops are well formed.
use Rattle.std.proofs.Common.{◌≡◌, ℕ, zero, suc, ◌+◌, ◌-◌, ◌≤◌, List, [], ◌∷◌, ◌++◌, map, length, Some, None, refl, sym, ◌∙◌, ap, subst, inl, inr, arith, length-append}
use Rattle.std.specs.Prelude.{Bool, true, false, ◌⊎◌, slice_get, codes, if◌then◌else◌}
use Rattle.std.specs.List.{AllByRecursion, filter_map, cons_option}
use Rattle.std.proofs.lemmas.List.{append-nil, map-append}
use Rattle.std.proofs.lemmas.Option.{same_Some, none-some}
use Rattle.sd_extract.proofs.SourceWords.{Sort, BoolSort, Var, Text, names_of, Program, Expr, Invariant, StmtKind, If', While', Row_of-Stmt, end_of-Stmt, more_of-Stmt, SourceRoutine, procedure_in, routine_named, requires_of, ensures_of, clauses_of, globals_in, kinds_in, Scope, Context, context, routine, variables_as, parameters, modifies_of, body_variables, HasType, IsTypedStmt, AreTypedStmts}
use Rattle.sd_extract.proofs.CoreWords.{Global, At, Literal, CoreStmt, CoreProc, Function, CoreProgram, Store, slots_from, sorts_of, state_sorts, IsSort, AllHaveTypes, AreSpotsOf, IsFormed, AllFormed, IsProc, copies_in, core_of, counts, counts_all, counts_each, none, has_returns, Source, state_of, copies_of, frame_at, kinds, put, check, assume, on_args, loop_call, each_extracted, contract, leave, body_frame, body_copies, body_start, body_proc, loop_state, loop_hidden, left_of, loop_frame, loop_start, turn_of, loop_proc, loops_in, all_loops_in, each_loop_in, procs_of, hidden, ins_of, var_in, modified_names, number_from, core_procs, core_program, functions_in}
use Rattle.sd_base.proofs.Lists.{all-append}
use Rattle.sd_types.specs.declared.scope.Nature.TheVariants as nature
use Rattle.sd_types.specs.declared.scope.Site.TheVariants as site
use Rattle.sd_types.specs.Statements.{Routine}
use Rattle.sd_types.specs.TypedBodies.{AllTruths}
use Rattle.sd_core.specs.declared.CoreStmt as core
use Rattle.sd_core.specs.Formed.{IsLoop}
use Rattle.sd_extract.proofs.FormedExpressions.{Sees, core_typed}
use Rattle.sd_extract.proofs.FormedChecks.{IsChecked, AreChecked, EachChecked, EachTyped, row_each_checked, row_each_typed}
use Rattle.sd_extract.proofs.FormedSpots.{Holds, holds_left, holds_right, spots_hold, spots_typed, slots_targets}
use Rattle.sd_extract.proofs.FormedPlaces.{sorts_as, laid_append, laid_vars, laid_found, laid_none, LocalsAt, Matches, sees}
use Rattle.sd_extract.proofs.FormedDeclarations.{IsTyped, is_scope, RoutineFine, proc_is_fine, routine_fine}
use Rattle.sd_extract.proofs.FormedModifies.{numbers_match, numbers_below, numbers_once, modified_once, copied_numbers}
use Rattle.sd_extract.proofs.FormedNumbers.{EachFrom, each_append, LoopIs, loops_length, all_loops_length, each_loops_give, row_loops}
use Rattle.sd_extract.proofs.FormedFrames.{sorts_length, source_at, body_stands, loops_stand, entry_laid, now_laid, frame_fits}
use Rattle.sd_extract.proofs.FormedLocals.{holds_all, at_slot, body_slots, loop_ins, loop_outs, loop_slots, sorts_join, hidden_fit, root_names, copied-sorts}
use Rattle.sd_extract.proofs.FormedStatements.{put_formed, checks_formed, assumes_formed, if_formed, Fits, LoopHas, LoopsAt, AllLoopsAt, EachLoopsAt, left_sort_if, arg_sorts, each_arg_sorts, each_left_sorts, HiddenAt, loop_formed, with_left, args_counted, each_formed}
use Rattle.sd_extract.proofs.CodeNames.{by_index}
use Rattle.sd_extract.proofs.CodeCounts.{returns_row}

truths_all : (C : Context) (invs : List Invariant) → AllTruths C invs → AllByRecursion (λ c. HasType C c.holds.kind BoolSort) (clauses_of invs)
truths_all C [] h = tt
truths_all C (i ∷ invs) h = (h.0, truths_all C invs h.1)

globals_typed : (F : List Function) (T : Store Sort) (ms : List ℕ) (ts : List Sort) → Matches T.globals ms ts → AllHaveTypes F T (map (λ i. At (Global i)) ms) ts
globals_typed F T [] [] h = refl
globals_typed F T [] (t ∷ ts) h = absurd h
globals_typed F T (m ∷ ms) [] h = h
globals_typed F T (m ∷ ms) (t ∷ ts) h = (h.0, globals_typed F T ms ts h.1)

-- the types of the copied globals
copied_fit : (vs : List Var) (names : List Text) → AllByRecursion IsSort (sorts_of vs) → AllByRecursion IsSort (sorts_of (filter_map (var_in vs) names))
copied_fit vs [] h = tt
copied_fit vs (x ∷ names) h =
    by_index vs x (λ i v. AllByRecursion IsSort (sorts_of (cons_option v (filter_map (var_in vs) names)))) (copied_fit vs names h) (λ i v e. (at vs i v h e.0, copied_fit vs names h))
  where
    at : (ws : List Var) (i : ℕ) (v : Var) → AllByRecursion IsSort (sorts_of ws) → slice_get ws i ≡ Some v → IsSort v.sort
    at [] i v a e = absurd (none-some v e)
    at (w ∷ ws) zero v a e = subst (λ (u : Var). IsSort u.sort) (same_Some w v e) a.0
    at (w ∷ ws) (suc i) v a e = at ws i v a.1 e

module _ (P : Program) (G : Scope) (typed : IsTyped P G) (global_sorts : AllByRecursion IsSort (sorts_of (globals_in P.decls))) (f : Text) (r : SourceRoutine) (is : routine_named P f ≡ Some r) where
  abbrev number : Text → ℕ
  number = number_from P 0 P.decls

  abbrev K : CoreProgram
  K = core_program P

  abbrev S : Source
  S = source_at P f r

  abbrev fine : RoutineFine G f r
  fine = routine_fine P G typed f r is

  abbrev R : Routine
  R = routine G (body_variables r.head r.body) (modifies_of r.declared.specs)

  abbrev ins : List Sort
  ins = sorts_of r.head.ins

  abbrev state : List Sort
  state = sorts_of (state_of S)

  abbrev copied : List Sort
  copied = sorts_of S.copied

  abbrev n_ins : ℕ
  n_ins = length r.head.ins

  ins_long : length ins ≡ n_ins
  ins_long = sym (sorts_length r.head.ins)

  state_long : length state ≡ length (state_of S)
  state_long = sym (sorts_length (state_of S))

  copied_long : length copied ≡ length S.copied
  copied_long = sym (sorts_length S.copied)

  -- ---- loops

  abbrev Placed : ℕ → StmtKind → Type 0
  Placed = LoopIs P number S (core_procs P)

  abbrev Has : ℕ → StmtKind → Type 0
  Has = LoopHas K S.modifies ins state copied

  loop_has : (n : ℕ) (s : StmtKind) → Placed n s → Has n s
  loop_has n (While' e invs shape body) h = record {
    proc = loop_proc P number S n e (clauses_of invs) (has_returns body) (kinds_in body);
    found = h;
    proc_ins = loop_ins P number S n e (clauses_of invs) (has_returns body) (kinds_in body);
    proc_outs = loop_outs P number S n e (clauses_of invs) (has_returns body) (kinds_in body);
    modifies = refl;
  }
  loop_has n _ h = absurd h

  abbrev placed_loops : EachLoopsAt Placed (suc S.number) (kinds S)
  placed_loops = loops_stand P f r is

  -- ---- contracts

  requires_at : (p : CoreProc) (a c first : ℕ) (out : List CoreStmt) → Fits P number K p R (frame_at S a c out) first ins state copied → AllFormed K p (map (assume (on_args (frame_at S a c out).names r.declared (frame_at S a c out).ins)) (requires_of r.declared.specs))
  requires_at p a c first out fits =
      let F = frame_at S a c out in
      assumes_formed K p (context G (parameters r.declared.head) site.Requires) (on_args F.names r.declared F.ins) (fits.requires r.declared F.ins fine.declared.ins fine.declared.outs (subst (AreSpotsOf (state_sorts K p) F.ins) fine.ins_sorts fits.ins_at)) (requires_of r.declared.specs) fine.declared.requires

  -- the names of `ensures`, in a body
  contract_sees : (T : Store Sort) → T.globals ≡ sorts_of (globals_in P.decls) → Holds T.slots 0 ins → Holds T.slots n_ins state → Holds T.slots (body_copies S) copied → Sees (functions_in P.decls) T (context G (parameters r.declared.head) site.Ensures) (contract S)
  contract_sees T e h k c =
      let d = r.declared.head in
      let N = contract S in
      let outs = sorts_of r.head.outs in
      let ins_at = subst (AreSpotsOf T (slots_from 0 r.head.ins)) fine.ins_sorts (spots_hold T 0 r.head.ins ins (sorts_length r.head.ins) h) in
      let outs_held = holds_left T.slots n_ins outs (sorts_of r.body.locals) (subst (Holds T.slots n_ins) (map-append (λ v. v.sort) r.head.outs r.body.locals) k) in
      let outs_at = subst (AreSpotsOf T (slots_from n_ins r.head.outs)) fine.outs_sorts (spots_hold T n_ins r.head.outs outs (sorts_length r.head.outs) outs_held) in
      let laid = laid_append T (variables_as nature.Input d.ins) (variables_as nature.Output d.outs) (names_of d.ins) (names_of d.outs) (slots_from 0 r.head.ins) (slots_from n_ins r.head.outs) (laid_vars T nature.Input d.ins (slots_from 0 r.head.ins) ins_at) (laid_vars T nature.Output d.outs (slots_from n_ins r.head.outs) outs_at) in
      let at : LocalsAt T site.Ensures (parameters d) N = record {
        found = λ x v o m. laid_found T (parameters d) N.local_names N.locals x v laid o;
        absent = λ x o. laid_none T (parameters d) N.local_names N.locals x laid o;
        sorts = all-append (λ e. IsSort e.1.sort) (variables_as nature.Input d.ins) (variables_as nature.Output d.outs) (sorts_as nature.Input d.ins fine.declared.ins) (sorts_as nature.Output d.outs fine.declared.outs);
      } in
      sees P G (is_scope P G typed) T site.Ensures (parameters d) N at (now_laid P G typed f r is T e) (λ o. entry_laid P G typed f r is T (body_copies S) e c)

  -- ---- the body

  abbrev B : CoreProc
  B = body_proc P number S

  abbrev BT : Store Sort
  BT = state_sorts K B

  abbrev hide : List Sort
  hide = each_arg_sorts P (kinds S) ++ each_left_sorts (kinds S)

  record BodyHolds : Type 0 where
    ins_held : Holds BT.slots 0 ins
    state_held : Holds BT.slots n_ins state
    copies_held : Holds BT.slots (body_copies S) copied
    hide_held : Holds BT.slots (body_copies S + length S.copied) hide

  body_holds : BodyHolds
  body_holds =
      let h0 = holds_all BT.slots (ins ++ (state ++ (copied ++ hide))) (body_slots K P number S) in
      let h1 = holds_right BT.slots 0 ins (state ++ (copied ++ hide)) h0 in
      let h2 = holds_right BT.slots (0 + length ins) state (copied ++ hide) h1 in
      let h3 = holds_right BT.slots (0 + length ins + length state) copied hide h2 in
      let i = ins_long in let s = state_long in let c = copied_long in
      record {
        ins_held = holds_left BT.slots 0 ins (state ++ (copied ++ hide)) h0;
        state_held = at_slot BT.slots (0 + length ins) n_ins state (omega (arith, i)) (holds_left BT.slots (0 + length ins) state (copied ++ hide) h1);
        copies_held = at_slot BT.slots (0 + length ins + length state) (body_copies S) copied (omega (arith, i, s)) (holds_left BT.slots (0 + length ins + length state) copied hide h2);
        hide_held = at_slot BT.slots (0 + length ins + length state + length copied) (body_copies S + length S.copied) hide (omega (arith, i, s, c)) h3;
      }

  body_fits : Fits P number K B R (body_frame S) (body_copies S + length S.copied) ins state copied
  body_fits =
      let h = body_holds in
      frame_fits P G typed f r is B n_ins (body_copies S) (body_copies S + length S.copied) (leave S) refl h.ins_held h.state_held h.copies_held (omega arith) (omega arith)

  each_args_counted : (b : Bool) (ks : List StmtKind) → EachTyped R b ks → EachChecked R ks → length (each_arg_sorts P ks) ≡ (counts_each ks).args
  each_args_counted b [] h c = refl
  each_args_counted b (k ∷ ks) h c =
      let i = args_counted P number K B R (body_frame S) (body_copies S + length S.copied) ins state copied body_fits b k h.0 c.0 in
      let j = each_args_counted b ks h.1 c.1 in
      let l = length-append (arg_sorts P k) (each_arg_sorts P ks) in
      omega (arith, i, j, l)

  leave_formed : AllFormed K B (leave S)
  leave_formed =
      let h = body_holds in
      all-append (IsFormed K B) (map (check (contract S)) (ensures_of r.declared.specs)) (core.Return ∷ []) (checks_formed K B (context G (parameters r.declared.head) site.Ensures) (contract S) (contract_sees BT refl h.ins_held h.state_held h.copies_held) (ensures_of r.declared.specs) fine.declared.ensures) (tt, tt)

  body_hidden : HiddenAt BT.slots (body_copies S + length S.copied) (body_start S) (each_arg_sorts P (kinds S)) (each_left_sorts (kinds S))
  body_hidden =
      let h = body_holds in
      let first = body_copies S + length S.copied in
      let args = each_arg_sorts P (kinds S) in let lefts = each_left_sorts (kinds S) in
      let counted = each_args_counted false (kinds S) fine.typed fine.checked in
      record {
        args = holds_left BT.slots first args lefts h.hide_held;
        lefts = at_slot BT.slots (first + length args) (first + (counts_each (kinds S)).args) lefts (omega (arith, counted)) (holds_right BT.slots first args lefts h.hide_held);
        after = omega arith;
      }

  pub body_formed : AllFormed K B B.body
  body_formed =
      let h = body_holds in
      let F = body_frame S in
      let first = body_copies S + length S.copied in
      let copying = put F.copies (map (λ i. At (Global i)) S.modifies) in
      let requires = map (assume (on_args F.names r.declared F.ins)) (requires_of r.declared.specs) in
      let stmts = each_extracted P number F (body_start S) (kinds S) in
      let copying_formed = put_formed K B F.copies (map (λ i. At (Global i)) S.modifies) copied (globals_typed K.functions BT S.modifies copied (numbers_match (globals_in P.decls) (modified_names r.declared.specs []))) (slots_targets BT B.modifies (body_copies S) S.copied copied (sorts_length S.copied) h.copies_held) in
      let stmts_formed = each_formed P number K B R F first ins state copied body_fits false (body_start S) (kinds S) fine.typed fine.checked (λ e. leave_formed) body_hidden (each_loops_give Placed Has loop_has (suc S.number) (kinds S) placed_loops) in
      all-append (IsFormed K B) copying (requires ++ (stmts ++ leave S)) copying_formed (all-append (IsFormed K B) requires (stmts ++ leave S) (requires_at B n_ins (body_copies S) first (leave S) body_fits) (all-append (IsFormed K B) stmts (leave S) stmts_formed leave_formed))

  known_ins : (g : Text) → AllByRecursion IsSort (sorts_of (ins_of (procedure_in P.decls g)))
  known_ins g = elim (procedure_in P.decls g) as (λ o. procedure_in P.decls g ≡ o → AllByRecursion IsSort (sorts_of (ins_of o))) [
    | None ↦ λ e. tt
    | Some d ↦ λ e. (proc_is_fine P G typed g d e).ins
  ] refl

  copies_fit : AllByRecursion IsSort (sorts_of (copies_of S))
  copies_fit =
      subst (AllByRecursion IsSort) (sym (copied-sorts S)) (copied_fit (globals_in P.decls) (modified_names r.declared.specs []) global_sorts)

  state_fit : AllByRecursion IsSort state
  state_fit = sorts_join r.head.outs r.body.locals fine.outs fine.locals

  pub body_is_proc : IsProc K S.number B
  body_is_proc =
      let hide_vars = hidden P none (kinds S) in
      record {
        sorts = sorts_join r.head.ins (r.head.outs ++ B.locals) fine.ins (sorts_join r.head.outs B.locals fine.outs (sorts_join r.body.locals (copies_of S ++ hide_vars) fine.locals (sorts_join (copies_of S) hide_vars copies_fit (hidden_fit P known_ins none (kinds S)))));
        modifies = numbers_below (globals_in P.decls) (modified_names r.declared.specs []);
        modifies_once = numbers_once (globals_in P.decls) (modified_names r.declared.specs []) (modified_once r.declared.specs);
        place = root_names P S fine.own;
        body = body_formed;
      }

  -- ---- a loop

  module _ (k : ℕ) (guard : Expr) (invs : List Invariant) (shape : _) (body : Row_of-Stmt _) (b : Bool) (stmt_typed : IsTypedStmt R b (While' guard invs shape body)) (stmt_checked : AreChecked R body) (placed : Placed k (While' guard invs shape body)) (inner : AllLoopsAt Placed (suc k) body) (past : suc S.number ≤ k) where
    abbrev returns : Bool
    returns = has_returns body

    abbrev turn : List StmtKind
    turn = kinds_in body

    abbrev L : CoreProc
    L = loop_proc P number S k guard (clauses_of invs) returns turn

    abbrev LT : Store Sort
    LT = state_sorts K L

    abbrev left : List Sort
    left = left_sort_if returns

    abbrev turn_hide : List Sort
    turn_hide = each_arg_sorts P turn ++ each_left_sorts turn

    -- the slot of `left`
    abbrev at_left : ℕ
    at_left = loop_state S + length (state_of S)

    left_long : (b : Bool) → length (left_sort_if b) ≡ (if b then 1 else 0)
    left_long true = refl
    left_long false = refl

    record LoopHolds : Type 0 where
      ins_held : Holds LT.slots 0 ins
      given_held : Holds LT.slots n_ins state
      copies_held : Holds LT.slots (body_copies S) copied
      state_held : Holds LT.slots (loop_state S) state
      left_held : Holds LT.slots at_left left
      hide_held : Holds LT.slots (loop_hidden S returns) turn_hide

    loop_holds : LoopHolds
    loop_holds =
        let t4 = left ++ turn_hide in let t3 = state ++ t4 in let t2 = copied ++ t3 in let t1 = state ++ t2 in
        let k1 = 0 + length ins in let k2 = k1 + length state in let k3 = k2 + length copied in
        let k4 = k3 + length state in let k5 = k4 + length left in
        let h0 = holds_all LT.slots (ins ++ t1) (loop_slots K P number S k guard (clauses_of invs) returns turn) in
        let h1 = holds_right LT.slots 0 ins t1 h0 in
        let h2 = holds_right LT.slots k1 state t2 h1 in
        let h3 = holds_right LT.slots k2 copied t3 h2 in
        let h4 = holds_right LT.slots k3 state t4 h3 in
        let h5 = holds_right LT.slots k4 left turn_hide h4 in
        let i = ins_long in let s = state_long in let c = copied_long in let l = left_long returns in
        record {
          ins_held = holds_left LT.slots 0 ins t1 h0;
          given_held = at_slot LT.slots k1 n_ins state (omega (arith, i)) (holds_left LT.slots k1 state t2 h1);
          copies_held = at_slot LT.slots k2 (body_copies S) copied (omega (arith, i, s)) (holds_left LT.slots k2 copied t3 h2);
          state_held = at_slot LT.slots k3 (loop_state S) state (omega (arith, i, s, c)) (holds_left LT.slots k3 state t4 h3);
          left_held = at_slot LT.slots k4 at_left left (omega (arith, i, s, c)) (holds_left LT.slots k4 left turn_hide h4);
          hide_held = at_slot LT.slots k5 (loop_hidden S returns) turn_hide (omega (arith, i, s, c, l)) h5;
        }

    loop_fits : Fits P number K L R (loop_frame S) at_left ins state copied
    loop_fits =
        let h = loop_holds in
        frame_fits P G typed f r is L (loop_state S) (body_copies S) at_left (loop_frame S).leave refl h.ins_held h.state_held h.copies_held (omega arith) (omega arith)

    -- one value for `left`
    put_left : (b c : Bool) → Holds LT.slots at_left (left_sort_if b) → AllFormed K L (put (left_of S b) (map (λ p. Literal c) (left_of S b)))
    put_left true c h = ((BoolSort ∷ [], (refl, refl), record { sorts = (h.0, refl); apart = (tt, tt); within = tt }), tt)
    put_left false c h = tt

    leave_loop : (b : Bool) → Holds LT.slots at_left (left_sort_if b) → b ≡ true → AllFormed K L (loop_frame S).leave
    leave_loop true h e = ((BoolSort ∷ [], (refl, refl), record { sorts = (h.0, refl); apart = (tt, tt); within = tt }), (tt, tt))
    leave_loop false h e = absurd (cc)

    loop_hides : HiddenAt LT.slots at_left (loop_start S k returns turn) (each_arg_sorts P turn) (each_left_sorts turn)
    loop_hides =
        let h = loop_holds in
        let first = loop_hidden S returns in
        let args = each_arg_sorts P turn in let lefts = each_left_sorts turn in
        let counted = each_args_counted true turn (row_each_typed R true body stmt_typed.2) (row_each_checked R body stmt_checked) in
        record {
          args = holds_left LT.slots first args lefts h.hide_held;
          lefts = at_slot LT.slots (first + length args) (first + (counts_each turn).args) lefts (omega (arith, counted)) (holds_right LT.slots first args lefts h.hide_held);
          after = omega arith;
        }

    turn_formed : AllFormed K L (turn_of P number S k returns turn)
    turn_formed =
        let h = loop_holds in
        let F = loop_frame S in
        let stmts = each_extracted P number F (loop_start S k returns turn) turn in
        let stmts_formed = each_formed P number K L R F at_left ins state copied loop_fits true (loop_start S k returns turn) turn (row_each_typed R true body stmt_typed.2) (row_each_checked R body stmt_checked) (λ e. leave_loop returns h.left_held (returns_row body ∙ e)) loop_hides (each_loops_give Placed Has loop_has (suc k) turn (row_loops Placed (suc k) body inner)) in
        let again = loop_formed P number K L R F at_left ins state copied loop_fits k returns (left_of S returns) (loop_has k (While' guard invs shape body) placed) (with_left P number K L R F at_left ins state copied loop_fits returns at_left (omega arith) h.left_held) in
        all-append (IsFormed K L) stmts (loop_call F k (left_of S returns) ∷ []) stmts_formed (again, tt)

    loop_body_formed : AllFormed K L L.body
    loop_body_formed =
        let h = loop_holds in
        let F = loop_frame S in
        let moving = put F.state (map At (slots_from n_ins (state_of S))) in
        let lowering = put (left_of S returns) (map (λ p. Literal false) (left_of S returns)) in
        let checks = map (check F.names) (clauses_of invs) in
        let given = spots_hold LT n_ins (state_of S) state (sorts_length (state_of S)) h.given_held in
        let moving_formed = put_formed K L F.state (map At (slots_from n_ins (state_of S))) state (spots_typed K.functions LT (slots_from n_ins (state_of S)) state given) loop_fits.state_at in
        let checks_are = checks_formed K L R.context F.names loop_fits.sees (clauses_of invs) (truths_all R.context invs stmt_typed.1) in
        let guarded = if_formed K L (core_of F.names guard.kind) (turn_of P number S k returns turn) [] (core_typed K.functions LT R.context F.names loop_fits.sees guard.kind BoolSort stmt_typed.0) turn_formed tt in
        let step = core.If (core_of F.names guard.kind) (turn_of P number S k returns turn) [] ∷ [] in
        all-append (IsFormed K L) moving (lowering ++ (checks ++ step)) moving_formed (all-append (IsFormed K L) lowering (checks ++ step) (put_left returns false h.left_held) (all-append (IsFormed K L) checks step checks_are (guarded, tt)))

    left_vars : (b : Bool) → AllByRecursion IsSort (sorts_of (if b then record { name = codes "left"; sort = BoolSort } ∷ [] else []))
    left_vars true = (tt, tt)
    left_vars false = tt

    outs_are : (b : Bool) → (state_of S ++ (if b then record { name = codes "left"; sort = BoolSort } ∷ [] else []) ≡ state_of S) ⊎ (state_of S ++ (if b then record { name = codes "left"; sort = BoolSort } ∷ [] else []) ≡ state_of S ++ (record { name = codes "left"; sort = BoolSort } ∷ []))
    outs_are true = inr refl
    outs_are false = inl (append-nil (state_of S))

    loop_is_loop : IsLoop K k S.number (k - S.number) L
    loop_is_loop =
        let copies : copies_of S ≡ copies_in (globals_in P.decls) S.modifies = sym (copied_numbers (globals_in P.decls) (modified_names r.declared.specs [])) in
        record {
          root = B;
          found = body_stands P f r is;
          is_root = refl;
          place = omega (arith, past);
          counted = omega (arith, past);
          name = refl;
          declared = r.body.locals;
          hidden = hidden P none (kinds S);
          locals = ap (λ (vs : List Var). r.body.locals ++ (vs ++ hidden P none (kinds S))) copies;
          ins = ap (λ (vs : List Var). r.head.ins ++ (state_of S ++ vs)) copies;
          outs = outs_are returns;
          modifies = refl;
        }

    pub loop_is_proc : IsProc K k L
    loop_is_proc =
        let left_var : List Var = if returns then record { name = codes "left"; sort = BoolSort } ∷ [] else [] in
        record {
          sorts = sorts_join L.ins (L.outs ++ L.locals) (sorts_join r.head.ins (state_of S ++ copies_of S) fine.ins (sorts_join (state_of S) (copies_of S) state_fit copies_fit)) (sorts_join L.outs L.locals (sorts_join (state_of S) left_var state_fit (left_vars returns)) (hidden_fit P known_ins (record none { loops = k - S.number }) turn));
          modifies = numbers_below (globals_in P.decls) (modified_names r.declared.specs []);
          modifies_once = numbers_once (globals_in P.decls) (modified_names r.declared.specs []) (modified_once r.declared.specs);
          place = loop_is_loop;
          body = loop_body_formed;
        }

  -- ---- all of them

  mutual
    loops_are_procs : (b : Bool) (n : ℕ) (s : StmtKind) → IsTypedStmt R b s → IsChecked R s → LoopsAt Placed n s → suc S.number ≤ n → EachFrom (IsProc K) n (loops_in P number S n s)
    loops_are_procs b n (While' e invs shape body) h c at past =
        (loop_is_proc n e invs shape body b h c at.0 at.1 past, all_loops_are_procs true (suc n) body h.2 c at.1 (omega (arith, past)))
    loops_are_procs b n (If' e shape x shape' y) h c at past =
        let xs = all_loops_in P number S n x in let ys = all_loops_in P number S (n + (counts_all x).loops) y in
        let long = all_loops_length P number S n x in
        each_append (IsProc K) n xs ys (all_loops_are_procs b n x h.1 c.0 at.0 past) (subst (λ (m : ℕ). EachFrom (IsProc K) (n + m) ys) (sym long) (all_loops_are_procs b (n + (counts_all x).loops) y h.2 c.1 at.1 (omega (arith, past))))
    loops_are_procs b n _ h c at past = tt

    all_loops_are_procs : (b : Bool) (n : ℕ) {m : _} (ss : Row_of-Stmt m) → AreTypedStmts R b ss → AreChecked R ss → AllLoopsAt Placed n ss → suc S.number ≤ n → EachFrom (IsProc K) n (all_loops_in P number S n ss)
    all_loops_are_procs b n end_of-Stmt h c at past = tt
    all_loops_are_procs b n (more_of-Stmt p s ss) h c at past =
        let xs = loops_in P number S n s in let ys = all_loops_in P number S (n + (counts s).loops) ss in
        let long = loops_length P number S n s in
        each_append (IsProc K) n xs ys (loops_are_procs b n s h.0 c.0 at.0 past) (subst (λ (m : ℕ). EachFrom (IsProc K) (n + m) ys) (sym long) (all_loops_are_procs b (n + (counts s).loops) ss h.1 c.1 at.1 (omega (arith, past))))

  each_loop_is_proc : (b : Bool) (n : ℕ) (ss : List StmtKind) → EachTyped R b ss → EachChecked R ss → EachLoopsAt Placed n ss → suc S.number ≤ n → EachFrom (IsProc K) n (each_loop_in P number S n ss)
  each_loop_is_proc b n [] h c at past = tt
  each_loop_is_proc b n (s ∷ ss) h c at past =
      let xs = loops_in P number S n s in let ys = each_loop_in P number S (n + (counts s).loops) ss in
      let long = loops_length P number S n s in
      each_append (IsProc K) n xs ys (loops_are_procs b n s h.0 c.0 at.0 past) (subst (λ (m : ℕ). EachFrom (IsProc K) (n + m) ys) (sym long) (each_loop_is_proc b (n + (counts s).loops) ss h.1 c.1 at.1 (omega (arith, past))))

  -- the procedures of a routine
  pub routine_procs_formed : EachFrom (IsProc K) S.number (procs_of P number S)
  routine_procs_formed =
      (body_is_proc, each_loop_is_proc false (suc S.number) (kinds S) fine.typed fine.checked placed_loops (omega arith))
