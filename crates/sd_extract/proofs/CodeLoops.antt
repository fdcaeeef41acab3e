-- Procedures and those of loops as code sees them.
use Rattle.std.proofs.Common.{◌≡◌, ◌∙◌, sym, ap, refl, ℕ, suc, ◌+◌, ◌-◌, ◌<◌, Bool, List, [], ◌∷◌, ◌++◌, append_assoc, length, drop, get_or, Some, arith}
use Rattle.std.specs.Prelude.{codes, if◌then◌else◌}
use Rattle.std.specs.Fmt.{decimal}
use Rattle.sd_extract.proofs.SourceWords.{Var, Text, Expr, Invariant, Stmt, Program, StmtKind, If, While, Row_of-Stmt, end_of-Stmt, more_of-Stmt, hidden-the_row-Stmt-0, kinds_of, kinds_in, Clause, clauses_of}
use Rattle.sd_extract.proofs.CoreWords.{Spot, Slot, CoreStmt, CoreProc, slots_from, Counts, plus, of_loop, counts, counts_all, counts_each, Frame, Source, state_of, copies_of, hidden, loop_state, loop_frame, left_of, loop_start, loop_proc, loops_in, all_loops_in, each_loop_in, has_return_among, body_proc, procs_of}
use Rattle.sd_extract.specs.Sources.{start_at, loop_with, left_out}
use Rattle.sd_extract.proofs.CodeLists.{kinds_next}
use Rattle.sd_extract.proofs.CodeCounts.{hidden_kinds, counts_hidden, returns_hidden}

module _ (P : Program) (number : Text → ℕ) (S : Source) where
  row_loops : (k : ℕ) {m : _} (ss : Row_of-Stmt m) → all_loops_in P number S k ss ≡ each_loop_in P number S k (kinds_in ss)
  row_loops k end_of-Stmt = refl
  row_loops k (more_of-Stmt p s ss) = ap (λ (ps : List CoreProc). loops_in P number S k s ++ ps) (row_loops (k + (counts s).loops) ss)

  hidden_loops : (k : ℕ) (ss : List Stmt) → all_loops_in P number S k (hidden-the_row-Stmt-0 ss) ≡ each_loop_in P number S k (kinds_of ss)
  hidden_loops k ss = row_loops k (hidden-the_row-Stmt-0 ss) ∙ ap (each_loop_in P number S k) (hidden_kinds ss)

  pub loops-If : (k next : ℕ) (s : StmtKind) (e : Expr) (a b a' b' : List Stmt) (o o' o'' : List CoreProc) → s ≡ If e a b → a' ≡ a → b' ≡ b → next ≡ k + (counts_each (kinds_of a')).loops → o' ≡ o ++ each_loop_in P number S k (kinds_of a')
      → o'' ≡ o' ++ each_loop_in P number S next (kinds_of b') → o'' ≡ o ++ loops_in P number S k s
  loops-If k next s e a b a' b' o o' o'' is got got' sum first second =
      let sum' : next ≡ k + (counts_all (hidden-the_row-Stmt-0 a)).loops = sum ∙ (ap (λ (l : List Stmt). k + (counts_each (kinds_of l)).loops) got ∙ ap (λ (c : Counts). k + c.loops) (sym (counts_hidden a))) in
      let first' : o' ≡ o ++ all_loops_in P number S k (hidden-the_row-Stmt-0 a) =
      first ∙ ap (λ (ps : List CoreProc). o ++ ps) (ap (λ (l : List Stmt). each_loop_in P number S k (kinds_of l)) got ∙ sym (hidden_loops k a)) in
      let second' : each_loop_in P number S next (kinds_of b') ≡ all_loops_in P number S (k + (counts_all (hidden-the_row-Stmt-0 a)).loops) (hidden-the_row-Stmt-0 b) =
      (λ i. each_loop_in P number S (sum' i) (kinds_of (got' i))) ∙ sym (hidden_loops (k + (counts_all (hidden-the_row-Stmt-0 a)).loops) b) in
      second ∙ ((λ i. first' i ++ second' i) ∙ (append_assoc o _ _ ∙ ap (λ (t : StmtKind). o ++ loops_in P number S k t) (sym is)))

  pub loops-While : (k next : ℕ) (s : StmtKind) (e : Expr) (invs invs' : List Invariant) (b b' b'' : List Stmt) (p : CoreProc) (o o' o'' : List CoreProc) → s ≡ While e invs b → invs' ≡ invs → b' ≡ b → b'' ≡ b
      → p ≡ loop_proc P number S k e (clauses_of invs') (has_return_among (kinds_of b')) (kinds_of b') → o' ≡ o ++ p ∷ [] → next ≡ 1 + k → o'' ≡ o' ++ each_loop_in P number S next (kinds_of b'')
      → o'' ≡ o ++ loops_in P number S k s
  loops-While k next s e invs invs' b b' b'' p o o' o'' is clauses got got' made first sum second =
      let one : next ≡ suc k = omega (arith, sum) in
      let loop' : p ≡ loop_proc P number S k e (clauses_of invs) _ (kinds_in (hidden-the_row-Stmt-0 b)) =
      made ∙ ((λ i. loop_proc P number S k e (clauses_of (clauses i)) (has_return_among (kinds_of (got i))) (kinds_of (got i)))
      ∙ (λ i. loop_proc P number S k e (clauses_of invs) (sym (returns_hidden b) i) (sym (hidden_kinds b) i))) in
      let inner : each_loop_in P number S next (kinds_of b'') ≡ all_loops_in P number S (suc k) (hidden-the_row-Stmt-0 b) =
      (λ i. each_loop_in P number S (one i) (kinds_of (got' i))) ∙ sym (hidden_loops (suc k) b) in
      second ∙ ((λ i. first i ++ inner i) ∙ (append_assoc o _ _ ∙ ((λ i. o ++ loop' i ∷ all_loops_in P number S (suc k) (hidden-the_row-Stmt-0 b)) ∙ ap (λ (t : StmtKind). o ++ loops_in P number S k t) (sym is))))

  -- one statement more
  pub loops_next : (ss : List Stmt) (i : ℕ) (s : Stmt) (k next : ℕ) (out out' whole : List CoreProc) → i < length ss → s ≡ get_or ss i s → out' ≡ out ++ loops_in P number S k s.kind → next ≡ k + (counts s.kind).loops
      → out ++ each_loop_in P number S k (kinds_of (drop i ss)) ≡ whole → out' ++ each_loop_in P number S next (kinds_of (drop (i + 1) ss)) ≡ whole
  loops_next ss i s k next out out' whole lt here made sum so =
      (λ j. made j ++ each_loop_in P number S (sum j) (kinds_of (drop (i + 1) ss)))
      ∙ (append_assoc out (loops_in P number S k s.kind) (each_loop_in P number S (k + (counts s.kind).loops) (kinds_of (drop (i + 1) ss)))
      ∙ (sym (ap (λ (ks : List StmtKind). out ++ each_loop_in P number S k ks) (kinds_next ss i s lt here)) ∙ so))

  -- the procedure of a loop
  pub loop_made : (k place : ℕ) (guard : Expr) (invs : List Clause) (turn : List StmtKind) (returns : Bool) (m at c : Counts) (F : Frame) (received left : List Spot) (end first next : ℕ) (name : Text) (ins outs locals : List Var) (modifies : List ℕ) (body : List CoreStmt)
      → returns ≡ has_return_among turn → m ≡ counts_each turn → F ≡ loop_frame S → end ≡ loop_state S + length (state_of S) → first ≡ end + (if returns then 1 else 0) → next ≡ 1 + k → at ≡ start_at first m.args next
      → received ≡ slots_from (length S.routine.head.ins) (state_of S) → left ≡ (if returns then Slot end ∷ [] else []) → body ≡ loop_with P number F received at k guard invs left turn → place ≡ k - S.number
      → c ≡ record { calls = 0; args = 0; lefts = 0; loops = place } → locals ≡ hidden P c turn → name ≡ S.routine.head.name ++ (codes "@loop@" ++ decimal place) → ins ≡ S.routine.head.ins ++ (state_of S ++ copies_of S)
      → outs ≡ state_of S ++ left_out returns → modifies ≡ S.modifies
      → ◌≡◌ {A = CoreProc} (record { name = name; parent = Some (S.number, place); ins = ins; outs = outs; locals = locals; modifies = modifies; body = body }) (loop_proc P number S k guard invs (has_return_among turn) turn)
  loop_made k place guard invs turn returns m at c F received left end first next name ins outs locals modifies body r counted framed ended begun numbered started got lefts made placed none hid named takes gives mods =
      let first' : first ≡ loop_state S + (length (state_of S) + (if returns then 1 else 0)) = begun ∙ (ap (λ n. n + (if returns then 1 else 0)) ended ∙ assoc (loop_state S) (length (state_of S)) (if returns then 1 else 0)) in
      let next' : next ≡ suc k = omega (arith, numbered) in
      let at' : at ≡ loop_start S k returns turn = started ∙ (λ i. start_at (first' i) (counted i).args (next' i)) in
      let left' : left ≡ left_of S returns = lefts ∙ ap (λ n. if returns then Slot n ∷ [] else []) ended in
      let body' : body ≡ loop_with P number (loop_frame S) (slots_from (length S.routine.head.ins) (state_of S)) (loop_start S k returns turn) k guard invs (left_of S returns) turn =
      made ∙ (λ i. loop_with P number (framed i) (got i) (at' i) k guard invs (left' i) turn) in
      let locals' : locals ≡ hidden P (record { calls = 0; args = 0; lefts = 0; loops = k - S.number }) turn =
      hid ∙ (ap (λ (d : Counts). hidden P d turn) none ∙ ap (λ n. hidden P (record { calls = 0; args = 0; lefts = 0; loops = n }) turn) placed) in
      (λ i. record {
        name = (named ∙ ap (λ n. S.routine.head.name ++ (codes "@loop@" ++ decimal n)) placed) i;
        parent = Some (S.number, placed i);
        ins = takes i;
        outs = gives i;
        locals = locals' i;
        modifies = mods i;
        body = body' i;
      })
      ∙ ap (λ b. loop_proc P number S k guard invs b turn) r
    where
      assoc : (a b c : ℕ) → (a + b) + c ≡ a + (b + c)
      assoc a b c = omega arith

-- ---- numbers of loops

pub number-If : (k next last : ℕ) (s : StmtKind) (m n : Counts) → next ≡ k + m.loops → last ≡ next + n.loops → plus m n ≡ counts s → last ≡ k + (counts s).loops
number-If k next last s m n first second sum =
    let whole : m.loops + n.loops ≡ (counts s).loops = ap (λ (c : Counts). c.loops) sum in
    omega (arith, first, second, whole)

pub number-While : (k next last : ℕ) (s : StmtKind) (r : Bool) (m : Counts) → next ≡ 1 + k → last ≡ next + m.loops → of_loop r m ≡ counts s → last ≡ k + (counts s).loops
number-While k next last s r m first second sum =
    let whole : suc m.loops ≡ (counts s).loops = ap (λ (c : Counts). c.loops) sum in
    omega (arith, first, second, whole)

pub number_next : (ss : List Stmt) (i : ℕ) (s : Stmt) (k next whole : ℕ) → i < length ss → s ≡ get_or ss i s → next ≡ k + (counts s.kind).loops → k + (counts_each (kinds_of (drop i ss))).loops ≡ whole
    → next + (counts_each (kinds_of (drop (i + 1) ss))).loops ≡ whole
number_next ss i s k next whole lt here sum so =
    let more : (counts_each (kinds_of (drop i ss))).loops ≡ (counts s.kind).loops + (counts_each (kinds_of (drop (i + 1) ss))).loops = ap (λ (ks : List StmtKind). (counts_each ks).loops) (kinds_next ss i s lt here) in
    omega (arith, sum, so, more)

-- ---- a procedure and its loops

pub procs_made : (P : Program) (number : Text → ℕ) (S : Source) (p : CoreProc) (first : ℕ) (stmts : List Stmt) (o o' o'' : List CoreProc) → p ≡ body_proc P number S → o' ≡ o ++ p ∷ [] → first ≡ 1 + S.number → stmts ≡ S.routine.body.stmts
    → o'' ≡ o' ++ each_loop_in P number S first (kinds_of stmts) → o'' ≡ o ++ procs_of P number S
procs_made P number S p first stmts o o' o'' made pushed is same loops =
    let one : first ≡ suc S.number = omega (arith, is) in
    loops ∙ ((λ i. pushed i ++ each_loop_in P number S (one i) (kinds_of (same i))) ∙ (append_assoc o (p ∷ []) _ ∙ ap (λ q. o ++ q ∷ each_loop_in P number S (suc S.number) (kinds_of S.routine.body.stmts)) made))
