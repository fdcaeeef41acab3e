-- Statements as code sees them.
use Rattle.std.proofs.Common.{◌≡◌, ◌∙◌, sym, ap, refl, ℕ, suc, ◌+◌, ◌<◌, List, [], ◌∷◌, ◌++◌, append_assoc, length, drop, get_or, map, false}
use Rattle.sd_extract.proofs.SourceWords.{Text, Expr, Invariant, Stmt, Proc, Program, StmtKind, If, While, Row_of-Stmt, end_of-Stmt, more_of-Stmt, hidden-the_row-Stmt-0, requires_of, kinds_of, kinds_in}
use Rattle.sd_extract.proofs.CoreWords.{Spot, Slot, CoreExpr, At, CoreStmt, slots_from, Names, core_of, Counts, plus, counts, counts_all, counts_each, put, cores, spot_of, on_args, Frame, extracted, all_extracted, each_extracted, has_return_among}
use Rattle.sd_core.specs.declared.CoreStmt.{Call}
use Rattle.sd_core.specs.declared.CoreStmt as core
use Rattle.sd_extract.specs.Scopes.{slots_upto, clause_stmt, call_with, reached}
use Rattle.sd_extract.proofs.CodeLists.{kinds_next}
use Rattle.sd_extract.proofs.CodeCounts.{hidden_kinds, counts_hidden, returns_hidden}

pub upto_from : {A : Type 0} (k : ℕ) (xs : List A) → slots_upto k (length xs) ≡ slots_from k xs
upto_from k [] = refl
upto_from k (x ∷ xs) = ap (λ (ps : List Spot). Slot k ∷ ps) (upto_from (suc k) xs)

pub call_made : (N : Names) (p : Proc) (number first : ℕ) (names : List Text) (args : List Expr) (o o' o'' whole : List CoreStmt) (spots copied s s' s'' outs : List Spot) (es ins : List CoreExpr)
    → spots ≡ slots_upto first (length args) → copied ≡ s → s ≡ spots → es ≡ cores N args → o' ≡ o ++ put copied es → s' ≡ spots → o'' ≡ o' ++ map (clause_stmt (on_args N p s') false) (requires_of p.specs)
    → outs ≡ map (spot_of N) names → s'' ≡ spots → ins ≡ map At s'' → whole ≡ o'' ++ Call outs number ins ∷ []
    → whole ≡ o ++ call_with N number (slots_from first args) names args p
call_made N p number first names args o o' o'' whole spots copied s s' s'' outs es ins made copy same with putted same' checked received same'' read called =
    let is = made ∙ upto_from first args in
    let ps = slots_from first args in
    let checks : List CoreStmt = map (clause_stmt (on_args N p ps) false) (requires_of p.specs) in
    let first' : o' ≡ o ++ put ps (cores N args) = putted ∙ (λ i. o ++ put ((copy ∙ (same ∙ is)) i) (with i)) in
    let second : o'' ≡ (o ++ put ps (cores N args)) ++ checks = checked ∙ (λ i. first' i ++ map (clause_stmt (on_args N p ((same' ∙ is) i)) false) (requires_of p.specs)) in
    let third : whole ≡ ((o ++ put ps (cores N args)) ++ checks) ++ Call (map (spot_of N) names) number (map At ps) ∷ [] =
    called ∙ (λ i. second i ++ Call (received i) number ((read ∙ ap (map At) (same'' ∙ is)) i) ∷ []) in
    third ∙ (append_assoc (o ++ put ps (cores N args)) checks _ ∙ append_assoc o (put ps (cores N args)) _)

-- ---- statements in statements

module _ (P : Program) (number : Text → ℕ) (F : Frame) where
  row_extracted : (at : Counts) {m : _} (ks : Row_of-Stmt m) → all_extracted P number F at ks ≡ each_extracted P number F at (kinds_in ks)
  row_extracted at end_of-Stmt = refl
  row_extracted at (more_of-Stmt p k ks) = ap (λ (ss : List CoreStmt). extracted P number F at k ++ ss) (row_extracted (plus at (counts k)) ks)

  hidden_extracted : (at : Counts) (ss : List Stmt) → all_extracted P number F at (hidden-the_row-Stmt-0 ss) ≡ each_extracted P number F at (kinds_of ss)
  hidden_extracted at ss = row_extracted at (hidden-the_row-Stmt-0 ss) ∙ ap (each_extracted P number F at) (hidden_kinds ss)

  pub extracted-If : (at next : Counts) (k : StmtKind) (e : Expr) (a b a' b' : List Stmt) (holds : CoreExpr) (then' other : List CoreStmt) → k ≡ If e a b → a' ≡ a → b' ≡ b → holds ≡ core_of F.names e.kind → next ≡ plus at (counts_each (kinds_of a'))
      → then' ≡ each_extracted P number F at (kinds_of a') → other ≡ each_extracted P number F next (kinds_of b') → core.If holds then' other ∷ [] ≡ extracted P number F at k
  extracted-If at next k e a b a' b' holds then' other is got got' condition sum first second =
      let sum' : next ≡ plus at (counts_all (hidden-the_row-Stmt-0 a)) = sum ∙ (ap (λ (l : List Stmt). plus at (counts_each (kinds_of l))) got ∙ ap (plus at) (sym (counts_hidden a))) in
      let first' : then' ≡ all_extracted P number F at (hidden-the_row-Stmt-0 a) = first ∙ (ap (λ (l : List Stmt). each_extracted P number F at (kinds_of l)) got ∙ sym (hidden_extracted at a)) in
      let second' : other ≡ all_extracted P number F (plus at (counts_all (hidden-the_row-Stmt-0 a))) (hidden-the_row-Stmt-0 b) =
      second ∙ ((λ i. each_extracted P number F (sum' i) (kinds_of (got' i))) ∙ sym (hidden_extracted (plus at (counts_all (hidden-the_row-Stmt-0 a))) b)) in
      (λ i. core.If (condition i) (first' i) (second' i) ∷ []) ∙ ap (extracted P number F at) (sym is)

  pub extracted-While : (at : Counts) (k : StmtKind) (e : Expr) (invs : List Invariant) (b b' : List Stmt) → k ≡ While e invs b → b' ≡ b → reached F at (has_return_among (kinds_of b')) ≡ extracted P number F at k
  extracted-While at k e invs b b' is got =
      ap (λ (l : List Stmt). reached F at (has_return_among (kinds_of l))) got ∙ (ap (reached F at) (sym (returns_hidden b)) ∙ ap (extracted P number F at) (sym is))

  -- one statement more
  pub extracted_next : (ss : List Stmt) (i : ℕ) (s : Stmt) (at now : Counts) (out out' whole : List CoreStmt) → i < length ss → s ≡ get_or ss i s → out' ≡ out ++ extracted P number F at s.kind → now ≡ plus at (counts s.kind)
      → out ++ each_extracted P number F at (kinds_of (drop i ss)) ≡ whole → out' ++ each_extracted P number F now (kinds_of (drop (i + 1) ss)) ≡ whole
  extracted_next ss i s at now out out' whole lt here made sum so =
      (λ j. made j ++ each_extracted P number F (sum j) (kinds_of (drop (i + 1) ss)))
      ∙ (append_assoc out (extracted P number F at s.kind) (each_extracted P number F (plus at (counts s.kind)) (kinds_of (drop (i + 1) ss)))
      ∙ (sym (ap (λ (ks : List StmtKind). out ++ each_extracted P number F at ks) (kinds_next ss i s lt here)) ∙ so))
