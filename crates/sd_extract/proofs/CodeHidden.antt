-- Hidden locals as code sees them.
use Rattle.std.proofs.Common.{◌≡◌, ◌∙◌, sym, ap, refl, List, ◌++◌, append_assoc}
use Rattle.sd_extract.proofs.SourceWords.{Var, Expr, Invariant, Stmt, Program, StmtKind, If, While, Row_of-Stmt, end_of-Stmt, more_of-Stmt, hidden-the_row-Stmt-0, kinds_of, kinds_in}
use Rattle.sd_extract.proofs.CoreWords.{Counts, plus, counts, counts_all, counts_each, args_in, all_args_in, each_args_in, lefts_in, all_lefts_in, each_left_in, has_return_among}
use Rattle.sd_extract.specs.Scopes.{left_var}
use Rattle.sd_extract.proofs.CodeCounts.{hidden_kinds, counts_hidden, returns_hidden}

module _ (P : Program) where
  row_args : (at : Counts) {m : _} (ks : Row_of-Stmt m) → all_args_in P at ks ≡ each_args_in P at (kinds_in ks)
  row_args at end_of-Stmt = refl
  row_args at (more_of-Stmt p k ks) = ap (λ (vs : List Var). args_in P at k ++ vs) (row_args (plus at (counts k)) ks)

  hidden_args : (at : Counts) (ss : List Stmt) → all_args_in P at (hidden-the_row-Stmt-0 ss) ≡ each_args_in P at (kinds_of ss)
  hidden_args at ss = row_args at (hidden-the_row-Stmt-0 ss) ∙ ap (each_args_in P at) (hidden_kinds ss)

  pub args-If : (at next : Counts) (k : StmtKind) (e : Expr) (a b a' b' : List Stmt) (o o' o'' : List Var) → k ≡ If e a b → a' ≡ a → b' ≡ b → next ≡ plus at (counts_each (kinds_of a')) → o' ≡ o ++ each_args_in P at (kinds_of a')
      → o'' ≡ o' ++ each_args_in P next (kinds_of b') → o'' ≡ o ++ args_in P at k
  args-If at next k e a b a' b' o o' o'' is got got' sum first second =
      let sum' : next ≡ plus at (counts_all (hidden-the_row-Stmt-0 a)) = sum ∙ (ap (λ (l : List Stmt). plus at (counts_each (kinds_of l))) got ∙ ap (plus at) (sym (counts_hidden a))) in
      let first' : o' ≡ o ++ all_args_in P at (hidden-the_row-Stmt-0 a) = first ∙ ap (λ (vs : List Var). o ++ vs) (ap (λ (l : List Stmt). each_args_in P at (kinds_of l)) got ∙ sym (hidden_args at a)) in
      let second' : each_args_in P next (kinds_of b') ≡ all_args_in P (plus at (counts_all (hidden-the_row-Stmt-0 a))) (hidden-the_row-Stmt-0 b) =
      (λ i. each_args_in P (sum' i) (kinds_of (got' i))) ∙ sym (hidden_args (plus at (counts_all (hidden-the_row-Stmt-0 a))) b) in
      second ∙ ((λ i. first' i ++ second' i) ∙ (append_assoc o _ _ ∙ ap (λ (s : StmtKind). o ++ args_in P at s) (sym is)))

row_lefts : (at : Counts) {m : _} (ks : Row_of-Stmt m) → all_lefts_in at ks ≡ each_left_in at (kinds_in ks)
row_lefts at end_of-Stmt = refl
row_lefts at (more_of-Stmt p k ks) = ap (λ (vs : List Var). lefts_in at k ++ vs) (row_lefts (plus at (counts k)) ks)

hidden_lefts : (at : Counts) (ss : List Stmt) → all_lefts_in at (hidden-the_row-Stmt-0 ss) ≡ each_left_in at (kinds_of ss)
hidden_lefts at ss = row_lefts at (hidden-the_row-Stmt-0 ss) ∙ ap (each_left_in at) (hidden_kinds ss)

pub lefts-If : (at next : Counts) (k : StmtKind) (e : Expr) (a b a' b' : List Stmt) (o o' o'' : List Var) → k ≡ If e a b → a' ≡ a → b' ≡ b → next ≡ plus at (counts_each (kinds_of a')) → o' ≡ o ++ each_left_in at (kinds_of a')
    → o'' ≡ o' ++ each_left_in next (kinds_of b') → o'' ≡ o ++ lefts_in at k
lefts-If at next k e a b a' b' o o' o'' is got got' sum first second =
    let sum' : next ≡ plus at (counts_all (hidden-the_row-Stmt-0 a)) = sum ∙ (ap (λ (l : List Stmt). plus at (counts_each (kinds_of l))) got ∙ ap (plus at) (sym (counts_hidden a))) in
    let first' : o' ≡ o ++ all_lefts_in at (hidden-the_row-Stmt-0 a) = first ∙ ap (λ (vs : List Var). o ++ vs) (ap (λ (l : List Stmt). each_left_in at (kinds_of l)) got ∙ sym (hidden_lefts at a)) in
    let second' : each_left_in next (kinds_of b') ≡ all_lefts_in (plus at (counts_all (hidden-the_row-Stmt-0 a))) (hidden-the_row-Stmt-0 b) =
    (λ i. each_left_in (sum' i) (kinds_of (got' i))) ∙ sym (hidden_lefts (plus at (counts_all (hidden-the_row-Stmt-0 a))) b) in
    second ∙ ((λ i. first' i ++ second' i) ∙ (append_assoc o _ _ ∙ ap (λ (s : StmtKind). o ++ lefts_in at s) (sym is)))

pub lefts-While : (at : Counts) (k : StmtKind) (e : Expr) (invs : List Invariant) (b b' : List Stmt) → k ≡ While e invs b → b' ≡ b → left_var at (has_return_among (kinds_of b')) ≡ lefts_in at k
lefts-While at k e invs b b' is got =
    ap (λ (l : List Stmt). left_var at (has_return_among (kinds_of l))) got ∙ (ap (left_var at) (sym (returns_hidden b)) ∙ ap (lefts_in at) (sym is))
