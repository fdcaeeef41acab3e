-- What holds of each hidden local of statements, and of the procedure of each loop.
use Rattle.std.proofs.Common.{ℕ, suc, ◌+◌, List, [], ◌∷◌, ◌++◌}
use Rattle.std.specs.Prelude.{Bool, true, false, codes, if◌then◌else◌}
use Rattle.std.specs.Fmt.{decimal}
use Rattle.std.specs.List.{AllByRecursion}
use Rattle.sd_base.proofs.Lists.{all-append}
use Rattle.sd_extract.proofs.SourceWords.{BoolSort, Var, Text, Program, Expr, Clause, clauses_of, kinds_in, StmtKind, Call, If', While', Row_of-Stmt, end_of-Stmt, more_of-Stmt, procedure_in}
use Rattle.sd_extract.proofs.CoreWords.{Counts, plus, counts, counts_all, has_returns, ins_of, arg_vars, args_in, all_args_in, each_args_in, lefts_in, all_lefts_in, each_left_in, hidden, CoreProc, Source, loop_proc, loops_in, all_loops_in, each_loop_in}

module _ (P : Program) (Q : Var → Type 0) (arg : (call : ℕ) (f : Text) → AllByRecursion Q (arg_vars call 1 (ins_of (procedure_in P.decls f)))) (left : (n : ℕ) → Q (record { name = decimal n ++ codes "@left"; sort = BoolSort })) where
  mutual
    args_have : (at : Counts) (k : StmtKind) → AllByRecursion Q (args_in P at k)
    args_have at (Call xs f es) = arg (suc at.calls) f
    args_have at (If' e shape a shape' b) = all-append Q (all_args_in P at a) (all_args_in P (plus at (counts_all a)) b) (all_args_have at a) (all_args_have (plus at (counts_all a)) b)
    args_have at _ = tt

    all_args_have : (at : Counts) {m : _} (ks : Row_of-Stmt m) → AllByRecursion Q (all_args_in P at ks)
    all_args_have at end_of-Stmt = tt
    all_args_have at (more_of-Stmt p k ks) = all-append Q (args_in P at k) (all_args_in P (plus at (counts k)) ks) (args_have at k) (all_args_have (plus at (counts k)) ks)

  each_args_have : (at : Counts) (ks : List StmtKind) → AllByRecursion Q (each_args_in P at ks)
  each_args_have at [] = tt
  each_args_have at (k ∷ ks) = all-append Q (args_in P at k) (each_args_in P (plus at (counts k)) ks) (args_have at k) (each_args_have (plus at (counts k)) ks)

  left_has : (returns : Bool) (n : ℕ) → AllByRecursion Q (if returns then record { name = decimal n ++ codes "@left"; sort = BoolSort } ∷ [] else [])
  left_has true n = (left n, tt)
  left_has false n = tt

  mutual
    lefts_have : (at : Counts) (k : StmtKind) → AllByRecursion Q (lefts_in at k)
    lefts_have at (While' e invs shape body) = left_has (has_returns body) (suc at.loops)
    lefts_have at (If' e shape a shape' b) = all-append Q (all_lefts_in at a) (all_lefts_in (plus at (counts_all a)) b) (all_lefts_have at a) (all_lefts_have (plus at (counts_all a)) b)
    lefts_have at _ = tt

    all_lefts_have : (at : Counts) {m : _} (ks : Row_of-Stmt m) → AllByRecursion Q (all_lefts_in at ks)
    all_lefts_have at end_of-Stmt = tt
    all_lefts_have at (more_of-Stmt p k ks) = all-append Q (lefts_in at k) (all_lefts_in (plus at (counts k)) ks) (lefts_have at k) (all_lefts_have (plus at (counts k)) ks)

  each_lefts_have : (at : Counts) (ks : List StmtKind) → AllByRecursion Q (each_left_in at ks)
  each_lefts_have at [] = tt
  each_lefts_have at (k ∷ ks) = all-append Q (lefts_in at k) (each_left_in (plus at (counts k)) ks) (lefts_have at k) (each_lefts_have (plus at (counts k)) ks)

  pub hidden_have : (at : Counts) (ks : List StmtKind) → AllByRecursion Q (hidden P at ks)
  hidden_have at ks = all-append Q (each_args_in P at ks) (each_left_in at ks) (each_args_have at ks) (each_lefts_have at ks)

module _ (P : Program) (number : Text → ℕ) (S : Source) (Q : CoreProc → Type 0) (loop : (k : ℕ) (guard : Expr) (invs : List Clause) (returns : Bool) (turn : List StmtKind) → Q (loop_proc P number S k guard invs returns turn)) where
  mutual
    loops_have : (n : ℕ) (s : StmtKind) → AllByRecursion Q (loops_in P number S n s)
    loops_have n (While' e invs shape body) = (loop n e (clauses_of invs) (has_returns body) (kinds_in body), all_loops_have (suc n) body)
    loops_have n (If' e shape a shape' b) = all-append Q (all_loops_in P number S n a) (all_loops_in P number S (n + (counts_all a).loops) b) (all_loops_have n a) (all_loops_have (n + (counts_all a).loops) b)
    loops_have n _ = tt

    all_loops_have : (n : ℕ) {m : _} (ss : Row_of-Stmt m) → AllByRecursion Q (all_loops_in P number S n ss)
    all_loops_have n end_of-Stmt = tt
    all_loops_have n (more_of-Stmt p s ss) = all-append Q (loops_in P number S n s) (all_loops_in P number S (n + (counts s).loops) ss) (loops_have n s) (all_loops_have (n + (counts s).loops) ss)

  pub each_loop_has : (n : ℕ) (ss : List StmtKind) → AllByRecursion Q (each_loop_in P number S n ss)
  each_loop_has n [] = tt
  each_loop_has n (s ∷ ss) = all-append Q (loops_in P number S n s) (each_loop_in P number S (n + (counts s).loops) ss) (loops_have n s) (each_loop_has (n + (counts s).loops) ss)
