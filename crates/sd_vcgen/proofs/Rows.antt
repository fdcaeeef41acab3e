-- Rows of expressions and of statements as code sees them.
use Rattle.std.proofs.Common.{◌≡◌, ℕ, ◌+◌, List, ◌∷◌, refl, ap, ◌∙◌}
use Rattle.std.specs.Prelude.{false, map}
use Rattle.sd_base.specs.Value.{Text}
use Rattle.sd_core.specs.declared.CoreOp.{CoreOp}
use Rattle.sd_core.specs.declared.CoreExpr.{CoreExpr, Apply, Op, Row_of-CoreExpr, end_of-CoreExpr, more_of-CoreExpr, items-the_row-CoreExpr, items_hidden-the_row-CoreExpr-0}
use Rattle.sd_core.specs.declared.CoreExpr.TheBlock.{hidden-the_row-CoreExpr-0}
use Rattle.sd_core.specs.declared.CoreStmt.{CoreStmt, If, Row_of-CoreStmt, end_of-CoreStmt, more_of-CoreStmt, items-the_row-CoreStmt, items_hidden-the_row-CoreStmt-0}
use Rattle.sd_core.specs.declared.CoreStmt.TheBlock.{hidden-the_row-CoreStmt-0}
use Rattle.sd_core.specs.declared.Function.{Function}
use Rattle.sd_core.specs.Formed.{declared_as}
use Rattle.sd_core.specs.Store.{Store}
use Rattle.sd_term.specs.declared.node.Head.TheVariants as head
use Rattle.sd_term.specs.Tree.{Tree, tree}
use Rattle.sd_term.specs.Build.{and_of, not_of}
use Rattle.sd_vcgen.specs.Body.{State, Context, result_of, op_term, term_in, terms_in, count, row_count, count_all, step, steps, all_steps}

terms_row : (F : List Function) (st : Store Tree) {n : _} (es : Row_of-CoreExpr n) → terms_in F st es ≡ map (term_in F st) (items-the_row-CoreExpr n es)
terms_row F st end_of-CoreExpr = refl
terms_row F st (more_of-CoreExpr e es) = ap (λ ts. term_in F st e ∷ ts) (terms_row F st es)

terms_hidden : (F : List Function) (st : Store Tree) (es : List CoreExpr) → terms_in F st (hidden-the_row-CoreExpr-0 es) ≡ map (term_in F st) es
terms_hidden F st es = terms_row F st (hidden-the_row-CoreExpr-0 es) ∙ ap (map (term_in F st)) (items_hidden-the_row-CoreExpr-0 es)

pub apply_term : (F : List Function) (st : Store Tree) (f : Text) (es : List CoreExpr) → term_in F st (Apply f es) ≡ tree (head.App f (result_of (declared_as false F f))) (map (term_in F st) es)
apply_term F st f es = ap (tree (head.App f (result_of (declared_as false F f)))) (terms_hidden F st es)

pub operator_term : (F : List Function) (st : Store Tree) (o : CoreOp) (es : List CoreExpr) → term_in F st (Op o es) ≡ op_term o (map (term_in F st) es)
operator_term F st o es = ap (op_term o) (terms_hidden F st es)

row_is_list : (C : Context) {n : _} (ks : Row_of-CoreStmt n) (k : ℕ) (path : Tree) (s : State) → steps C ks k path s ≡ all_steps C (items-the_row-CoreStmt n ks) k path s
row_is_list C end_of-CoreStmt k path s = refl
row_is_list C (more_of-CoreStmt t ts) k path s = row_is_list C ts (k + count C t) path (step C t k path s)

hidden_is_list : (C : Context) (ks : List CoreStmt) (k : ℕ) (path : Tree) (s : State) → steps C (hidden-the_row-CoreStmt-0 ks) k path s ≡ all_steps C ks k path s
hidden_is_list C ks k path s = row_is_list C (hidden-the_row-CoreStmt-0 ks) k path s ∙ ap (λ l. all_steps C l k path s) (items_hidden-the_row-CoreStmt-0 ks)

row_counts : (C : Context) {n : _} (ks : Row_of-CoreStmt n) → row_count C ks ≡ count_all C (items-the_row-CoreStmt n ks)
row_counts C end_of-CoreStmt = refl
row_counts C (more_of-CoreStmt t ts) = ap (λ (m : ℕ). count C t + m) (row_counts C ts)

hidden_counts : (C : Context) (ks : List CoreStmt) → row_count C (hidden-the_row-CoreStmt-0 ks) ≡ count_all C ks
hidden_counts C ks = row_counts C (hidden-the_row-CoreStmt-0 ks) ∙ ap (count_all C) (items_hidden-the_row-CoreStmt-0 ks)

-- a choice between two lists
pub if_count : (C : Context) (e : CoreExpr) (x y : List CoreStmt) → count C (If e x y) ≡ count_all C x + count_all C y
if_count C e x y = λ i. hidden_counts C x i + hidden_counts C y i

pub if_step : (C : Context) (e : CoreExpr) (x y : List CoreStmt) (k : ℕ) (path : Tree) (s : State)
    → step C (If e x y) k path s ≡ all_steps C y (k + count_all C x) (and_of path (not_of (term_in C.program.functions s.store e))) (all_steps C x k (and_of path (term_in C.program.functions s.store e)) s)
if_step C e x y k path s =
    let F = C.program.functions in
    hidden_is_list C y (k + row_count C (hidden-the_row-CoreStmt-0 x)) (and_of path (not_of (term_in F s.store e))) (steps C (hidden-the_row-CoreStmt-0 x) k (and_of path (term_in F s.store e)) s)
    ∙ (λ i. all_steps C y (k + hidden_counts C x i) (and_of path (not_of (term_in F s.store e))) (hidden_is_list C x k (and_of path (term_in F s.store e)) s i))
