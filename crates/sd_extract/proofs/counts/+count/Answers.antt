use Rattle.std.proofs.Common.{◌≡◌, ◌∙◌, subst, Bool, IfOk}
use Rattle.sd_extract.specs.Extract.{Counts}
use Rattle.sd_extract.specs.Counted.{counts_in}
use Rattle.sd_extract.proofs.CodeCounts.{counts-If, returns-If, counts-While, returns-While}
use Rattle.sd_extract.proofs.counts.+count.Goals as goal

pub count_stmt-returns-in_ok-no-in-If-clause-counts :
    goal.count_stmt-returns-in_ok-no-in-If-clause-counts
count_stmt-returns-in_ok-no-in-If-clause-counts t c =
    subst (λ (n : Counts). IfOk c.join.result (λ r. counts_in r.counts ≡ n))
    (counts-If c.args.kind.now c.in-If.field-0 c.in-If.yes c.in-If.no _ _ _ _ c.in-If.is c.as_slice-in-If.ensures c.as_slice-in-If-2.ensures c.in_ok-yes-in-If.ensures.counts c.in_ok-no-in-If.ensures.counts)
    c.join.ensures.counts

pub count_stmt-returns-in_ok-no-in-If-clause-returns :
    goal.count_stmt-returns-in_ok-no-in-If-clause-returns
count_stmt-returns-in_ok-no-in-If-clause-returns t c =
    subst (λ (n : Bool). IfOk c.join.result (λ r. r.returns ≡ n))
    (returns-If c.args.kind.now c.in-If.field-0 c.in-If.yes c.in-If.no _ _ _ _ c.in-If.is c.as_slice-in-If.ensures c.as_slice-in-If-2.ensures c.in_ok-yes-in-If.ensures.returns c.in_ok-no-in-If.ensures.returns)
    c.join.ensures.returns

pub count_stmt-returns-in_ok-count_loop-in-While-clause-counts :
    goal.count_stmt-returns-in_ok-count_loop-in-While-clause-counts
count_stmt-returns-in_ok-count_loop-in-While-clause-counts t c =
    c.in_ok-count_loop-in-While.ensures ∙ counts-While c.args.kind.now c.in-While.field-0 c.in-While.field-1 c.in-While.body _ _ _ c.in-While.is c.as_slice-in-While.ensures c.in_ok-inside-in-While.ensures.returns c.in_ok-inside-in-While.ensures.counts

pub count_stmt-returns-in_ok-count_loop-in-While-clause-returns :
    goal.count_stmt-returns-in_ok-count_loop-in-While-clause-returns
count_stmt-returns-in_ok-count_loop-in-While-clause-returns t c =
    returns-While c.args.kind.now c.in-While.field-0 c.in-While.field-1 c.in-While.body _ _ c.in-While.is c.as_slice-in-While.ensures c.in_ok-inside-in-While.ensures.returns
