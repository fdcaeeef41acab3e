use Rattle.sd_runs.proofs.Rows.{then_fails, else_fails}
use Rattle.sd_runs.proofs.calls.+fail.Goals as goal

pub has_fail-returns-then-any_fail : goal.has_fail-returns-then-any_fail
has_fail-returns-then-any_fail t c =
    then_fails c.args.statement.now c.in-If.field-0 c.in-If.yes c.in-If.no c.in-If.is c.as_slice.result.now c.as_slice.ensures c.any_fail.result c.any_fail.ensures c.if-any_fail.true

pub has_fail-returns-else-any_fail : goal.has_fail-returns-else-any_fail
has_fail-returns-else-any_fail t c =
    else_fails c.args.statement.now c.in-If.field-0 c.in-If.yes c.in-If.no c.in-If.is c.as_slice.result.now c.as_slice.ensures c.any_fail.result c.any_fail.ensures c.as_slice-else-any_fail.result.now c.as_slice-else-any_fail.ensures c.any_fail-else-any_fail.result c.any_fail-else-any_fail.ensures c.if-any_fail.false
