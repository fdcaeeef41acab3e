use Rattle.sd_runs.proofs.Rows.{both_put}
use Rattle.sd_runs.proofs.calls.+put.Goals as goal

pub put_callees_in-returns-in_ok-put_callees-in-If-2 :
    goal.put_callees_in-returns-in_ok-put_callees-in-If-2
put_callees_in-returns-in_ok-put_callees-in-If-2 t c =
    both_put c.args.statement.now c.in-If.field-0 c.in-If.yes c.in-If.no c.in-If.is c.as_slice.result.now c.as_slice-in-If.result.now c.as_slice.ensures c.as_slice-in-If.ensures c.args.found.now.items c.put_callees.new.found.items c.put_callees-in-If.new.found.items c.in_ok-put_callees-in-If.ensures c.in_ok-put_callees-in-If-2.ensures
