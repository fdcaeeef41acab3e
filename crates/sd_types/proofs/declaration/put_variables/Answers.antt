use Rattle.sd_types.proofs.ScopeLemmas.{variables-step}
use Rattle.sd_types.proofs.declaration.put_variables.Goals as goal

pub loop-var-preserved : goal.loop-var-preserved
loop-var-preserved c =
    variables-step c.args.nature _ _ _ _ _ c.var-item.result _ c.loop-var-test.true c.var-item.is c.in_ok-sort.ensures c.loop-var.invariant c.in_ok-put.ensures
