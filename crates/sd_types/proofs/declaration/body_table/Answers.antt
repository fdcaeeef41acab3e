use Rattle.sd_types.proofs.ScopeLemmas.{body_variables-found}
use Rattle.sd_types.proofs.declaration.body_table.Goals as goal

pub returns : goal.returns
returns c = body_variables-found c.args.head.now c.args.body.now _ _ c.in_ok-table.ensures c.in_ok-put_variables.ensures
