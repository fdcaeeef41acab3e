use Rattle.sd_types.proofs.ScopeLemmas.{parameters-found}
use Rattle.sd_types.proofs.declaration.parameter_table.Goals as goal

pub returns : goal.returns
returns c = parameters-found c.args.head.now _ _ _ c.new-table.ensures c.in_ok-put_variables.ensures c.in_ok-put_variables-2.ensures
