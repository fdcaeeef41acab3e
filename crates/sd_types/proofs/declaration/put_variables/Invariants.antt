use Rattle.std.proofs.Common.{◌++◌, take}
use Rattle.sd_types.specs.Tables.{FindSame}
use Rattle.sd_types.specs.Declarations.{variables_as}
use Rattle.sd_types.proofs.declaration.put_variables.Given as goal

abbrev pub invariant-loop-var : goal.invariant-loop-var
invariant-loop-var l = FindSame l.table (l.initial.table ++ variables_as l.nature (take l.var-index l.var-items))
