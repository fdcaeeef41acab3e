use Rattle.std.proofs.Common.{◌≡◌, ◌++◌, take}
use Rattle.sd_ast.specs.Tree.{names_of}
use Rattle.sd_extract.proofs.table.push_names.Given as goal

abbrev pub invariant-loop-var : goal.invariant-loop-var
invariant-loop-var l = l.names ≡ l.initial.names ++ names_of (take l.var-index l.vars)
