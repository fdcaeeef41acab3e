use Rattle.std.proofs.Common.{◌≡◌, drop}
use Rattle.sd_ast.specs.Tree.{names_of}
use Rattle.sd_types.specs.Tables.{with_names}
use Rattle.sd_types.proofs.table.NameList.add_variables.Given as goal

abbrev pub invariant-loop-var : goal.invariant-loop-var
invariant-loop-var l = with_names l.initial.self (names_of l.var-items) ≡ with_names l.self (names_of (drop l.var-index l.var-items))
