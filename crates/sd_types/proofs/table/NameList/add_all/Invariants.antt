use Rattle.std.proofs.Common.{◌≡◌, drop}
use Rattle.sd_types.specs.Tables.{with_names}
use Rattle.sd_types.proofs.table.NameList.add_all.Given as goal

abbrev pub invariant-loop-name : goal.invariant-loop-name
invariant-loop-name l = with_names l.initial.self l.name-items ≡ with_names l.self (drop l.name-index l.name-items)
