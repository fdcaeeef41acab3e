use Rattle.std.proofs.Common.{take}
use Rattle.sd_types.specs.Names.{HaveSame}
use Rattle.sd_types.proofs.table.name_set.Given as goal

abbrev pub invariant-loop-name : goal.invariant-loop-name
invariant-loop-name l = HaveSame l.set (take l.name-index l.name-items)
