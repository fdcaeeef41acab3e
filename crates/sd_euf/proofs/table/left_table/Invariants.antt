use Rattle.sd_euf.specs.Table.{IsLeftTable}
use Rattle.sd_euf.proofs.table.left_table.Given as goal

abbrev pub invariant-loop-i : goal.invariant-loop-i
invariant-loop-i l = IsLeftTable l.terms l.table l.i
