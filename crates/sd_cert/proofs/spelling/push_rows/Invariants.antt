use Rattle.std.proofs.Common.{map, take}
use Rattle.sd_cert.specs.declared.line.Line.TheVariants.{Row}
use Rattle.sd_cert.specs.Added.{IsAdded}
use Rattle.sd_cert.proofs.spelling.push_rows.Given as goal

abbrev pub invariant-loop-row : goal.invariant-loop-row
invariant-loop-row l = IsAdded (map Row (take l.row-index l.rows)) l.initial.text.items l.text.items
