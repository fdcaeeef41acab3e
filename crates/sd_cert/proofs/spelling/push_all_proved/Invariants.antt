use Rattle.std.proofs.Common.{take}
use Rattle.std.specs.List.{flat_map}
use Rattle.sd_cert.specs.Added.{IsAdded}
use Rattle.sd_cert.specs.Certificates.{proved_lines}
use Rattle.sd_cert.proofs.spelling.push_all_proved.Given as goal

abbrev pub invariant-loop-proved : goal.invariant-loop-proved
invariant-loop-proved l = IsAdded (flat_map proved_lines (take l.proved-index l.all)) l.initial.text.items l.text.items
