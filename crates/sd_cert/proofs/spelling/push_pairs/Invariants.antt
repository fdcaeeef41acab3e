use Rattle.std.proofs.Common.{take}
use Rattle.sd_cert.specs.Added.{IsAdded}
use Rattle.sd_cert.specs.Certificates.{pair_lines}
use Rattle.sd_cert.proofs.spelling.push_pairs.Given as goal

abbrev pub invariant-loop-i : goal.invariant-loop-i
invariant-loop-i l = IsAdded (pair_lines 0 (take l.i l.pairs)) l.initial.text.items l.text.items
