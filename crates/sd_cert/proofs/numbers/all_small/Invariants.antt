use Rattle.std.proofs.Common.{◌≡◌, take}
use Rattle.sd_cert.specs.Fields.{AreSmall}
use Rattle.sd_cert.proofs.numbers.all_small.Given as goal

abbrev pub invariant-loop-number : goal.invariant-loop-number
invariant-loop-number l = (l.all ≡ take l.number-index l.numbers) × AreSmall (take l.number-index l.numbers)
