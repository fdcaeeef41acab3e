use Rattle.std.proofs.Common.{◌≡◌, take, false}
use Rattle.sd_cert.specs.Fields.{has_byte}
use Rattle.sd_cert.proofs.field.place_of.Given as goal

abbrev pub invariant-loop-i : goal.invariant-loop-i
invariant-loop-i l = has_byte l.byte (take l.i l.text) ≡ false
