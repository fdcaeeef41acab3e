use Rattle.sd_cert.proofs.ByteLemmas.{at_byte}
use Rattle.sd_cert.proofs.field.place_of.Goals as goal

pub returns-then-other-byte : goal.returns-then-other-byte
returns-then-other-byte c =
    (c.loop-i-test.true, at_byte c.args.byte c.args.text.now c.loop-i.i c.loop-i-test.true c.if-other-byte.true, c.loop-i.invariant)
