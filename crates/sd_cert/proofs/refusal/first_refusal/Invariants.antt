-- What is refused first among the lines from here on is refused first among all.
use Rattle.std.proofs.Common.{◌≡◌, drop}
use Rattle.sd_cert.specs.Refusals.{first_position, first_refusal}
use Rattle.sd_cert.proofs.refusal.first_refusal.Given as goal

abbrev pub invariant-loop-line : goal.invariant-loop-line
invariant-loop-line l = first_refusal l.headers l.digests first_position l.lines ≡ first_refusal l.headers l.digests l.position (drop l.line-index l.lines)
