use Rattle.std.proofs.Common.{◌≡◌, drop}
use Rattle.sd_types.specs.Phrases.{agree}
use Rattle.sd_types.proofs.phrase.expect_sorts.Given as goal

abbrev pub invariant-loop-i : goal.invariant-loop-i
invariant-loop-i l = agree l.sorts l.phrases ≡ agree (drop l.i l.sorts) (drop l.i l.phrases)
