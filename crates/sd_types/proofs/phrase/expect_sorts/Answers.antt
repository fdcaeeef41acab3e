use Rattle.sd_types.proofs.GivenLemmas.{agree-end}
use Rattle.sd_types.proofs.phrase.expect_sorts.Goals as goal

pub returns : goal.returns
returns c = agree-end _ _ _ c.loop-i.invariant c.loop-i-test.false
