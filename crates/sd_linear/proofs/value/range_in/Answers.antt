use Rattle.sd_linear.proofs.Combining.{proper-at}
use Rattle.sd_linear.proofs.value.range_in.Goals as goal

pub narrowed-requires-clause-proper : goal.narrowed-requires-clause-proper
narrowed-requires-clause-proper c = (proper-at c.args.rows.now c.loop-r.r-index c.r-item.result c.loop-r-test.true c.r-item.is c.requires.rows).0

pub narrowed-requires-clause-within : goal.narrowed-requires-clause-within
narrowed-requires-clause-within c = (proper-at c.args.rows.now c.loop-r.r-index c.r-item.result c.loop-r-test.true c.r-item.is c.requires.rows).1
