use Rattle.std.proofs.Common.{arith}
use Rattle.sd_euf.specs.Links.{NotJoined}
use Rattle.sd_euf.proofs.Loops.{all-hold}
use Rattle.sd_euf.proofs.chains.broken_chains.Goals as goal

pub returns-clause-holds : goal.returns-clause-holds
returns-clause-holds c = all-hold c.args.terms.now c.args.values.now (NotJoined c.args.terms.now) c.loop-i.i c.loop-i.invariant (omega arith)
