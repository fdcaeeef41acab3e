use Rattle.std.proofs.Common.{arith}
use Rattle.sd_product.proofs.WorkLemmas.{claim_count}
use Rattle.sd_product.proofs.work.Work.count.Goals as goal

pub returns : goal.returns
returns c = omega (arith, c.len.ensures, claim_count c.self.inside c.self.invariant c.args.self.now c.self.view_is)
