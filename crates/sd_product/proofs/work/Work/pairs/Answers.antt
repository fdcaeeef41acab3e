use Rattle.sd_product.proofs.WorkLemmas.{own_pairs}
use Rattle.sd_product.proofs.work.Work.pairs.Goals as goal

pub returns : goal.returns
returns c = own_pairs c.self.inside c.self.invariant c.args.self.now c.self.view_is
