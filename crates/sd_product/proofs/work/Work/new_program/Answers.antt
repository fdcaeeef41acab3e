use Rattle.std.proofs.Common.{ap}
use Rattle.sd_product.specs.Work.{PairedPrograms}
use Rattle.sd_product.proofs.work.Work.new_program.Goals as goal

pub returns-clause-program : goal.returns-clause-program
returns-clause-program c = ap (λ (h : PairedPrograms). h.new) c.self.view_is

pub returns-clause-formed : goal.returns-clause-formed
returns-clause-formed c = c.self.invariant.formed.new_formed
