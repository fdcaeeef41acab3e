use Rattle.sd_term.specs.Bank.{tree_at}
use Rattle.sd_euf.proofs.OrderLemmas.{no-int-eq}
use Rattle.sd_kernel.proofs.Lookups.{sorted-at}
use Rattle.sd_euf.proofs.orders.int_sides.Goals as goal

pub returns-in_default-clause-none : goal.returns-in_default-clause-none
returns-in_default-clause-none c =
    no-int-eq (tree_at c.args.terms.now c.args.id) (sorted-at c.args.terms.now c.args.id c.requires.sorted c.requires.id) c.in_default.ensures.none
