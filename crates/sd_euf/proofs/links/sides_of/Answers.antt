use Rattle.sd_term.specs.Bank.{tree_at}
use Rattle.sd_euf.proofs.LinkLemmas.{no-eq}
use Rattle.sd_kernel.proofs.Lookups.{sorted-at}
use Rattle.sd_euf.proofs.links.sides_of.Goals as goal

pub returns-in_default-pair_of-clause-none : goal.returns-in_default-pair_of-clause-none
returns-in_default-pair_of-clause-none c = λ e.
    no-eq (tree_at c.args.terms.now c.args.id) (sorted-at c.args.terms.now c.args.id c.requires.sorted c.requires.id) c.in_default-pair_of.ensures.none e.equality
