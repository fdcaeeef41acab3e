use Rattle.sd_term.specs.Bank.{tree_at}
use Rattle.sd_euf.specs.Judged.{pair_tree}
use Rattle.sd_euf.proofs.TableLemmas.{AreUpTo, room}
use Rattle.sd_euf.proofs.find.find.Given as goal

abbrev pub invariant-places : goal.invariant-places
invariant-places l = AreUpTo l.terms (tree_at l.terms l.left) (pair_tree l.op (tree_at l.terms l.left) (tree_at l.terms l.right)) l.place

abbrev pub decreases-places : goal.decreases-places
decreases-places l = room l.place
