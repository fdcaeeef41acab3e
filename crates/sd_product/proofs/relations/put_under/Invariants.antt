use Rattle.std.proofs.Common.{drop, length, ◌≤◌}
use Rattle.std.specs.Prelude.{map}
use Rattle.sd_term.specs.Bank.{tree_at}
use Rattle.sd_term.specs.Build.{Extends}
use Rattle.sd_vcgen.specs.Numbers.{Denotes}
use Rattle.sd_product.specs.Relations.{term_of}
use Rattle.sd_product.specs.Query.{under}
use Rattle.sd_product.specs.Numbers.{store_at}
use Rattle.sd_product.proofs.relations.put_under.Given as goal

abbrev pub invariant-loop-left : goal.invariant-loop-left
invariant-loop-left l = record {
  left : l.left ≤ length l.when;
  term : Denotes l.bank l.term (under (map (term_of l.places (store_at l.initial.bank l.old) (store_at l.initial.bank l.new)) (drop l.left l.when)) (tree_at l.initial.bank l.fn.claim));
  kept : Extends l.initial.bank l.bank;
}

abbrev pub decreases-loop-left : goal.decreases-loop-left
decreases-loop-left l = l.left
