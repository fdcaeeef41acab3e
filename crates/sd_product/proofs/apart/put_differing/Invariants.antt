use Rattle.std.proofs.Common.{drop}
use Rattle.std.specs.Prelude.{map}
use Rattle.sd_term.specs.Bank.{tree_at}
use Rattle.sd_product.specs.Unique.{differ_from}
use Rattle.sd_product.proofs.Numbers.{Adding}
use Rattle.sd_product.proofs.apart.put_differing.Given as goal

abbrev pub invariant-loop-i : goal.invariant-loop-i
invariant-loop-i l = Adding l.initial.bank l.initial.facts l.bank l.facts (differ_from (tree_at l.initial.bank l.first) (map (tree_at l.initial.bank) (drop l.i l.others))) (differ_from (tree_at l.initial.bank l.first) (map (tree_at l.initial.bank) (drop l.start l.others)))
