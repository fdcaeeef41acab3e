use Rattle.std.proofs.Common.{◌≡◌, ◌+◌, ◌++◌, length, drop}
use Rattle.sd_product.specs.Work.{claims_of, pairs_in}
use Rattle.sd_run.specs.Verdicts.{verdicts_of}
use Rattle.sd_run.proofs.judge.verdicts_of.Given as goal

abbrev pub invariant-pairs : goal.invariant-pairs
invariant-pairs l = record {
  left : l.first + length (claims_of l.work (drop l.place (pairs_in l.work))) ≡ length l.table;
  done : verdicts_of l.otherwise l.work (pairs_in l.work) l.table ≡ l.verdicts.items ++ verdicts_of l.otherwise l.work (drop l.place (pairs_in l.work)) (drop l.first l.table);
}
