use Rattle.std.proofs.Common.{◌≡◌, length}
use Rattle.sd_product.proofs.AscendingLemmas.{FindsFirst}
use Rattle.sd_product.proofs.tables.pairs_by_old.Given as goal

abbrev pub invariant-pairs : goal.invariant-pairs
invariant-pairs l = record {
  long : length l.entries.items ≡ l.fn.procs;
  found : FindsFirst l.pair l.entries.items l.pairs;
}
