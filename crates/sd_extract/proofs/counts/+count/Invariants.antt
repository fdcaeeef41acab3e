use Rattle.std.proofs.Common.{◌≡◌, drop}
use Rattle.std.specs.Prelude.{◌||◌}
use Rattle.sd_meaning.specs.Run.{kinds_of}
use Rattle.sd_extract.specs.Extract.{plus, counts_each}
use Rattle.sd_extract.specs.Counted.{counts_in, has_return_among}
use Rattle.sd_extract.proofs.counts.+count.Given as goal

abbrev pub invariant-count_stmts-loop-stmt : goal.invariant-count_stmts-loop-stmt
invariant-count_stmts-loop-stmt l = record {
  counts : plus (counts_in l.total.counts) (counts_each (kinds_of (drop l.stmt-index l.stmts))) ≡ counts_each (kinds_of l.stmts);
  returns : (l.total.returns || has_return_among (kinds_of (drop l.stmt-index l.stmts))) ≡ has_return_among (kinds_of l.stmts);
}
