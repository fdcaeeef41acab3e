use Rattle.std.proofs.Common.{◌≡◌, ◌++◌, drop}
use Rattle.sd_rows.specs.RowOps.{times}
use Rattle.sd_rows.proofs.row.push_multiples.Given as goal

abbrev pub invariant-loop-q : goal.invariant-loop-q
invariant-loop-q l = l.parts ++ times l.n (drop l.q-index l.more) ≡ l.fn.parts ++ times l.n l.more
