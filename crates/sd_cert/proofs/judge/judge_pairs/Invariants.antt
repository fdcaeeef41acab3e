-- The first bad step of the pairs from here on is that of all.
use Rattle.std.proofs.Common.{◌≡◌, drop}
use Rattle.sd_product.specs.Bodies.{count_before}
use Rattle.sd_product.specs.Work.{queries_of}
use Rattle.sd_cert.specs.BadSteps.{pairs_fault}
use Rattle.sd_cert.specs.Headers.{headers_of}
use Rattle.sd_cert.proofs.judge.judge_pairs.Given as goal

abbrev pub invariant-pairs : goal.invariant-pairs
invariant-pairs l =
    pairs_fault (queries_of l.work l.table) 0 l.line (headers_of l.work) l.claims ≡ pairs_fault (queries_of l.work l.table) (count_before l.work l.pair) l.at (drop l.pair (headers_of l.work)) (drop l.pair l.claims)
