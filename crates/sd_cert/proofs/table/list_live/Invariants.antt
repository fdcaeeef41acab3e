-- The entries of the pairs up to here are listed, and with those from here on they are all.
use Rattle.std.proofs.Common.{◌≡◌, ℕ, ◌≤◌, List, ◌++◌, drop, length}
use Rattle.sd_product.specs.Bodies.{count_before}
use Rattle.sd_product.specs.Inductive.{proved_of}
use Rattle.sd_cert.specs.Accepts.{proofs_from}
use Rattle.sd_cert.specs.Headers.{headers_of}
use Rattle.sd_cert.specs.Tables.{IsDecided}
use Rattle.sd_cert.proofs.table.list_live.Given as goal

abbrev pub invariant-pairs : goal.invariant-pairs
invariant-pairs l = record {
  size : length l.table ≡ l.total;
  below : l.frontier ≤ count_before l.work l.pair;
  entries : (numbers : List ℕ) × IsDecided l.table l.frontier numbers × (numbers ++ proved_of (proofs_from (count_before l.work l.pair) (drop l.pair (headers_of l.work)) (drop l.pair l.claims)) ≡ proved_of (proofs_from 0 (headers_of l.work) l.claims));
}
