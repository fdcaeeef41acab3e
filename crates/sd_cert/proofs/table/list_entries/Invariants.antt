-- The entries up to here are listed, and those from here on ascend.
use Rattle.std.proofs.Common.{◌≡◌, ℕ, ◌+◌, ◌≤◌, List, map, ◌++◌, take, drop, length}
use Rattle.sd_product.specs.Inductive.{proved_of}
use Rattle.sd_cert.specs.Accepts.{Ascend}
use Rattle.sd_cert.specs.Tables.{IsDecided}
use Rattle.sd_cert.proofs.table.list_entries.Given as goal

abbrev pub invariant-loop-entry : goal.invariant-loop-entry
invariant-loop-entry l =
    (length l.table ≡ length l.fn.table)
    × ((least : ℕ) × (l.next ≤ l.first + least) × Ascend least l.count (proved_of (drop l.entry-index l.entries)))
    × (l.next ≤ l.first + l.count)
    × ((numbers : List ℕ) → IsDecided l.fn.table l.frontier numbers → IsDecided l.table l.next (numbers ++ map (λ k. l.first + k) (proved_of (take l.entry-index l.entries))))
