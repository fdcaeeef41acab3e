-- The candidates up to here are decided as those of the first number.
use Rattle.std.proofs.Common.{◌≡◌, ℕ, List, length}
use Rattle.sd_cert.specs.Tables.{IsDecided}
use Rattle.sd_cert.proofs.table.clear_until.Given as goal

abbrev pub invariant-loop-candidate : goal.invariant-loop-candidate
invariant-loop-candidate l =
    (length l.table ≡ length l.fn.table)
    × ((numbers : List ℕ) → IsDecided l.fn.table l.from numbers → IsDecided l.table l.candidate numbers)
