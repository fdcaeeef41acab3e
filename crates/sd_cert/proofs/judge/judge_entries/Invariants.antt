-- The first bad step of the entries from here on is that of all.
use Rattle.std.proofs.Common.{◌≡◌, ◌+◌, drop, length}
use Rattle.std.specs.List.{flat_map}
use Rattle.sd_product.specs.Work.{queries_of}
use Rattle.sd_cert.specs.Certificates.{proved_lines}
use Rattle.sd_cert.specs.BadSteps.{entries_fault}
use Rattle.sd_cert.proofs.judge.judge_entries.Given as goal

abbrev pub invariant-loop-entry : goal.invariant-loop-entry
invariant-loop-entry l =
    (entries_fault (queries_of l.bodies.work l.table) l.first l.line l.entries ≡ entries_fault (queries_of l.bodies.work l.table) l.first l.at (drop l.entry-index l.entries))
    × (l.line + length (flat_map proved_lines l.entries) ≡ l.at + length (flat_map proved_lines (drop l.entry-index l.entries)))
