use Rattle.std.proofs.Common.{◌≡◌, length, drop}
use Rattle.sd_runs.specs.Marks.{all_marked, refuted_from}
use Rattle.sd_runs.proofs.infallible.mark_first.Given as goal

abbrev pub invariant-loop-at : goal.invariant-loop-at
invariant-loop-at l = all_marked (refuted_from (length l.procs) l.at (drop l.at l.procs)) (l.infallible.items, l.waiting.items) ≡ all_marked (refuted_from (length l.procs) 0 l.procs) (l.initial.infallible.items, l.initial.waiting.items)
