use Rattle.std.proofs.Common.{◌≡◌, [], length, drop, replicate}
use Rattle.sd_runs.specs.Marks.{with_callers}
use Rattle.sd_runs.proofs.infallible.callers_of.Given as goal

abbrev pub invariant-loop-at : goal.invariant-loop-at
invariant-loop-at l = with_callers l.at (drop l.at l.procs) l.callers.items ≡ with_callers 0 l.procs (replicate (length l.procs) [])
