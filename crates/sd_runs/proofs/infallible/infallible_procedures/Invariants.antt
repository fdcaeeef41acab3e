use Rattle.std.proofs.Common.{◌+◌, length}
use Rattle.sd_runs.proofs.Spread.{Spreads, unmarked}
use Rattle.sd_runs.proofs.infallible.infallible_procedures.Given as goal

abbrev pub invariant-loop-at : goal.invariant-loop-at
invariant-loop-at l = Spreads l.procs (l.infallible.items, l.waiting.items)

abbrev pub decreases-loop-at : goal.decreases-loop-at
decreases-loop-at l = length l.waiting.items + unmarked l.infallible.items
