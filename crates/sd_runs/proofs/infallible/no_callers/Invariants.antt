use Rattle.std.proofs.Common.{◌≡◌, [], replicate}
use Rattle.sd_runs.proofs.infallible.no_callers.Given as goal

abbrev pub invariant-loop : goal.invariant-loop
invariant-loop l = l.callers.items ≡ replicate l.counter []
