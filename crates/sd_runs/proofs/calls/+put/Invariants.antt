use Rattle.std.proofs.Common.{◌≡◌, ◌++◌, drop}
use Rattle.sd_runs.specs.Calls.{callees_of}
use Rattle.sd_runs.proofs.calls.+put.Given as goal

abbrev pub invariant-put_callees-loop-statement : goal.invariant-put_callees-loop-statement
invariant-put_callees-loop-statement l = l.found.items ++ callees_of (drop l.statement-index l.body) ≡ l.initial.found.items ++ callees_of l.body
