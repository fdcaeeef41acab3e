use Rattle.std.proofs.Common.{◌≡◌, drop}
use Rattle.sd_runs.specs.Calls.{any_fail}
use Rattle.sd_runs.proofs.calls.+fail.Given as goal

abbrev pub invariant-any_fail-loop-statement : goal.invariant-any_fail-loop-statement
invariant-any_fail-loop-statement l = any_fail (drop l.statement-index l.body) ≡ any_fail l.body
