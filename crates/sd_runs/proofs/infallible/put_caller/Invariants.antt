use Rattle.std.proofs.Common.{◌≡◌, drop}
use Rattle.sd_runs.specs.Marks.{with_caller}
use Rattle.sd_runs.proofs.infallible.put_caller.Given as goal

abbrev pub invariant-loop-callee : goal.invariant-loop-callee
invariant-loop-callee l = with_caller l.caller (drop l.callee-index l.callees) l.callers.items ≡ with_caller l.caller l.callees l.initial.callers.items
