use Rattle.std.proofs.Common.{◌+◌, ◌≤◌, drop}
use Rattle.sd_search.specs.Outcome.{closings}
use Rattle.sd_search.proofs.guessed.closes_at_most.Given as goal

-- what is left of the budget pays for the steps that are left
abbrev pub invariant-loop-step : goal.invariant-loop-step
invariant-loop-step l = closings l.steps + l.left ≤ l.leaves + closings (drop l.step-index l.steps)
