-- The lines up to here and those from here on are all.
use Rattle.std.proofs.Common.{◌≡◌, ◌+◌, drop, length}
use Rattle.std.specs.List.{flat_map}
use Rattle.sd_cert.specs.Certificates.{step_lines}
use Rattle.sd_cert.proofs.counting.below_steps.Given as goal

abbrev pub invariant-loop-step : goal.invariant-loop-step
invariant-loop-step l = l.line + length (flat_map step_lines l.steps) ≡ l.at + length (flat_map step_lines (drop l.step-index l.steps))
