use Rattle.std.proofs.Common.{take}
use Rattle.std.specs.List.{flat_map}
use Rattle.sd_cert.specs.Added.{IsAdded}
use Rattle.sd_cert.specs.Certificates.{step_lines}
use Rattle.sd_cert.proofs.spelling.push_steps.Given as goal

abbrev pub invariant-loop-step : goal.invariant-loop-step
invariant-loop-step l = IsAdded (flat_map step_lines (take l.step-index l.steps)) l.initial.text.items l.text.items
