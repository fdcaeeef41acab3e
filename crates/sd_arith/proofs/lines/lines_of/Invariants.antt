use Rattle.std.proofs.Common.{◌≡◌, map, take}
use Rattle.sd_arith.specs.Lines.{line_of}
use Rattle.sd_arith.proofs.lines.lines_of.Given as goal

abbrev pub invariant-loop-step : goal.invariant-loop-step
invariant-loop-step l = l.lines ≡ map (line_of l.inputs) (take l.step-index l.steps)
