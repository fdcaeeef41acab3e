use Rattle.std.proofs.Common.{◌≡◌, take}
use Rattle.sd_core.specs.Formed.{sorts_of}
use Rattle.sd_vcgen.proofs.call.sorts.Given as goal

abbrev pub invariant-loop-variable : goal.invariant-loop-variable
invariant-loop-variable l = l.sorts ≡ sorts_of (take l.variable-index l.variables)
