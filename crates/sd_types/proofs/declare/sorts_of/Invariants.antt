use Rattle.std.proofs.Common.{◌≡◌, take}
use Rattle.sd_types.specs.Declarations.{sorts_of_vars}
use Rattle.sd_types.proofs.declare.sorts_of.Given as goal

abbrev pub invariant-loop-var : goal.invariant-loop-var
invariant-loop-var l = l.sorts ≡ sorts_of_vars (take l.var-index l.var-items)
