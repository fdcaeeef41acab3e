use Rattle.std.proofs.Common.{◌≡◌, take}
use Rattle.sd_types.specs.Statements.{left_names}
use Rattle.sd_types.proofs.assigned.names_of_lefts.Given as goal

abbrev pub invariant-loop-left : goal.invariant-loop-left
invariant-loop-left l = l.names ≡ left_names (take l.left-index l.left-items)
