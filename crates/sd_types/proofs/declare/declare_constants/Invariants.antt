use Rattle.std.proofs.Common.{◌≡◌, drop}
use Rattle.sd_types.specs.Tables.{with_entries}
use Rattle.sd_types.specs.Declarations.{constants_of}
use Rattle.sd_types.proofs.declare.declare_constants.Given as goal

abbrev pub invariant-loop-name : goal.invariant-loop-name
invariant-loop-name l = with_entries l.initial.globals (constants_of l.sort l.name-items) ≡ with_entries l.globals (constants_of l.sort (drop l.name-index l.name-items))
