use Rattle.std.proofs.Common.{◌≡◌, ◌++◌, drop}
use Rattle.sd_types.specs.Declarations.{procedure_names}
use Rattle.sd_types.proofs.declare.procedure_names.Given as goal

abbrev pub invariant-loop-decl : goal.invariant-loop-decl
invariant-loop-decl l = procedure_names l.decl-items ≡ l.names ++ procedure_names (drop l.decl-index l.decl-items)
