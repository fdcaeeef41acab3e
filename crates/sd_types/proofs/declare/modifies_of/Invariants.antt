use Rattle.std.proofs.Common.{◌≡◌, ◌++◌, drop}
use Rattle.sd_types.specs.Declarations.{modifies_of}
use Rattle.sd_types.proofs.declare.modifies_of.Given as goal

abbrev pub invariant-loop-spec : goal.invariant-loop-spec
invariant-loop-spec l = modifies_of l.spec-items ≡ l.names ++ modifies_of (drop l.spec-index l.spec-items)
