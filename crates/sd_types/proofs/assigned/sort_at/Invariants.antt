use Rattle.std.proofs.Common.{◌≡◌, drop}
use Rattle.sd_types.specs.Statements.{indexed}
use Rattle.sd_types.proofs.assigned.sort_at.Given as goal

abbrev pub invariant-loop-index : goal.invariant-loop-index
invariant-loop-index l = indexed l.at l.initial.inside l.index-items ≡ indexed l.at l.inside (drop l.index-index l.index-items)
