use Rattle.std.proofs.Common.{length}
use Rattle.sd_core.specs.Becomes.{BecomesExpr}
use Rattle.sd_core.proofs.Zips.{Left}
use Rattle.sd_core.proofs.same.+expr.Given as goal

abbrev pub invariant-are_same_exprs-loop-e : goal.invariant-are_same_exprs-loop-e
invariant-are_same_exprs-loop-e l = Left (BecomesExpr l.globals) l.a l.b (length l.yielded)
