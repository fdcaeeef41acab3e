use Rattle.std.proofs.Common.{length}
use Rattle.sd_core.specs.Becomes.{BecomesStmt}
use Rattle.sd_core.proofs.Zips.{Left}
use Rattle.sd_core.proofs.same.+stmt.Given as goal

abbrev pub invariant-are_same_stmts-loop-s : goal.invariant-are_same_stmts-loop-s
invariant-are_same_stmts-loop-s l = Left (BecomesStmt (record { procs = l.procs; globals = l.globals })) l.a l.b (length l.yielded)
