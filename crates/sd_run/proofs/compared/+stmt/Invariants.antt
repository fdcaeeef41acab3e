use Rattle.std.proofs.Common.{◌≡◌, drop}
use Rattle.sd_run.specs.Compared.{are_compared}
use Rattle.sd_run.proofs.compared.+stmt.Given as goal

abbrev pub invariant-are_compared-loop-stmt : goal.invariant-are_compared-loop-stmt
invariant-are_compared-loop-stmt l = are_compared l.stmt-items ≡ are_compared (drop l.stmt-index l.stmt-items)
