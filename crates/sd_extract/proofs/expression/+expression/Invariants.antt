use Rattle.std.proofs.Common.{◌≡◌, take}
use Rattle.sd_extract.specs.Extract.{cores}
use Rattle.sd_extract.specs.Scopes.{names_in}
use Rattle.sd_extract.proofs.expression.+expression.Given as goal

abbrev pub invariant-expressions-loop-e : goal.invariant-expressions-loop-e
invariant-expressions-loop-e l = l.list ≡ cores (names_in l.scope) (take l.e-index l.es)
