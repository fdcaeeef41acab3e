use Rattle.std.proofs.Common.{◌≡◌, List, ◌++◌, length}
use Rattle.sd_term.specs.declared.cube.Literal.{Literal}
use Rattle.sd_search.specs.Path.{AllSecond}
use Rattle.sd_search.proofs.leaf.turn.Given as goal

abbrev pub invariant-back : goal.invariant-back
invariant-back l = (done : List Literal) × (l.initial.path ≡ l.path ++ done) × AllSecond done

abbrev pub decreases-back : goal.decreases-back
decreases-back l = length l.path
