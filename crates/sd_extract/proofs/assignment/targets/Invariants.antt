use Rattle.std.proofs.Common.{◌≡◌, map, take}
use Rattle.sd_extract.specs.Extract.{spot_of}
use Rattle.sd_extract.specs.Scopes.{names_in}
use Rattle.sd_extract.proofs.assignment.targets.Given as goal

abbrev pub invariant-loop-left : goal.invariant-loop-left
invariant-loop-left l = l.spots ≡ map (λ x. spot_of (names_in l.scope) x.name) (take l.left-index l.lefts)
