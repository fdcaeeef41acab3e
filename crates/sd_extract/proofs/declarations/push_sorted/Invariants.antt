use Rattle.std.proofs.Common.{◌≡◌, ◌++◌, take}
use Rattle.sd_meaning.specs.Inputs.{constants_of_sort}
use Rattle.sd_extract.proofs.declarations.push_sorted.Given as goal

abbrev pub invariant-loop-name : goal.invariant-loop-name
invariant-loop-name l = l.out ≡ l.initial.out ++ constants_of_sort (take l.name-index l.names) l.sort
