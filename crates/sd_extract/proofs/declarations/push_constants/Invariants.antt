use Rattle.std.proofs.Common.{◌≡◌, ◌++◌, take}
use Rattle.sd_extract.specs.Programs.{constants_named}
use Rattle.sd_extract.proofs.declarations.push_constants.Given as goal

abbrev pub invariant-loop-name : goal.invariant-loop-name
invariant-loop-name l = l.out ≡ l.initial.out ++ constants_named (take l.name-index l.names) l.sort
