use Rattle.std.proofs.Common.{◌≡◌, take}
use Rattle.sd_parse.specs.Programs.{variables}
use Rattle.sd_parse.proofs.variables.variables.Given as goal

abbrev pub invariant-loop-name : goal.invariant-loop-name
invariant-loop-name l = l.vars ≡ variables (take l.name-index l.name-items) l.sort
