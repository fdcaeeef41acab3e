use Rattle.std.proofs.Common.{◌≡◌, ◌++◌, drop}
use Rattle.sd_extract.specs.Extract.{globals_from}
use Rattle.sd_extract.proofs.declarations.global_spots.Given as goal

abbrev pub invariant-loop-var : goal.invariant-loop-var
invariant-loop-var l = l.spots ++ globals_from l.place (drop l._var-index l.vars) ≡ globals_from 0 l.vars
