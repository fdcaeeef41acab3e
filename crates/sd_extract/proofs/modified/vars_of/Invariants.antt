use Rattle.std.proofs.Common.{◌≡◌, ◌++◌, drop}
use Rattle.std.specs.List.{filter_map}
use Rattle.sd_extract.specs.Extract.{var_in}
use Rattle.sd_extract.proofs.modified.vars_of.Given as goal

abbrev pub invariant-loop-name : goal.invariant-loop-name
invariant-loop-name l = l.out ++ filter_map (var_in l.globals.vars) (drop l.name-index l.names) ≡ filter_map (var_in l.globals.vars) l.names
