use Rattle.std.proofs.Common.{◌≡◌, ◌++◌, drop}
use Rattle.std.specs.List.{filter_map}
use Rattle.sd_extract.specs.Extract.{index_in}
use Rattle.sd_extract.proofs.modified.places_of.Given as goal

abbrev pub invariant-loop-name : goal.invariant-loop-name
invariant-loop-name l = l.out ++ filter_map (index_in l.globals.vars) (drop l.name-index l.names) ≡ filter_map (index_in l.globals.vars) l.names
