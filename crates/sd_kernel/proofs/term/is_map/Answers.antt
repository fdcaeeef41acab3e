use Rattle.std.proofs.Common.{sym, ap, ◌∙◌}
use Rattle.sd_base.proofs.SortLemmas.{map_is}
use Rattle.sd_kernel.specs.Steps.{is_map}
use Rattle.sd_kernel.proofs.term.is_map.Goals as goal

pub returns-in-Map : goal.returns-in-Map
returns-in-Map c = sym (ap is_map (c.in-Map.is ∙ map_is c.in-Map.field-0 c.in-Map.field-1))
