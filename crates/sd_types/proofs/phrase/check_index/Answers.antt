use Rattle.sd_base.proofs.SortLemmas.{map_is}
use Rattle.sd_types.proofs.phrase.check_index.Goals as goal

pub returns-in_ok-new-in-Map : goal.returns-in_ok-new-in-Map
returns-in_ok-new-in-Map c = rw (c.in-Map.is, map_is) (rw c.in_ok-new-in-Map.ensures at c.unknown-in-Map-2.ensures)
