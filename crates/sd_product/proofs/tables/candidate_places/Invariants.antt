use Rattle.std.proofs.Common.{◌≡◌, ◌++◌, drop}
use Rattle.sd_product.specs.Numbering.{places_from}
use Rattle.sd_product.proofs.tables.candidate_places.Given as goal

abbrev pub invariant-lists : goal.invariant-lists
invariant-lists l = l.places.items ++ places_from l.list (drop l.list l.lists) ≡ places_from 0 l.lists
