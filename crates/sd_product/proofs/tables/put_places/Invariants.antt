use Rattle.std.proofs.Common.{◌≡◌, ◌++◌, drop}
use Rattle.sd_product.specs.Numbering.{places_in}
use Rattle.sd_product.proofs.tables.put_places.Given as goal

abbrev pub invariant-candidates : goal.invariant-candidates
invariant-candidates l = l.places.items ++ places_in l.list l.place (drop l.place l.candidates) ≡ l.initial.places.items ++ places_in l.list 0 l.candidates
