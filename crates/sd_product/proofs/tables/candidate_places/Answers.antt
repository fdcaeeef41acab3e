use Rattle.sd_product.specs.Numbering.{places_from}
use Rattle.sd_product.proofs.PlaceLemmas.{one_list}
use Rattle.sd_product.proofs.tables.candidate_places.Goals as goal

pub lists-preserved : goal.lists-preserved
lists-preserved c = one_list c.args.lists.now c.lists.list c.index-lists-list.result c.lists.places.items c.put_places.new.places.items (places_from 0 c.args.lists.now) c.lists-test.true c.index-lists-list.is c.in_ok-put_places.ensures c.lists.invariant
