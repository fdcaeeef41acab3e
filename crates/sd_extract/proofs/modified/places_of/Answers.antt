use Rattle.sd_extract.specs.Extract.{index_in}
use Rattle.sd_extract.proofs.CodeLists.{filter_next}
use Rattle.sd_extract.proofs.modified.places_of.Goals as goal

pub loop-name-preserved : goal.loop-name-preserved
loop-name-preserved c =
    filter_next (index_in c.args.globals.now.vars) c.args.names.now c.loop-name.name-index c.name-item.result c.loop-name.out c.push_place.new.out _ c.loop-name-test.true c.name-item.is c.in_ok-push_place.ensures c.loop-name.invariant
