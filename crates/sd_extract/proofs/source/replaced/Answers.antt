use Rattle.std.proofs.Common.{◌∙◌}
use Rattle.sd_extract.proofs.CodeSources.{places_done, new_done}
use Rattle.sd_extract.proofs.source.replaced.Goals as goal
use Rattle.sd_extract.proofs.source.replaced.Goals.{then-places-test+else-next-new, else-places-test}

pub returns : goal.returns
returns c = c.from_vec.ensures ∙ elim c.places-test.branch [
  | then-places-test+else-next-new w ↦ new_done c.places.list.items c.args.places.now c.args.new.now c.places.next _ w.if-next-new.false c.places.invariant.list
  | else-places-test w ↦ places_done c.places.list.items c.args.places.now c.args.new.now c.places.next _ w.places-test.false c.places.invariant.list
]
