use Rattle.std.proofs.Common.{◌∙◌, sym, rules}
use Rattle.std.proofs.lemmas.Slice.Zip.{zip_end}
use Rattle.sd_vcgen.proofs.Calls.{set_all_done}
use Rattle.sd_vcgen.proofs.call.changed_globals.Goals as goal

pub returns : goal.returns
returns c =
    let long = zip_end c.args.places.now c.args.news.now c.loop-place.yielded c.into_iter-place-iterator.result c.loop-place.place-iterator c.next.new.self c.next.result (search rules) (search rules) c.loop-place.yielded_by c.in-None.is c.next.ensures.steps in
    sym (set_all_done c.loop-place.after c.args.places.now c.args.news.now _ long) ∙ c.loop-place.invariant
