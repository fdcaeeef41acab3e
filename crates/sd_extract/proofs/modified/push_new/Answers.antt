use Rattle.sd_base.specs.FirstPlaces.{place_of}
use Rattle.sd_extract.proofs.CodeModified.{seen_pushed}
use Rattle.sd_extract.proofs.modified.push_new.Goals as goal

pub returns-in_ok-push-in-None-clause-seen : goal.returns-in_ok-push-in-None-clause-seen
returns-in_ok-push-in-None-clause-seen c =
    seen_pushed (place_of c.args.seen.now) (place_of c.enter.new.self) c.args.names.now c.push.new.self c.args.name.now _ _ c.requires c.in_ok-clone_of-in-None.ensures c.in_ok-enter-in-None.ensures c.in_ok-push-in-None.ensures.ok
