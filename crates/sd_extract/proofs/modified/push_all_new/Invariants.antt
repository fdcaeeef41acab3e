use Rattle.std.proofs.Common.{◌≡◌, drop}
use Rattle.sd_base.specs.FirstPlaces.{place_of}
use Rattle.sd_extract.specs.Modified.{HasSeen, all_new}
use Rattle.sd_extract.proofs.modified.push_all_new.Given as goal

abbrev pub invariant-loop-name : goal.invariant-loop-name
invariant-loop-name l = record {
  names : all_new l.names (drop l.name-index l.more) ≡ all_new l.initial.names l.more;
  seen : HasSeen (place_of l.seen) l.names;
}
