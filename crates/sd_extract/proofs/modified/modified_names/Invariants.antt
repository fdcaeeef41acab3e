use Rattle.std.proofs.Common.{◌≡◌, [], drop}
use Rattle.sd_base.specs.FirstPlaces.{place_of}
use Rattle.sd_extract.specs.Modified.{HasSeen, specs_new}
use Rattle.sd_extract.proofs.modified.modified_names.Given as goal

abbrev pub invariant-loop-clause : goal.invariant-loop-clause
invariant-loop-clause l = record {
  names : specs_new l.names (drop l.clause-index l.clauses) ≡ specs_new [] l.clauses;
  seen : HasSeen (place_of l.seen) l.names;
}
