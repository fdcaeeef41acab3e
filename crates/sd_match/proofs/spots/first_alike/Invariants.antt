use Rattle.std.proofs.Common.{◌≡◌, drop}
use Rattle.sd_core.specs.Failure.{place_from}
use Rattle.sd_match.proofs.spots.first_alike.Given as goal

abbrev pub invariant-news : goal.invariant-news
invariant-news l = place_from l.place (drop l.place l.news) l.old ≡ place_from 0 l.news l.old
