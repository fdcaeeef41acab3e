use Rattle.std.proofs.Common.{◌≡◌, ◌++◌, ◌+◌, drop}
use Rattle.sd_match.specs.Pairs.{by_position}
use Rattle.sd_match.proofs.spots.put_by_position.Given as goal

abbrev pub invariant-vars : goal.invariant-vars
invariant-vars l = l.pairs ++ by_position (l.i + l.place) (l.j + l.place) (drop l.place l.olds) (drop l.place l.news) ≡ l.fn.pairs ++ by_position l.i l.j l.olds l.news
