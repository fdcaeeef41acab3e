use Rattle.std.proofs.Common.{◌≡◌, ◌++◌, ◌+◌, drop}
use Rattle.sd_match.specs.Pairs.{by_name}
use Rattle.sd_match.proofs.spots.put_by_name.Given as goal

abbrev pub invariant-olds : goal.invariant-olds
invariant-olds l = l.pairs ++ by_name (l.i + l.place) l.j (drop l.place l.olds) l.news ≡ l.fn.pairs ++ by_name l.i l.j l.olds l.news
