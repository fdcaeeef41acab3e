use Rattle.std.proofs.Common.{◌≡◌, length, drop}
use Rattle.sd_match.specs.Pairs.{same_sorts}
use Rattle.sd_match.proofs.partners.have_same_sorts.Given as goal

abbrev pub invariant-vars : goal.invariant-vars
invariant-vars l = record {
  count : length l.olds ≡ length l.news;
  sorts : same_sorts (drop l.place l.olds) (drop l.place l.news) ≡ same_sorts l.olds l.news;
}
