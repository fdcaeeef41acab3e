use Rattle.std.proofs.Common.{◌≡◌, length, drop}
use Rattle.sd_match.specs.Refusals.{all_same_sorts}
use Rattle.sd_match.proofs.refusal.have_all_same_sorts.Given as goal

abbrev pub invariant-sorts : goal.invariant-sorts
invariant-sorts l = record {
  count : length l.olds ≡ length l.news;
  same : all_same_sorts (drop l.place l.olds) (drop l.place l.news) ≡ all_same_sorts l.olds l.news;
}
