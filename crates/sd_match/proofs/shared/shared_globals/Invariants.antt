use Rattle.std.proofs.Common.{◌≡◌, ◌++◌, ◌≤◌, length, drop}
use Rattle.sd_core.specs.Failure.{shared_from, shared_of}
use Rattle.sd_match.proofs.shared.shared_globals.Given as goal

abbrev pub invariant-olds : goal.invariant-olds
invariant-olds l = record {
  reached : l.place ≤ length l.olds;
  shared : l.shared.items ++ shared_from l.place (drop l.place l.olds) l.news ≡ shared_of l.olds l.news;
}
