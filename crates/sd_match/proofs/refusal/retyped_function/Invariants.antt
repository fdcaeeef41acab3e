use Rattle.std.proofs.Common.{◌≡◌, drop}
use Rattle.sd_match.specs.Refusals.{retyped_function}
use Rattle.sd_match.proofs.refusal.retyped_function.Given as goal

abbrev pub invariant-olds : goal.invariant-olds
invariant-olds l = retyped_function (drop l.place l.olds) l.news ≡ retyped_function l.olds l.news
