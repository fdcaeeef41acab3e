use Rattle.std.proofs.Common.{◌≡◌, drop}
use Rattle.sd_match.specs.Refusals.{retyped_global}
use Rattle.sd_match.proofs.refusal.retyped_global.Given as goal

abbrev pub invariant-olds : goal.invariant-olds
invariant-olds l = retyped_global (drop l.place l.olds) l.news ≡ retyped_global l.olds l.news
