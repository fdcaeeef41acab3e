use Rattle.std.proofs.Common.{rules, ◌≡◌}
use Rattle.sd_linear.specs.Elimination.{elimination, point}
use Rattle.sd_linear.proofs.Inputs.{point-meets}
use Rattle.sd_linear.proofs.elimination.eliminate.Goals as goal

pub returns-in-Ok-clause-justified : goal.returns-in-Ok-clause-justified
returns-in-Ok-clause-justified c =
    let e : elimination c.args.rows.now ≡ point c.in-Ok.values = search rules in
    point-meets c.args.rows.now c.in-Ok.values c.requires e
