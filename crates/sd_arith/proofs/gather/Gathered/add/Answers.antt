use Rattle.std.proofs.Common.{◌≡◌, rules, true}
use Rattle.sd_rows.specs.Rows.{is_within}
use Rattle.sd_arith.proofs.Giving.{gathered-kept}
use Rattle.sd_arith.proofs.gather.Gathered.add.Goals as goal

pub returns : goal.returns
returns c =
    let within : is_within c.args.row ≡ true = search rules in
    λ terms trail rows.
    gathered-kept terms trail rows c.args.line c.args.row c.args.self.now (record { rows = c.push.new.self; lines = c.push-2.new.self }) within c.in_ok-push.ensures.ok c.in_ok-push-2.ensures.ok
