use Rattle.std.proofs.Common.{rules, ◌≡◌}
use Rattle.sd_rows.specs.Divisors.{greatest_divisor}
use Rattle.sd_rows.specs.RowOps.{sizes}
use Rattle.sd_rows.proofs.Cuts.{reduced-one}
use Rattle.sd_linear.proofs.list.cut.Goals as goal

pub returns-then-divisor_of-eq1-clause-row : goal.returns-then-divisor_of-eq1-clause-row
returns-then-divisor_of-eq1-clause-row c =
    let e : greatest_divisor (sizes c.args.row.parts) ≡ 1 = search rules in
    reduced-one c.args.row e

pub returns-then-divisor_of-eq1-clause-same : goal.returns-then-divisor_of-eq1-clause-same
returns-then-divisor_of-eq1-clause-same c = λ _.
    let e : greatest_divisor (sizes c.args.row.parts) ≡ 1 = search rules in
    reduced-one c.args.row e
