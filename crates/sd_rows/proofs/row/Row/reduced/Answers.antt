use Rattle.std.proofs.Common.{rules, pos}
use Rattle.sd_rows.specs.RowOps.{over}
use Rattle.sd_rows.proofs.Cuts.{reduced-one, over-step}
use Rattle.sd_rows.proofs.row.Row.reduced.Goals as goal

pub returns-then-divisor-eq1 : goal.returns-then-divisor-eq1
returns-then-divisor-eq1 c = reduced-one c.args.self (search rules)

pub loop-p-preserved : goal.loop-p-preserved
loop-p-preserved c =
    over-step c.divisor_of-divisor.result c.loop-p.p-index c.as_slice-p-items.result.now c.loop-p.parts c.push.new.self
    (over c.as_slice-p-items.result.now c.divisor_of-divisor.result) (0, pos 0) c.loop-p-test.true (search rules) c.loop-p.invariant
