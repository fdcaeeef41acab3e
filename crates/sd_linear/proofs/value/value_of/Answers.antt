use Rattle.std.proofs.Common.{rules, ◌≢◌, sym, ◌∙◌, get_or}
use Rattle.sd_linear.proofs.Values.{value_of-end, value_of-step}
use Rattle.sd_linear.proofs.value.value_of.Goals as goal

pub returns-then-i-values : goal.returns-then-i-values
returns-then-i-values c = sym (c.loop-i.invariant ∙ value_of-end c.args.columns.now c.args.values.now c.loop-i.i c.args.column (search rules))

pub loop-i-preserved : goal.loop-i-preserved
loop-i-preserved c =
    let n : get_or c.args.columns.now c.loop-i.i 0 ≢ c.args.column = search rules in
    c.loop-i.invariant ∙ value_of-step c.args.columns.now c.args.values.now c.loop-i.i c.args.column (search rules) (search rules) n
