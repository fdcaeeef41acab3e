use Rattle.std.proofs.Common.{rules, []}
use Rattle.sd_linear.specs.Elimination.{solved, columns, elimination}
use Rattle.sd_linear.specs.Answers.{Fails}
use Rattle.sd_linear.proofs.Solving.{fails-step}
use Rattle.sd_linear.proofs.elimination.values_of.Goals as goal

pub returns-in_err-list-clause-fails : goal.returns-in_err-list-clause-fails
returns-in_err-list-clause-fails c =
    let g : Fails c.args.rows.now c.in_err-list.field-0.0 (elimination c.args.rows.now) =
    fails-step c.args.rows.now c.in_err-list.field-0.0 0 c.args.rows.now [] (solved (columns c.args.rows.now)) c.in_err-list.ensures.stops in
    search (rules, g)
