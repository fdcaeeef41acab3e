use Rattle.sd_kernel.proofs.RowSteps.{copy-computable, cut-proper}
use Rattle.sd_kernel.proofs.rows.cut_row.Goals as goal

pub reduced-requires-clause-proper : goal.reduced-requires-clause-proper
reduced-requires-clause-proper c = (copy-computable c.args.rows.now c.args.a c.in-Some.row.now c.in_ok-copy.copy c.in-Some.ensures c.in_ok-copy.ensures c.requires).0

pub reduced-requires-clause-within : goal.reduced-requires-clause-within
reduced-requires-clause-within c = (copy-computable c.args.rows.now c.args.a c.in-Some.row.now c.in_ok-copy.copy c.in-Some.ensures c.in_ok-copy.ensures c.requires).1

pub returns-clause-proper : goal.returns-clause-proper
returns-clause-proper c = cut-proper c.args.rows.now c.args.a c.in-Some.row.now c.in_ok-copy.copy c.in_ok-cut.cut c.in-Some.ensures c.in_ok-copy.ensures c.in_ok-cut.ensures c.requires
