use Rattle.sd_kernel.proofs.RowSteps.{row-computable, sum-proper}
use Rattle.sd_kernel.proofs.rows.sum_row.Goals as goal

pub added-requires-clause-first : goal.added-requires-clause-first
added-requires-clause-first c = (row-computable c.args.rows.now c.args.a c.in-Some.first.now c.in-Some.ensures c.requires).0

pub added-requires-clause-second : goal.added-requires-clause-second
added-requires-clause-second c = (row-computable c.args.rows.now c.args.b c.in-Some-at.second.now c.in-Some-at.ensures c.requires).0

pub added-requires-clause-first_within : goal.added-requires-clause-first_within
added-requires-clause-first_within c = (row-computable c.args.rows.now c.args.a c.in-Some.first.now c.in-Some.ensures c.requires).1

pub added-requires-clause-second_within : goal.added-requires-clause-second_within
added-requires-clause-second_within c = (row-computable c.args.rows.now c.args.b c.in-Some-at.second.now c.in-Some-at.ensures c.requires).1

pub returns-clause-proper : goal.returns-clause-proper
returns-clause-proper c =
    sum-proper c.args.rows.now c.args.a c.args.m c.args.b c.args.n c.in-Some.first.now c.in-Some-at.second.now c.in-Some.ensures c.in-Some-at.ensures c.are_multipliers.result c.are_multipliers.ensures c.if-not-are_multipliers.false
    c.requires c.in_ok-row.row c.in_ok-row.ensures
