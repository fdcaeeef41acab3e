use Rattle.std.proofs.Common.{sym, ◌∙◌, arith}
use Rattle.sd_kernel.proofs.Lookups.{int-eq-long}
use Rattle.sd_kernel.proofs.order.are_orders_of.Goals as goal

pub part-first-requires-clause-place : goal.part-first-requires-clause-place
part-first-requires-clause-place c = omega (arith, int-eq-long c.args.terms.now c.args.equality c.requires.sorted c.requires.equality (sym c.is_int_eq.ensures ∙ c.if-not-is_int_eq.false))

pub part-second-requires-clause-place : goal.part-second-requires-clause-place
part-second-requires-clause-place c = omega (arith, int-eq-long c.args.terms.now c.args.equality c.requires.sorted c.requires.equality (sym c.is_int_eq.ensures ∙ c.if-not-is_int_eq.false))
