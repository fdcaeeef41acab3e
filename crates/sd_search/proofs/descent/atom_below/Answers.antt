use Rattle.std.proofs.Common.{arith}
use Rattle.sd_search.proofs.WaysDown.{one-down}
use Rattle.sd_search.proofs.descent.atom_below.Goals as goal

pub loop-term-preserved : goal.loop-term-preserved
loop-term-preserved c = (
  omega arith,
  c.open_part-term.ensures.truth,
  c.open_part-term.ensures.unknown,
  one-down c.args.terms.now c.args.values.now c.args.fact c.loop-term.term c.open_part-term.result c.loop-term.invariant.0 c.open_part-term.ensures c.loop-term.invariant.3,
)
