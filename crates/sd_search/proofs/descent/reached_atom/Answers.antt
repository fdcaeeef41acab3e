use Rattle.std.proofs.Common.{arith}
use Rattle.sd_search.proofs.WaysDown.{reached-from}
use Rattle.sd_search.proofs.descent.reached_atom.Goals as goal

pub returns-then-is_none-clause-some : goal.returns-then-is_none-clause-some
returns-then-is_none-clause-some c =
    reached-from c.args.terms.now c.args.facts.now c.args.values.now _ c.index-facts-facts.result c.atom_below.result (omega arith) c.index-facts-facts.is c.atom_below.ensures.atom c.atom_below.ensures.reached
