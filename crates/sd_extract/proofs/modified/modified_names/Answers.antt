use Rattle.sd_extract.proofs.CodeModified.{specs_done}
use Rattle.sd_extract.proofs.modified.modified_names.Goals as goal

pub returns : goal.returns
returns c = specs_done c.args.clauses.now c.loop-clause.clause-index c.loop-clause.names c.loop-clause-test.false c.loop-clause.invariant.names
