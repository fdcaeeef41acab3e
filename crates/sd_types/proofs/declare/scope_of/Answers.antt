use Rattle.sd_types.specs.Declarations.{nothing}
use Rattle.sd_types.proofs.DeclaredLemmas.{of-set}
use Rattle.sd_types.proofs.declare.scope_of.Goals as goal

pub returns : goal.returns
returns c = of-set c.in_ok-procedures.procedures c.in_ok-names.names nothing c.args.decls.now c.in_ok-names.ensures c.in_ok-procedures.ensures c.scope_among.ensures
