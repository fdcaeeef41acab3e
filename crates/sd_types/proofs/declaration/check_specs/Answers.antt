use Rattle.sd_types.specs.Declarations.{parameters}
use Rattle.sd_types.proofs.ScopeLemmas.{same_specs}
use Rattle.sd_types.proofs.declaration.check_specs.Goals as goal

pub returns : goal.returns
returns c = same_specs c.args.scope.now c.in_ok-locals.locals (parameters c.args.head.now) c.args.specs.now c.in_ok-locals.ensures c.check_all_specs.ensures
