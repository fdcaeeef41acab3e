use Rattle.sd_types.proofs.ScopeLemmas.{same_stmts}
use Rattle.sd_types.proofs.declaration.check_body_stmts.Goals as goal

pub returns : goal.returns
returns c = same_stmts c.args.scope.now c.args.head.now c.args.body.now c.in_ok-locals.locals c.in_ok-modifies.modifies c.args.modifies.now c.in_ok-locals.ensures c.in_ok-modifies.ensures c.check_stmts.ensures
