use Rattle.sd_extract.specs.Scopes.{names_in}
use Rattle.sd_extract.proofs.CodeExpressions.{lefts_done, rights_done}
use Rattle.sd_extract.proofs.assignment.all_stored_at.Goals as goal
use Rattle.sd_extract.proofs.assignment.all_stored_at.Goals.{then-sides-test+else-place-rights, else-sides-test}

pub returns : goal.returns
returns c = elim c.sides-test.branch [
  | then-sides-test+else-place-rights w ↦ rights_done (names_in c.args.scope.now) c.args.lefts.now c.args.rights.now c.sides.place c.sides.list _ w.if-place-rights.false c.sides.invariant.list
  | else-sides-test w ↦ lefts_done (names_in c.args.scope.now) c.args.lefts.now c.args.rights.now c.sides.place c.sides.list _ w.sides-test.false c.sides.invariant.list
]
