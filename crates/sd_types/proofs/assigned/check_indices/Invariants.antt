use Rattle.sd_types.specs.declared.scope.Site.TheVariants.{Body}
use Rattle.sd_types.specs.Scopes.{context}
use Rattle.sd_types.specs.Statements.{typed_indices}
use Rattle.sd_types.proofs.AnswerLemmas.{Walks}
use Rattle.sd_types.proofs.assigned.check_indices.Given as goal

abbrev pub invariant-loop-left : goal.invariant-loop-left
invariant-loop-left l = Walks (typed_indices (context l.scope l.locals Body)) l.left-items l.left-index
