use Rattle.sd_types.specs.declared.scope.Site.TheVariants.{Body}
use Rattle.sd_types.specs.Scopes.{context}
use Rattle.sd_types.specs.Statements.{left_sort}
use Rattle.sd_types.proofs.AnswerLemmas.{Gathers}
use Rattle.sd_types.proofs.assigned.sorts_of_lefts.Given as goal

abbrev pub invariant-loop-left : goal.invariant-loop-left
invariant-loop-left l = Gathers (left_sort (context l.scope l.locals Body) l.at) l.left-items l.left-index l.sorts
