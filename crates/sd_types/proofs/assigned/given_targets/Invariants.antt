use Rattle.sd_types.specs.declared.scope.Site.TheVariants.{Body}
use Rattle.sd_types.specs.Scopes.{context}
use Rattle.sd_types.specs.Statements.{target}
use Rattle.sd_types.proofs.AnswerLemmas.{Gathers}
use Rattle.sd_types.proofs.assigned.given_targets.Given as goal

abbrev pub invariant-loop-name : goal.invariant-loop-name
invariant-loop-name l = Gathers (target (context l.scope l.locals Body) l.at) l.name-items l.name-index l.given
