use Rattle.sd_types.specs.declared.scope.Site.TheVariants.{Body}
use Rattle.sd_types.specs.Scopes.{context}
use Rattle.sd_types.specs.Statements.{true_invariant}
use Rattle.sd_types.proofs.AnswerLemmas.{Walks}
use Rattle.sd_types.proofs.statement.check_invariants.Given as goal

abbrev pub invariant-loop-invariant : goal.invariant-loop-invariant
invariant-loop-invariant l = Walks (true_invariant (context l.scope l.locals Body)) l.invariant-items l.invariant-index
