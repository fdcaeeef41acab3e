use Rattle.sd_types.specs.Scopes.{context}
use Rattle.sd_types.specs.Phrases.{given}
use Rattle.sd_types.proofs.AnswerLemmas.{Gathers}
use Rattle.sd_types.proofs.phrase.+sort.Given as goal

abbrev pub invariant-given_args-loop-arg : goal.invariant-given_args-loop-arg
invariant-given_args-loop-arg l = Gathers (given (context l.scope l.locals l.site)) l.arg-items l.arg-index l.given
