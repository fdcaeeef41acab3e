use Rattle.sd_types.specs.Phrases.{known_sort}
use Rattle.sd_types.proofs.AnswerLemmas.{Walks}
use Rattle.sd_types.proofs.declaration.check_vars.Given as goal

abbrev pub invariant-loop-var : goal.invariant-loop-var
invariant-loop-var l = Walks (λ x. known_sort l.types x.sort) l.var-items l.var-index
