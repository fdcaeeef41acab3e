use Rattle.sd_types.specs.Phrases.{known_sort}
use Rattle.sd_types.proofs.AnswerLemmas.{Walks}
use Rattle.sd_types.proofs.declaration.check_sorts.Given as goal

abbrev pub invariant-loop-sort : goal.invariant-loop-sort
invariant-loop-sort l = Walks (known_sort l.types) l.sort-items l.sort-index
