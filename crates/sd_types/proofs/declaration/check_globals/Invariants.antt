use Rattle.sd_types.specs.Declarations.{names_global}
use Rattle.sd_types.proofs.AnswerLemmas.{Walks}
use Rattle.sd_types.proofs.declaration.check_globals.Given as goal

abbrev pub invariant-loop-name : goal.invariant-loop-name
invariant-loop-name l = Walks (names_global l.globals) l.name-items l.name-index
