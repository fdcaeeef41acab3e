use Rattle.sd_types.specs.Declarations.{spec_rule}
use Rattle.sd_types.proofs.AnswerLemmas.{Walks}
use Rattle.sd_types.proofs.declaration.check_all_specs.Given as goal

abbrev pub invariant-loop-spec : goal.invariant-loop-spec
invariant-loop-spec l = Walks (spec_rule l.scope l.locals) l.spec-items l.spec-index
