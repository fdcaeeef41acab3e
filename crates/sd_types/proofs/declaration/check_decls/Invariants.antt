use Rattle.sd_types.specs.Declarations.{decl_rule}
use Rattle.sd_types.proofs.AnswerLemmas.{Walks}
use Rattle.sd_types.proofs.declaration.check_decls.Given as goal

abbrev pub invariant-loop-decl : goal.invariant-loop-decl
invariant-loop-decl l = Walks (decl_rule l.scope) l.decl-items l.decl-index
