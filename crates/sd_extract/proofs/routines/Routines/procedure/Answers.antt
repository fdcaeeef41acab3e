use Rattle.std.proofs.Common.{◌∙◌}
use Rattle.sd_extract.proofs.CodeNames.{procedure_found}
use Rattle.sd_extract.proofs.routines.Routines.procedure.Goals as goal

pub returns : goal.returns
returns c = c.procedure_of.ensures ∙ procedure_found c.args.self.now.decls.now c.args.name.now _ _ c.decl_at.ensures (c.args.self.now.procedures_found c.args.name.now)
