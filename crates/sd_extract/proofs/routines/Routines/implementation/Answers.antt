use Rattle.std.proofs.Common.{◌∙◌}
use Rattle.sd_extract.proofs.CodeNames.{implementation_found}
use Rattle.sd_extract.proofs.routines.Routines.implementation.Goals as goal

pub returns : goal.returns
returns c = c.implementation_of.ensures ∙ implementation_found c.args.self.now.decls.now c.args.name.now _ _ c.decl_at.ensures (c.args.self.now.implementations_found c.args.name.now)
