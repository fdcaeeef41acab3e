use Rattle.std.proofs.Common.{◌∙◌}
use Rattle.sd_extract.proofs.CodeNames.{position_names}
use Rattle.sd_extract.proofs.modified.global_place.Goals as goal

pub returns : goal.returns
returns c = c.position.ensures ∙ position_names c.args.globals.now.names c.args.globals.now.vars c.args.name.now c.requires.names
