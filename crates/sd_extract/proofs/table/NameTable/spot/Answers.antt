use Rattle.std.proofs.Common.{◌∙◌, sym}
use Rattle.sd_extract.proofs.CodeNames.{spot_found}
use Rattle.sd_extract.proofs.table.NameTable.spot.Goals as goal

pub returns-in-None : goal.returns-in-None
returns-in-None c = spot_found c.args.self.now c.args.spots.now c.args.name.now _ (sym c.in-None.is ∙ c.position.ensures)

pub returns-in-Some : goal.returns-in-Some
returns-in-Some c = c.copied.ensures ∙ (c.at.ensures ∙ spot_found c.args.self.now c.args.spots.now c.args.name.now _ (sym c.in-Some.is ∙ c.position.ensures))
