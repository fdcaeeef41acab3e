use Rattle.std.proofs.Common.{◌∙◌, ap}
use Rattle.std.specs.List.{position}
use Rattle.sd_linear.specs.Elimination.{same_parts}
use Rattle.sd_linear.proofs.list.RowList.place_of.Goals as goal

pub returns : goal.returns
returns c = c.copied.ensures ∙ c.get.ensures.value ∙ c.self.invariant c.args.parts.now ∙ ap (position (λ h. same_parts c.args.parts.now h.row.parts)) c.self.view_is
