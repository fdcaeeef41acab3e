use Rattle.std.proofs.Common.{◌∙◌, sym, ap}
use Rattle.std.specs.Prelude.{slice_get}
use Rattle.sd_extract.proofs.CodeNames.{var_found}
use Rattle.sd_extract.proofs.modified.global_var.Goals as goal

pub returns-in-None : goal.returns-in-None
returns-in-None c = var_found c.args.globals.now.vars c.args.name.now _ (sym c.in-None.is ∙ c.global_place.ensures)

pub returns-in-Some : goal.returns-in-Some
returns-in-Some c =
    c.at.ensures ∙ (ap (λ vs. slice_get vs c.in-Some.place) c.as_slice.ensures ∙ var_found c.args.globals.now.vars c.args.name.now _ (sym c.in-Some.is ∙ c.global_place.ensures))
