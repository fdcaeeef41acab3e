use Rattle.std.proofs.Common.{◌∙◌, sym, ap}
use Rattle.std.specs.List.{list_all}
use Rattle.sd_run.specs.Compared.{is_compared_decl}
use Rattle.sd_run.proofs.ComparedLemmas.{compared_is_exact}
use Rattle.sd_run.proofs.compared.is_compared_program.Goals as goal

pub returns : goal.returns
returns c =
    let same = c.are_compared_decls.ensures ∙ ap (list_all is_compared_decl) c.as_slice.ensures in
    let exact = compared_is_exact c.args.program.now in
    (λ t. exact.0 (sym same ∙ t), λ h. same ∙ exact.1 h)
