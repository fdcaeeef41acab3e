use Rattle.std.proofs.Common.{◌≡◌, ◌∙◌, ap}
use Rattle.sd_ast.specs.declared.Program.{Program}
use Rattle.sd_extract.specs.Numbered.{program_of}
use Rattle.sd_extract.proofs.CodePrograms.{program_made}
use Rattle.sd_extract.proofs.extraction.extract.Goals as goal

pub returns : goal.returns
returns c =
    let typed = ap (λ (P : Program). P.decls) c.program-program.ensures.program in
    let same : (program_of c.in_ok-callees.callees).decls ≡ c.args.typed.now.decls = c.in_ok-callees.ensures ∙ (c.in_ok-new.ensures ∙ typed) in
    program_made c.args.typed.now (program_of c.in_ok-callees.callees) c.as_slice-decls.result.now c.in_ok-procs.procs c.in_ok-clone_items.field-0 c.in_ok-functions_of.field-0 c.in_ok-axioms_of.field-0 c.in_ok-uniques_of.field-0
    same (c.as_slice-decls.ensures ∙ typed) c.in_ok-procs.ensures (c.in_ok-clone_items.ensures ∙ c.in_ok-globals.ensures.vars) c.in_ok-functions_of.ensures c.in_ok-axioms_of.ensures c.in_ok-uniques_of.ensures
