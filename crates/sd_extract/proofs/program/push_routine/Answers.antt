use Rattle.std.proofs.Common.{◌∙◌, ap, ◌++◌}
use Rattle.sd_extract.specs.Extract.{Source, procs_of}
use Rattle.sd_extract.specs.Found.{routine_in}
use Rattle.sd_extract.specs.Numbered.{program_of, number_of}
use Rattle.sd_extract.proofs.CodePrograms.{source_made}
use Rattle.sd_extract.proofs.program.push_routine.Goals as goal

pub returns-clause-out : goal.returns-clause-out
returns-clause-out c =
    c.in_ok-next.ensures.out
    ∙ ap (λ (S : Source). c.args.out.now ++ procs_of (program_of c.args.callees.now) (number_of c.args.callees.now) S)
    (source_made c.args.globals.now.vars c.args.number (routine_in c.args.routine.now) c.as_slice.result.now c.in_ok-names.names c.as_slice-2.result.now c.as_slice-3.result.now c.in_ok-places_of.field-0 c.in_ok-vars_of.field-0
    c.as_slice.ensures c.in_ok-names.ensures c.as_slice-2.ensures c.as_slice-3.ensures c.in_ok-places_of.ensures c.in_ok-vars_of.ensures)
