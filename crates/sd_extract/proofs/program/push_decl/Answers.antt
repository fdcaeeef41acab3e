use Rattle.std.proofs.Common.{◌∙◌, sym, ap}
use Rattle.std.specs.Prelude.{option_map}
use Rattle.sd_extract.specs.Found.{routine_in}
use Rattle.sd_extract.specs.Numbered.{program_of}
use Rattle.sd_extract.proofs.CodePrograms.{procs_none, procs_some}
use Rattle.sd_extract.proofs.program.push_decl.Goals as goal

pub returns-in-None : goal.returns-in-None
returns-in-None c ds =
    rw c.in-Procedure.is (procs_none (program_of c.args.callees.now) c.in-Procedure.proc c.args.number ds c.args.out.now (sym c.find_routine.ensures ∙ ap (option_map routine_in) c.in-None.is))

pub returns-in_ok-next-in-Some : goal.returns-in_ok-next-in-Some
returns-in_ok-next-in-Some c ds =
    rw c.in-Procedure.is
    (procs_some (program_of c.args.callees.now) c.in-Procedure.proc (routine_in c.in-Some.routine) c.args.number c.in_ok-next-in-Some.next ds c.args.globals.now.vars c.args.out.now c.push_routine.new.out
    (sym c.find_routine.ensures ∙ ap (option_map routine_in) c.in-Some.is) c.requires.vars c.in_ok-next-in-Some.ensures.out c.in_ok-next-in-Some.ensures.next)
