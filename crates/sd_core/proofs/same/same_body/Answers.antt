use Rattle.sd_core.proofs.Renamed.{bodies_are_same}
use Rattle.sd_core.proofs.same.same_body.Goals as goal

pub returns-then-have_same_variables : goal.returns-then-have_same_variables
returns-then-have_same_variables c =
    bodies_are_same (record { procs = c.args.procs.now; globals = c.args.globals.now }) c.args.a.now c.args.b.now _ _ c.as_slice.ensures c.as_slice-then-have_same_variables.ensures _ c.are_same_stmts.ensures (c.have_same_variables.ensures.0 c.if-have_same_variables.true)
