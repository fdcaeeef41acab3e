use Rattle.std.specs.HashMap.{get}
use Rattle.sd_base.specs.Value.{same_text}
use Rattle.sd_extract.proofs.CodeNumbers.{number_more}
use Rattle.sd_extract.proofs.numbering.enter_number.Goals as goal

pub returns-in_ok-after-in-Procedure : goal.returns-in_ok-after-in-Procedure
returns-in_ok-after-in-Procedure c f ds =
    rw c.in-Procedure.is
    (number_more (record { decls = c.args.routines.now.decls.now }) c.in-Procedure.proc c.args.next c.in_ok-after-in-Procedure.after c.in_ok-size-in-Procedure.size f ds (get same_text c.args.numbers.now f) (get same_text c.put_first.new.numbers f)
    (c.in_ok-put_first-in-Procedure.ensures f) c.in_ok-size-in-Procedure.ensures c.in_ok-after-in-Procedure.ensures)
