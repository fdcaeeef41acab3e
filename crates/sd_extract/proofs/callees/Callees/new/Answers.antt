use Rattle.sd_extract.proofs.CodeNumbers.{numbers_next, numbers_done}
use Rattle.std.proofs.Common.{◌+◌, drop}
use Rattle.std.specs.HashMap.{get}
use Rattle.sd_base.specs.Value.{same_text}
use Rattle.sd_extract.proofs.callees.Callees.new.Goals as goal

pub loop-decl-preserved : goal.loop-decl-preserved
loop-decl-preserved c f =
    numbers_next (record { decls = c.args.routines.decls.now }) c.args.routines.decls.now c.loop-decl.decl-index c.decl-item.result c.loop-decl.next c.in_ok-next.next f (get same_text c.loop-decl.numbers f)
    (get same_text c.enter_number.new.numbers f) _ c.loop-decl-test.true c.decl-item.is (c.in_ok-next.ensures f (drop (c.loop-decl.decl-index + 1) c.args.routines.decls.now)) (c.loop-decl.invariant f)

pub invariant_of-result : goal.invariant_of-result
invariant_of-result c = record {
  found = λ f. numbers_done (record { decls = c.args.routines.decls.now }) c.args.routines.decls.now c.loop-decl.decl-index c.loop-decl.next f (get same_text c.loop-decl.numbers f) _ c.loop-decl-test.false (c.loop-decl.invariant f);
}
