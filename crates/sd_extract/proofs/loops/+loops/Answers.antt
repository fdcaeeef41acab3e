use Rattle.std.proofs.Common.{refl}
use Rattle.sd_meaning.specs.Run.{kinds_of}
use Rattle.sd_extract.specs.Extract.{counts_each}
use Rattle.sd_extract.specs.Counted.{has_return_among}
use Rattle.sd_extract.specs.Numbered.{program_of, number_of}
use Rattle.sd_extract.specs.Sources.{source_in}
use Rattle.sd_extract.proofs.CodeCounts.{counts-If, counts-While}
use Rattle.sd_extract.proofs.CodeLoops.{loops-If, loops-While, loops_next, number-If, number-While, number_next}
use Rattle.sd_extract.proofs.loops.+loops.Goals as goal

pub push_loops-loop-stmt-preserved : goal.push_loops-loop-stmt-preserved
push_loops-loop-stmt-preserved t c =
    record {
      out = loops_next (program_of c.args.callees.now) (number_of c.args.callees.now) (source_in c.args.placed.now.source.now) c.args.stmts.now c.loop-stmt.stmt-index c.stmt-item.result c.loop-stmt.next c.in_ok-next.next c.loop-stmt.out c.push_loops_of.new.out _
          c.loop-stmt-test.true c.stmt-item.is c.in_ok-next.ensures.out c.in_ok-next.ensures.next c.loop-stmt.invariant.out;
      next = number_next c.args.stmts.now c.loop-stmt.stmt-index c.stmt-item.result c.loop-stmt.next c.in_ok-next.next _ c.loop-stmt-test.true c.stmt-item.is c.in_ok-next.ensures.next c.loop-stmt.invariant.next;
    }

pub push_loops_of-returns-in_ok-last-in-If-clause-out :
    goal.push_loops_of-returns-in_ok-last-in-If-clause-out
push_loops_of-returns-in_ok-last-in-If-clause-out t c =
    loops-If (program_of c.args.callees.now) (number_of c.args.callees.now) (source_in c.args.placed.now.source.now) c.args.number c.in_ok-next-in-If.next c.args.kind.now c.in-If.field-0 c.in-If.yes c.in-If.no _ _ c.args.out.now c.push_loops.new.out
    c.push_loops-in-If.new.out c.in-If.is c.as_slice.ensures c.as_slice-in-If.ensures c.in_ok-next-in-If.ensures.next c.in_ok-next-in-If.ensures.out c.in_ok-last-in-If.ensures.out

pub push_loops_of-returns-in_ok-last-in-If-clause-next :
    goal.push_loops_of-returns-in_ok-last-in-If-clause-next
push_loops_of-returns-in_ok-last-in-If-clause-next t c =
    let first = counts_each (kinds_of c.as_slice.result.now) in
    let second = counts_each (kinds_of c.as_slice-in-If.result.now) in
    number-If c.args.number c.in_ok-next-in-If.next c.in_ok-last-in-If.last c.args.kind.now first second c.in_ok-next-in-If.ensures.next c.in_ok-last-in-If.ensures.next
    (counts-If c.args.kind.now c.in-If.field-0 c.in-If.yes c.in-If.no _ _ first second c.in-If.is c.as_slice.ensures c.as_slice-in-If.ensures refl refl)

pub push_loops_of-returns-in_ok-last-in-While-clause-out :
    goal.push_loops_of-returns-in_ok-last-in-While-clause-out
push_loops_of-returns-in_ok-last-in-While-clause-out t c =
    loops-While (program_of c.args.callees.now) (number_of c.args.callees.now) (source_in c.args.placed.now.source.now) c.args.number c.in_ok-next-in-While.next c.args.kind.now c.in-While.guard c.in-While.invariants _ c.in-While.body _ _
    c.in_ok-loop_proc-in-While.field-0 c.args.out.now c.push.new.self c.push_loops-in-While.new.out c.in-While.is c.as_slice-in-While.ensures c.as_slice-in-While-2.ensures c.as_slice-in-While-3.ensures c.in_ok-loop_proc-in-While.ensures
    c.in_ok-push-in-While.ensures.ok c.in_ok-next-in-While.ensures c.in_ok-last-in-While.ensures.out

pub push_loops_of-returns-in_ok-last-in-While-clause-next :
    goal.push_loops_of-returns-in_ok-last-in-While-clause-next
push_loops_of-returns-in_ok-last-in-While-clause-next t c =
    let body = kinds_of c.as_slice-in-While-3.result.now in
    number-While c.args.number c.in_ok-next-in-While.next c.in_ok-last-in-While.last c.args.kind.now (has_return_among body) (counts_each body) c.in_ok-next-in-While.ensures c.in_ok-last-in-While.ensures.next
    (counts-While c.args.kind.now c.in-While.guard c.in-While.invariants c.in-While.body _ (has_return_among body) (counts_each body) c.in-While.is c.as_slice-in-While-3.ensures refl refl)
