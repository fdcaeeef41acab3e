use Rattle.std.proofs.Common.{◌≡◌, ◌∙◌, ap, refl, subst, OnOk, IfOk, List, ◌++◌}
use Rattle.sd_meaning.specs.Run.{kinds_of}
use Rattle.sd_core.specs.declared.CoreStmt.{CoreStmt}
use Rattle.sd_extract.specs.Extract.{Counts, plus, counts, counts_each, each_extracted}
use Rattle.sd_extract.specs.Scopes.{frame_in}
use Rattle.sd_extract.specs.Counted.{counts_in, has_return_among}
use Rattle.sd_extract.specs.Numbered.{program_of, number_of}
use Rattle.sd_extract.proofs.CodeCounts.{counts-If, counts-While, plus_next, counts_next}
use Rattle.sd_extract.proofs.CodeStatements.{extracted-If, extracted-While, extracted_next}
use Rattle.sd_extract.proofs.statement.+statement.Goals as goal

pub push_stmt-returns-in-While-clause-out : goal.push_stmt-returns-in-While-clause-out
push_stmt-returns-in-While-clause-out t c =
    subst (λ (ss : List CoreStmt). OnOk c.push_loop.result (c.push_loop.new.out ≡ c.args.out.now ++ ss))
    (extracted-While (program_of c.args.callees.now) (number_of c.args.callees.now) (frame_in c.args.frame.now) (counts_in c.args.at) c.args.kind.now c.in-While.field-0 c.in-While.field-1 c.in-While.body _ c.in-While.is c.as_slice-in-While.ensures)
    c.push_loop.ensures.out

pub push_stmt-returns-in-While-clause-next : goal.push_stmt-returns-in-While-clause-next
push_stmt-returns-in-While-clause-next t c =
    let body = kinds_of c.as_slice-in-While.result.now in
    subst (λ (n : Counts). IfOk c.push_loop.result (λ next. counts_in next ≡ plus (counts_in c.args.at) n))
    (counts-While c.args.kind.now c.in-While.field-0 c.in-While.field-1 c.in-While.body _ (has_return_among body) (counts_each body) c.in-While.is c.as_slice-in-While.ensures refl refl)
    c.push_loop.ensures.next

pub push_stmts-loop-stmt-preserved : goal.push_stmts-loop-stmt-preserved
push_stmts-loop-stmt-preserved t c =
    let s = c.stmt-item.result in
    let was = counts_in c.loop-stmt.next in
    let now = counts_in c.in_ok-next.next in
    record {
      out = extracted_next (program_of c.args.callees.now) (number_of c.args.callees.now) (frame_in c.args.frame.now) c.args.stmts.now c.loop-stmt.stmt-index s was now c.loop-stmt.out c.push_stmt.new.out _ c.loop-stmt-test.true c.stmt-item.is
          c.in_ok-next.ensures.out c.in_ok-next.ensures.next c.loop-stmt.invariant.out;
      next = counts_next c.args.stmts.now c.loop-stmt.stmt-index s was (counts s.kind) now _ c.loop-stmt-test.true c.stmt-item.is refl c.in_ok-next.ensures.next c.loop-stmt.invariant.next;
    }

pub push_stmt-returns-in_ok-push-in-If-clause-out : goal.push_stmt-returns-in_ok-push-in-If-clause-out
push_stmt-returns-in_ok-push-in-If-clause-out t c =
    let P = program_of c.args.callees.now in
    let number = number_of c.args.callees.now in
    let F = frame_in c.args.frame.now in
    let at = counts_in c.args.at in
    let next = counts_in c.in_ok-next-in-If.next in
    let first = c.in_ok-next-in-If.ensures.out ∙ ap (λ (ss : List CoreStmt). ss ++ each_extracted P number F at (kinds_of c.as_slice-in-If.result.now)) c.new-then.ensures in
    let second = c.in_ok-next-in-If-2.ensures.out ∙ ap (λ (ss : List CoreStmt). ss ++ each_extracted P number F next (kinds_of c.as_slice-in-If-2.result.now)) c.new-other.ensures in
    c.in_ok-push-in-If.ensures.ok
    ∙ ap (λ (ss : List CoreStmt). c.args.out.now ++ ss)
    (extracted-If P number F at next c.args.kind.now c.in-If.e c.in-If.yes c.in-If.no _ _ c.in_ok-holds-in-If.holds c.push_stmts.new.out c.push_stmts-in-If.new.out c.in-If.is c.as_slice-in-If.ensures c.as_slice-in-If-2.ensures
    c.in_ok-holds-in-If.ensures c.in_ok-next-in-If.ensures.next first second)

pub push_stmt-returns-in_ok-push-in-If-clause-next : goal.push_stmt-returns-in_ok-push-in-If-clause-next
push_stmt-returns-in_ok-push-in-If-clause-next t c =
    let first = counts_each (kinds_of c.as_slice-in-If.result.now) in
    let second = counts_each (kinds_of c.as_slice-in-If-2.result.now) in
    plus_next (counts_in c.args.at) first second _ _ _ c.in_ok-next-in-If.ensures.next c.in_ok-next-in-If-2.ensures.next
    (counts-If c.args.kind.now c.in-If.e c.in-If.yes c.in-If.no _ _ first second c.in-If.is c.as_slice-in-If.ensures c.as_slice-in-If-2.ensures refl refl)
