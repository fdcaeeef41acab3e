use Rattle.std.proofs.Common.{◌≡◌, ℕ, List, Result, Ok, Err, subst, OnOk}
use Rattle.sd_vcgen.specs.Body.{State}
use Rattle.sd_vcgen.specs.Numbers.{Stands, IsWithin, context_of}
use Rattle.sd_vcgen.specs.declared.body.BodyState.{BodyState}
use Rattle.sd_term.specs.Tree.{Tree}
use Rattle.sd_vcgen.proofs.Numbers.{extends_then, is_within}
use Rattle.sd_vcgen.proofs.Bodies.{if_is, if_counts, steps_next, counts_next}
use Rattle.sd_vcgen.proofs.body.+statement.Goals as goal

pub run_statements-loop-statement-preserved : goal.run_statements-loop-statement-preserved
run_statements-loop-statement-preserved t c =
    let a = c.args.bank.now in
    let b = c.loop-statement.bank in
    let d = c.run_statement.new.bank in
    let i = c.loop-statement.invariant in
    let run = c.in_ok-run_statement.ensures in
    record {
      state = run.within;
      kept = extends_then a b d i.kept run.kept;
      steps = steps_next (context_of c.args.context.now) a b d c.loop-statement.state c.run_statement.new.state c.args.statements.now c.loop-statement.statement-index c.statement-item.result c.args.path _ c.requires.path i.kept c.loop-statement-test.true c.statement-item.is
          run.state run.next i.steps;
      next = counts_next (context_of c.args.context.now) c.loop-statement.state.next c.run_statement.new.state.next _ c.args.statements.now c.loop-statement.statement-index c.statement-item.result c.loop-statement-test.true c.statement-item.is run.next i.next;
    }

pub run_statement-returns-in_ok-run_statements-in-If-clause-state :
    goal.run_statement-returns-in_ok-run_statements-in-If-clause-state
run_statement-returns-in_ok-run_statements-in-If-clause-state t c =
    let branches = c.in_ok-paths-in-If.ensures in
    let first = c.in_ok-run_statements-in-If.ensures in
    let is =
    if_is (context_of c.args.context.now) c.args.bank.now c.put_branches.new.bank c.run_statements.new.bank c.args.state.now c.run_statements.new.state c.args.statement.now c.in-If.condition c.in-If.yes c.in-If.no c.as_slice-in-If.result.now c.as_slice-in-If-2.result.now c.args.path
    c.in_ok-paths-in-If.paths.then_path c.in_ok-paths-in-If.paths.else_path c.in-If.is c.as_slice-in-If.ensures c.as_slice-in-If-2.ensures c.requires.state branches.kept first.kept branches.then_path branches.else_path first.state first.next in
    subst (λ (u : State). OnOk c.run_statements-in-If.result (Stands c.run_statements-in-If.new.bank c.run_statements-in-If.new.state u)) is c.run_statements-in-If.ensures.state

pub run_statement-returns-in_ok-run_statements-in-If-clause-next : goal.run_statement-returns-in_ok-run_statements-in-If-clause-next
run_statement-returns-in_ok-run_statements-in-If-clause-next t c =
    let counted = if_counts (context_of c.args.context.now) c.args.state.now.next c.run_statements.new.state.next c.args.statement.now c.in-If.condition c.in-If.yes c.in-If.no c.as_slice-in-If.result.now c.as_slice-in-If-2.result.now c.in-If.is c.as_slice-in-If.ensures c.as_slice-in-If-2.ensures c.in_ok-run_statements-in-If.ensures.next in
    subst (λ (k : ℕ). OnOk c.run_statements-in-If.result (c.run_statements-in-If.new.state.next ≡ k)) counted c.run_statements-in-If.ensures.next

within_on : {E : Type 0} (r : Result (Unit {0}) E) (bank : List Tree) (n : BodyState) (s : State) → OnOk r (Stands bank n s) → OnOk r (IsWithin bank n)
within_on (Ok x) bank n s h = is_within bank n s h
within_on (Err e) bank n s h = tt

pub run_statement-returns-in-Assign-clause-within : goal.run_statement-returns-in-Assign-clause-within
run_statement-returns-in-Assign-clause-within t c = within_on c.run_assignment.result c.run_assignment.new.bank c.run_assignment.new.state _ c.run_assignment.ensures.state

pub run_statement-returns-in-Call-clause-within : goal.run_statement-returns-in-Call-clause-within
run_statement-returns-in-Call-clause-within t c = within_on c.run_call.result c.run_call.new.bank c.run_call.new.state _ c.run_call.ensures.state

pub run_statement-returns-in-Assume-clause-within : goal.run_statement-returns-in-Assume-clause-within
run_statement-returns-in-Assume-clause-within t c = within_on c.run_assumption.result c.run_assumption.new.bank c.run_assumption.new.state _ c.run_assumption.ensures.state

pub run_statement-returns-in-Fail-clause-within : goal.run_statement-returns-in-Fail-clause-within
run_statement-returns-in-Fail-clause-within t c = within_on c.run_failure.result c.run_failure.new.bank c.run_failure.new.state _ c.run_failure.ensures.state

pub run_statement-returns-in-Return-clause-within : goal.run_statement-returns-in-Return-clause-within
run_statement-returns-in-Return-clause-within t c = within_on c.run_return.result c.run_return.new.bank c.run_return.new.state _ c.run_return.ensures.state
