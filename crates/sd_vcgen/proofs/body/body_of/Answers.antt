use Rattle.std.specs.Prelude.{map}
use Rattle.sd_term.specs.Bank.{tree_at}
use Rattle.sd_vcgen.specs.Numbers.{context_of}
use Rattle.sd_vcgen.proofs.Numbers.{stands_later, is_within}
use Rattle.sd_vcgen.proofs.Bodies.{ends, ends_next}
use Rattle.sd_vcgen.proofs.body.body_of.Goals as goal

pub run_statements-requires-clause-state : goal.run_statements-requires-clause-state
run_statements-requires-clause-state c =
    let begun = c.in_ok-state.ensures.state in
    is_within c.put_truth.new.bank c.in_ok-state.state _ (stands_later c.begin.new.bank c.put_truth.new.bank c.in_ok-state.state _ c.in_ok-path.ensures.kept begun)

pub returns-clause-terms : goal.returns-clause-terms
returns-clause-terms c =
    let bank = c.args.bank.now in
    let run = c.in_ok-run_statements.ensures in
    let outs = c.in_ok-outs.ensures in
    ends c.begin.new.bank c.put_truth.new.bank c.run_statements.new.bank c.put_outs.new.bank (context_of c.args.context.now) c.args.procedure.now c.args.first (map (tree_at bank) c.args.ins.now) (map (tree_at bank) c.args.globals.now) c.in_ok-state.state c.run_statements.new.state c.in_ok-path.path c.as_slice.result.now c.in_ok-outs.outs
    c.in_ok-state.ensures.state c.in_ok-state.ensures.next c.in_ok-path.ensures.kept c.in_ok-path.ensures.term c.as_slice.ensures run.state outs.kept outs.terms

pub returns-clause-next : goal.returns-clause-next
returns-clause-next c =
    ends_next (context_of c.args.context.now) c.args.first c.in_ok-state.state.next c.run_statements.new.state.next c.args.procedure.now c.as_slice.result.now c.in_ok-state.ensures.next c.as_slice.ensures c.in_ok-run_statements.ensures.next
