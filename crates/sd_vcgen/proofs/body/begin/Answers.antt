use Rattle.sd_vcgen.proofs.Bodies.{begins}
use Rattle.sd_vcgen.proofs.body.begin.Goals as goal

pub returns-clause-state : goal.returns-clause-state
returns-clause-state c =
    let first = c.in_ok-put_starts.ensures in
    let second = c.in_ok-put_starts-2.ensures in
    begins c.args.bank.now c.put_truth.new.bank c.put_truth-2.new.bank c.put_starts.new.bank c.put_starts-2.new.bank c.args.procedure.now c.args.ins.now c.args.globals.now c.in_ok-slots.slots c.put_starts.new.slots c.put_starts-2.new.slots c.in_ok-globals.globals c.new.result c.new-2.result c.as_slice.result.now c.as_slice-2.result.now
    c.in_ok-flag.flag c.in_ok-gone.gone c.args.first c.requires.ins c.requires.globals c.in_ok-flag.ensures.kept c.in_ok-flag.ensures.term c.in_ok-gone.ensures.kept c.in_ok-gone.ensures.term c.in_ok-slots.ensures c.as_slice.ensures first.kept first.slots c.as_slice-2.ensures second.kept second.slots
    c.in_ok-globals.ensures c.new.ensures c.new-2.ensures
