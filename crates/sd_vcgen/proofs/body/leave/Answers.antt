use Rattle.sd_vcgen.proofs.Numbers.{leave_stands}
use Rattle.sd_vcgen.proofs.body.leave.Goals as goal

pub returns-clause-state : goal.returns-clause-state
returns-clause-state c =
    leave_stands c.args.bank.now c.or.new.self c.args.state.now c.args.guard c.in_ok-state.field-0 c.requires.state c.in_ok-state.ensures.kept c.in_ok-state.ensures.number c.in_ok-state.ensures.tree
