use Rattle.sd_vcgen.proofs.Numbers.{fail_stands}
use Rattle.sd_vcgen.proofs.body.fail.Goals as goal

pub returns-clause-state : goal.returns-clause-state
returns-clause-state c =
    fail_stands c.args.bank.now c.or.new.self c.or-2.new.self c.args.state.now c.args.guard c.in_ok-flag.flag c.in_ok-gone.gone c.requires.state c.requires.guard
    c.in_ok-flag.ensures.kept c.in_ok-flag.ensures.number c.in_ok-flag.ensures.tree c.in_ok-gone.ensures.kept c.in_ok-gone.ensures.number c.in_ok-gone.ensures.tree
