use Rattle.sd_vcgen.proofs.Numbers.{extends_then, within_stays}
use Rattle.sd_vcgen.proofs.body.put_branches.Goals as goal

pub returns-clause-state : goal.returns-clause-state
returns-clause-state c =
    let a = c.args.bank.now in
    let b = c.put_expression.new.bank in
    let d = c.and.new.self in
    let e = c.not.new.self in
    let f = c.and-2.new.self in
    within_stays a f c.args.state.now
    (extends_then a b f c.in_ok-holds.ensures.kept (extends_then b d f c.in_ok-then_path.ensures.kept (extends_then d e f c.in_ok-fails.ensures.kept c.in_ok-else_path.ensures.kept))) c.requires.state
